use Rattle.std.proofs.Common.{◌≡◌, length, map, take}
use Rattle.vm_memory_core.specs.Host.{lengths}
use Rattle.vm_memory_core.specs.Window.{places}
use Rattle.fs_shared.specs.Pages.{page_of}
use Rattle.fs_shared.specs.Runs.{AreRuns}
use Rattle.fs_shared.proofs.runs.page_runs.Given as goal

abbrev pub invariant-loop-window : goal.invariant-loop-window
invariant-loop-window g l = record {
  from : l.from ≡ length (places (take l.window-index l.windows));
  runs : AreRuns (map (page_of (lengths (g.H.HostBlocks.host l.host))) (places (take l.window-index l.windows))) l.runs.items;
}
