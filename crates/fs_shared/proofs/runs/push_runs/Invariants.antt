use Rattle.std.proofs.Common.{◌≡◌, ◌≤◌, ◌-◌, ◌++◌, ℕ, List, length, map}
use Rattle.vm_memory_core.specs.Host.{lengths}
use Rattle.vm_memory_core.specs.Window.{span}
use Rattle.fs_shared.specs.Pages.{page_of}
use Rattle.fs_shared.specs.Runs.{AreRuns}
use Rattle.fs_shared.proofs.runs.push_runs.Given as goal

abbrev pub invariant-loop-done : goal.invariant-loop-done
invariant-loop-done g l = record {
  within : l.done ≤ l.window.len;
  runs : (before : List ℕ) → length before ≡ l.from → AreRuns before l.initial.runs.items
      → AreRuns (before ++ map (page_of (lengths (g.H.HostBlocks.host l.host))) (span l.window.block l.window.offset l.window.io l.done))
      l.runs.items;
}

abbrev pub decreases-loop-done : goal.decreases-loop-done
decreases-loop-done g l = l.window.len - l.done
