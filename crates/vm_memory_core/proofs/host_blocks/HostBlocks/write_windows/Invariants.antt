use Rattle.std.proofs.Common.{◌≡◌, ◌+◌, ◌≤◌, length, drop}
use Rattle.std.specs.List.{zip}
use Rattle.vm_memory_core.specs.Window.{put_all}
use Rattle.vm_memory_core.specs.Host.{shape}
use Rattle.vm_memory_core.specs.Window.{places}
use Rattle.vm_memory_core.proofs.host_blocks.HostBlocks.write_windows.Given as goal

abbrev pub invariant-loop-window : goal.invariant-loop-window
invariant-loop-window g l = record {
  within : l.done ≤ length l.bytes;
  fits : length l.bytes ≤ l.done + length (places (drop l.window-index l.windows));
  same_shape : shape (g.Self.HostBlocks.host l.self) ≡ shape (g.Self.HostBlocks.host l.initial.self);
  stored : put_all (g.Self.HostBlocks.host l.self) (zip (places (drop l.window-index l.windows)) (drop l.done l.bytes)) ≡ put_all
      (g.Self.HostBlocks.host l.initial.self) (zip (places l.windows) l.bytes);
}
