use Rattle.std.proofs.Common.{◌≡◌, ◌+◌, ◌++◌, length, map, take, drop}
use Rattle.vm_memory_core.specs.Window.{byte_in}
use Rattle.vm_memory_core.specs.Window.{places}
use Rattle.vm_memory_core.proofs.host_blocks.HostBlocks.read_windows.Given as goal

abbrev pub invariant-loop-window : goal.invariant-loop-window
invariant-loop-window g l = record {
  fits : length l.buffer ≡ l.done + length (places (drop l.window-index l.windows));
  got : take l.done l.buffer ++ map (byte_in (g.Self.HostBlocks.host l.self)) (places (drop l.window-index l.windows))
      ≡ map (byte_in (g.Self.HostBlocks.host l.self)) (places l.windows);
}
