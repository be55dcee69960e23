use Rattle.std.proofs.Common.{◌≡◌, ◌++◌, map, drop}
use Rattle.vm_memory_core.specs.Window.{byte_in}
use Rattle.vm_memory_core.specs.Window.{places}
use Rattle.vm_memory_core.proofs.host_blocks.HostBlocks.fetch_windows.Given as goal

abbrev pub invariant-loop-window : goal.invariant-loop-window
invariant-loop-window g l = l.bytes.items ++ map (byte_in (g.Self.HostBlocks.host l.self)) (places (drop l.window-index l.windows))
    ≡ map (byte_in (g.Self.HostBlocks.host l.self)) (places l.windows)
