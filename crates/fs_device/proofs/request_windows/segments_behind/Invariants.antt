use Rattle.std.proofs.Common.{◌≡◌, ◌≤◌, ◌+◌, ◌-◌, ◌++◌, length, map, drop, vec_capacity, vec_len}
use Rattle.server_segments.specs.Segments.{joined}
use Rattle.vm_memory_core.specs.Window.{byte_in, places}
use Rattle.fs_device.proofs.request_windows.segments_behind.Given as goal

abbrev pub invariant-loop-window : goal.invariant-loop-window
invariant-loop-window g l = record {
  capacity : vec_len l.segments + (length l.windows - l.window-index) ≤ vec_capacity l.segments;
  got : joined l.segments.items ++ map (byte_in (g.H.HostBlocks.host l.host)) (drop l.left (places (drop l.window-index l.windows)))
      ≡ l.front ++ map (byte_in (g.H.HostBlocks.host l.host)) (drop (length l.front) (places l.windows));
}
