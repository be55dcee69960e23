use Rattle.std.proofs.Common.{◌≡◌, ◌≤◌, ◌-◌, ◌++◌, length, map, take, drop}
use Rattle.vm_memory_core.specs.Window.{byte_in, places}
use Rattle.fs_device.proofs.request_windows.copy_front.Given as goal

abbrev pub invariant-loop-window : goal.invariant-loop-window
invariant-loop-window g l = record {
  size : length l.buffer ≡ length l.initial.buffer;
  within : l.done ≤ length l.buffer;
  enough : length l.buffer - l.done ≤ length (places (drop l.window-index l.windows));
  got : take l.done l.buffer
      ++ map (byte_in (g.H.HostBlocks.host l.host)) (take (length l.buffer - l.done) (places (drop l.window-index l.windows)))
      ≡ map (byte_in (g.H.HostBlocks.host l.host)) (take (length l.buffer) (places l.windows));
}
