use Rattle.std.proofs.Common.{◌≡◌, ◌≤◌, ◌-◌, ◌++◌, Bool, List, length, map, Option, vec_capacity}
use Rattle.vm_memory_core.specs.Host.{shape}
use Rattle.plain_machine.specs.declared.error.DeviceError.{DeviceError}
use Rattle.plain_machine.specs.Step.{State, Exchange}
use Rattle.fs_device.specs.DeviceView.{state_of}
use Rattle.fs_device.specs.CommandView.{exchanged_of, KickLists}
use Rattle.fs_device.proofs.device.Device.process_queue.Given as goal

abbrev pub invariant-loop : goal.invariant-loop
invariant-loop g l = record {
  count : length l.done.items ≡ l.counter;
  most : l.counter ≤ l.most;
  room : l.most ≤ vec_capacity l.done;
  kept : shape (g.H.HostBlocks.host l.host) ≡ shape (g.H.HostBlocks.host l.initial.host);
  run : (rest : List (Exchange × Bool)) (refused : Option DeviceError) (after : State _) →
      KickLists g.F.FileSystemBase.may (state_of (g.M.GuestMemory.memory l.mem (g.H.HostBlocks.host l.host)) l.self) l.queue
      (l.most - l.counter) rest refused after →
      KickLists g.F.FileSystemBase.may (state_of (g.M.GuestMemory.memory l.mem (g.H.HostBlocks.host l.initial.host)) l.initial.self)
      l.queue l.most
      (map exchanged_of l.done.items ++ rest) refused after;
}
