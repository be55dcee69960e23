use Rattle.std.proofs.Common.{◌-◌, ◌≡◌, ◌+◌, ◌≤◌, length, map, take, drop}
use Rattle.vm_iotlb.specs.declared.permissions.Permissions.TheVariants.{Read}
use Rattle.vm_memory.specs.Memory.{byte, circular, io_memory, location, reached, table_in}
use Rattle.vm_memory.specs.Translated.{AreLeft}
use Rattle.vm_memory.proofs.io_ranges.read_io.Given as goal

abbrev pub invariant-loop-done : goal.invariant-loop-done
invariant-loop-done g l = record {
  within : l.done ≤ length l.initial.buffer;
  left : AreLeft (table_in (g.H.HostBlocks.host l.h) l.table) (l.addr + l.done) (length l.initial.buffer - l.done) l.left.piece l.left.rest;
  count : l.done + reached (location (io_memory (g.H.HostBlocks.host l.h) (g.M.GuestMemoryBackend.layout l.backend) l.table l.set) Read)
      (circular (l.addr + l.done) (length l.initial.buffer - l.done)) ≡ reached
      (location (io_memory (g.H.HostBlocks.host l.h) (g.M.GuestMemoryBackend.layout l.backend) l.table l.set) Read)
      (circular l.addr (length l.initial.buffer));
  front : take l.done l.buffer ≡ map (byte (io_memory (g.H.HostBlocks.host l.h) (g.M.GuestMemoryBackend.layout l.backend) l.table l.set))
      (take l.done (circular l.addr (length l.initial.buffer)));
  back : drop l.done l.buffer ≡ drop l.done l.initial.buffer;
}

abbrev pub decreases-loop-done : goal.decreases-loop-done
decreases-loop-done g l = length l.initial.buffer - l.done
