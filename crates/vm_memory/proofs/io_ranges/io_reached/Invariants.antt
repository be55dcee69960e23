use Rattle.std.proofs.Common.{◌-◌, ◌≡◌, ◌+◌, ◌≤◌}
use Rattle.vm_memory.specs.Memory.{circular, io_memory, location, reached, table_in}
use Rattle.vm_memory.specs.Translated.{AreLeft}
use Rattle.vm_memory.proofs.io_ranges.io_reached.Given as goal

abbrev pub invariant-loop-done : goal.invariant-loop-done
invariant-loop-done g l = record {
  within : l.done ≤ l.len;
  left : AreLeft (table_in (g.H.HostBlocks.host l.h) l.table) (l.addr + l.done) (l.len - l.done) l.left.piece l.left.rest;
  count :
      l.done + reached (location (io_memory (g.H.HostBlocks.host l.h) (g.M.GuestMemoryBackend.layout l.backend) l.table l.set) l.fn.access)
      (circular (l.addr + l.done) (l.len - l.done))
      ≡ reached (location (io_memory (g.H.HostBlocks.host l.h) (g.M.GuestMemoryBackend.layout l.backend) l.table l.set) l.fn.access)
      (circular l.addr l.len);
}

abbrev pub decreases-loop-done : goal.decreases-loop-done
decreases-loop-done g l = l.len - l.done
