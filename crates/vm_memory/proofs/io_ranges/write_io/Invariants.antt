use Rattle.std.proofs.Common.{◌-◌, ◌≡◌, ◌+◌, ◌≤◌, length, drop}
use Rattle.std.specs.List.{zip}
use Rattle.vm_iotlb.specs.declared.permissions.Permissions.TheVariants.{Write}
use Rattle.vm_memory_core.specs.Host.{shape}
use Rattle.vm_memory_core.specs.Window.{put_all}
use Rattle.vm_memory.specs.Bytes.{places_at}
use Rattle.vm_memory.specs.Memory.{circular, io_memory, location, reached}
use Rattle.vm_memory.proofs.io_ranges.write_io.Given as goal

abbrev pub invariant-loop-done : goal.invariant-loop-done
invariant-loop-done g l = let f = location (io_memory l.initial.h (g.M.GuestMemoryBackend.layout l.backend) l.table l.set) Write in record {
  within : l.done ≤ length l.bytes;
  same_shape : shape l.h ≡ shape l.initial.h;
  same_tables : l.h.tables ≡ l.initial.h.tables;
  count : l.done + reached f (circular (l.addr + l.done) (length l.bytes - l.done)) ≡ reached f (circular l.addr (length l.bytes));
  stored : put_all l.h (zip (places_at f (circular (l.addr + l.done) (length l.bytes - l.done))) (drop l.done l.bytes))
      ≡ put_all l.initial.h
      (zip (places_at f (circular l.addr (length l.bytes))) l.bytes);
}

abbrev pub decreases-loop-done : goal.decreases-loop-done
decreases-loop-done g l = length l.bytes - l.done
