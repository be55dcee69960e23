use Rattle.std.proofs.Common.{◌-◌, ◌≡◌, ◌+◌, ◌≤◌, length, take}
use Rattle.std.specs.List.{zip}
use Rattle.vm_memory_core.specs.Host.{shape}
use Rattle.vm_memory.specs.Layout.{place}
use Rattle.vm_memory.specs.Memory.{memory_of, circular, reached, stored_all}
use Rattle.vm_memory.proofs.collection.GuestRegionCollection.write_some.Given as goal

abbrev pub invariant-loop-done : goal.invariant-loop-done
invariant-loop-done g l = record {
  within : l.done ≤ length l.bytes;
  same_shape : shape l.host ≡ shape l.initial.host;
  count : l.done + reached (place l.self) (circular (l.addr + l.done) (length l.bytes - l.done))
      ≡ reached (place l.self) (circular l.addr (length l.bytes));
  stored :
      memory_of l.host l.self
      ≡ stored_all (memory_of l.initial.host l.self) (zip (take l.done (circular l.addr (length l.bytes))) l.bytes);
}

abbrev pub decreases-loop-done : goal.decreases-loop-done
decreases-loop-done g l = length l.bytes - l.done
