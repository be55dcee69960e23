use Rattle.std.proofs.Common.{◌-◌, ◌≡◌, ◌+◌, ◌≤◌}
use Rattle.vm_memory.specs.Layout.{place}
use Rattle.vm_memory.specs.Memory.{circular, reached}
use Rattle.vm_memory.proofs.collection.GuestRegionCollection.reached_len.Given as goal

abbrev pub invariant-loop-done : goal.invariant-loop-done
invariant-loop-done g l = record {
  within : l.done ≤ l.len;
  count : l.done + reached (place l.self) (circular (l.addr + l.done) (l.len - l.done)) ≡ reached (place l.self) (circular l.addr l.len);
}

abbrev pub decreases-loop-done : goal.decreases-loop-done
decreases-loop-done g l = l.len - l.done
