use Rattle.std.proofs.Common.{◌-◌, ◌≡◌, ◌+◌, ◌≤◌, length, map, take, drop}
use Rattle.vm_memory.specs.Layout.{place}
use Rattle.vm_memory.specs.Memory.{memory_of, circular, reached, byte}
use Rattle.vm_memory.proofs.collection.GuestRegionCollection.read_some.Given as goal

abbrev pub invariant-loop-done : goal.invariant-loop-done
invariant-loop-done g l = record {
  within : l.done ≤ length l.initial.buffer;
  count : l.done + reached (place l.self) (circular (l.addr + l.done) (length l.initial.buffer - l.done))
      ≡ reached (place l.self) (circular l.addr (length l.initial.buffer));
  front : take l.done l.buffer
      ≡ map (byte (memory_of (g.H.HostBlocks.host l.host) l.self)) (take l.done (circular l.addr (length l.initial.buffer)));
  back : drop l.done l.buffer ≡ drop l.done l.initial.buffer;
}

abbrev pub decreases-loop-done : goal.decreases-loop-done
decreases-loop-done g l = length l.initial.buffer - l.done
