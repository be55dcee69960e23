use Rattle.std.proofs.Common.{◌-◌, ◌≡◌, ◌+◌, ◌++◌, ◌≤◌, ℕ, List}
use Rattle.vm_memory_core.specs.Window.{Window, places, AllLieIn}
use Rattle.vm_memory.specs.Layout.{left_at, place, AreHeld}
use Rattle.vm_memory.specs.Memory.{circular, located, after}
use Rattle.vm_memory.specs.Slices.{AreLongest}
use Rattle.vm_memory.proofs.JoinedLemmas.{left_after}
use Rattle.vm_memory.proofs.collection.GuestRegionCollection.push_physical.Given as goal

abbrev pub invariant-loop-done : goal.invariant-loop-done
invariant-loop-done g l = record {
  within : l.done ≤ l.len;
  found :
      after (places l.windows.items) (located (place l.self) (circular (l.addr.0 + l.done) (l.len - l.done)))
      ≡ after (places l.initial.windows.items) (located (place l.self) (circular l.addr.0 l.len));
  longest :
      (added : List Window) × (l.windows.items ≡ l.initial.windows.items ++ added)
      × AreLongest (left_at l.self) (circular l.addr.0 l.len) added
      × (left_after (circular l.addr.0 l.len) added ≡ circular (l.addr.0 + l.done) (l.len - l.done));
  room : l.initial.windows.capacity ≤ l.windows.capacity;
  held : (lengths : List ℕ) → AreHeld lengths l.self → AllLieIn lengths l.initial.windows.items → AllLieIn lengths l.windows.items;
}

abbrev pub decreases-loop-done : goal.decreases-loop-done
decreases-loop-done g l = l.len - l.done
