use Rattle.std.proofs.Common.{◌-◌, ◌≡◌, ◌+◌, ◌++◌, ◌≤◌, ℕ, List}
use Rattle.vm_memory_core.specs.Window.{Window, places, AllLieIn}
use Rattle.vm_memory.specs.Layout.{AreHeld}
use Rattle.vm_memory.specs.Memory.{after, circular, io_memory, located, location, table_in}
use Rattle.vm_memory.specs.Translated.{translated_left, AreLeft}
use Rattle.vm_memory.specs.Slices.{AreLongest}
use Rattle.vm_memory.proofs.JoinedLemmas.{left_after}
use Rattle.vm_memory.proofs.io_ranges.push_io.Given as goal

abbrev pub invariant-loop-done : goal.invariant-loop-done
invariant-loop-done g l = record {
  within : l.done ≤ l.len;
  left : AreLeft (table_in (g.H.HostBlocks.host l.h) l.table) (l.addr + l.done) (l.len - l.done) l.left.piece l.left.rest;
  found :
      after (places l.windows.items)
      (located (location (io_memory (g.H.HostBlocks.host l.h) (g.M.GuestMemoryBackend.layout l.backend) l.table l.set) l.fn.access)
      (circular (l.addr + l.done) (l.len - l.done)))
      ≡ after (places l.initial.windows.items) (located (location (io_memory (g.H.HostBlocks.host l.h)
      (g.M.GuestMemoryBackend.layout l.backend) l.table l.set) l.fn.access) (circular l.addr l.len));
  longest :
      (added : List Window) × (l.windows.items ≡ l.initial.windows.items ++ added) × AreLongest
      (translated_left (g.M.GuestMemoryBackend.layout l.backend) (table_in (g.H.HostBlocks.host l.h) l.table)) (circular l.addr l.len) added
      × (left_after (circular l.addr l.len) added ≡ circular (l.addr + l.done) (l.len - l.done));
  room : l.initial.windows.capacity ≤ l.windows.capacity;
  held : (lengths : List ℕ) → AreHeld lengths (g.M.GuestMemoryBackend.layout l.backend) → AllLieIn lengths l.initial.windows.items →
      AllLieIn lengths l.windows.items;
}

abbrev pub decreases-loop-done : goal.decreases-loop-done
decreases-loop-done g l = l.len - l.done
