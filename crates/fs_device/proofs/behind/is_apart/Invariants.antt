use Rattle.std.proofs.Common.{length, drop, ◌↔◌}
use Rattle.vm_memory_core.specs.Window.{places, places_of}
use Rattle.plain_machine.specs.Apart.{Apart}
use Rattle.fs_device.proofs.behind.is_apart.Given as goal

abbrev pub invariant-loop-rest : goal.invariant-loop-rest
invariant-loop-rest l = record {
  decides : Apart (places_of l.window) (drop l.count (places l.windows)) ↔ Apart (places_of l.window) l.rest.places;
}

abbrev pub decreases-loop-rest : goal.decreases-loop-rest
decreases-loop-rest l = length l.rest.places
