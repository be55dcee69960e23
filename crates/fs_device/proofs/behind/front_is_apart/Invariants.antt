use Rattle.std.proofs.Common.{◌≤◌, length, drop, take, ◌↔◌}
use Rattle.vm_memory_core.specs.Window.{places}
use Rattle.plain_machine.specs.Apart.{Apart}
use Rattle.fs_device.proofs.behind.front_is_apart.Given as goal

abbrev pub invariant-loop-left : goal.invariant-loop-left
invariant-loop-left l = record {
  enough : l.left ≤ length l.front.places;
  decides : Apart (take l.count (places l.windows)) (drop l.count (places l.windows)) ↔ Apart (take l.left l.front.places)
      (drop l.count (places l.windows));
}

abbrev pub decreases-loop-left : goal.decreases-loop-left
decreases-loop-left l = l.left
