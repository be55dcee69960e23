use Rattle.std.proofs.Common.{◌≡◌}
use Rattle.std.specs.List.{list_any}
use Rattle.vm_memory.specs.Layout.{overlap}
use Rattle.fs_device.proofs.layouts.overlaps_any.Given as goal

-- one of all overlaps it if one of those that are left does
abbrev pub invariant-loop-other : goal.invariant-loop-other
invariant-loop-other l =
    (goal.iterator-loop-other).can_next l.other-iterator × (goal.iterator-loop-other).is_finite l.other-iterator
    × (list_any (overlap l.region) l.layout ≡ list_any (overlap l.region) l.other-iterator)
