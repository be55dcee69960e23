use Rattle.std.proofs.Common.{◌≡◌, ◌↔◌}
use Rattle.fs_shared.proofs.same_layout.same_layout.Given as goal

-- the two are the same if what is left of them is
abbrev pub invariant-loop-region : goal.invariant-loop-region
invariant-loop-region l =
    (goal.iterator-loop-region).can_next l.region-iterator × (goal.iterator-loop-region).is_finite l.region-iterator
    × ((l.other ≡ l.one) ↔ (l.others ≡ l.region-iterator))
