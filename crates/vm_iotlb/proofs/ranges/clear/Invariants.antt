use Rattle.std.proofs.Common.{◌≡◌, ℕ}
use Rattle.std.specs.BTreeMap.{btree_map_len}
use Rattle.vm_iotlb.specs.Keys.{cleared, range_at}
use Rattle.vm_iotlb.proofs.ranges.clear.Given as goal

abbrev pub invariant-loop-key : goal.invariant-loop-key
invariant-loop-key l =
    (q : ℕ) → cleared l.from l.to (range_at l.ranges.entries) q ≡ cleared l.from l.to (range_at l.initial.ranges.entries) q

abbrev pub decreases-loop-key : goal.decreases-loop-key
decreases-loop-key l = btree_map_len l.ranges
