use Rattle.std.proofs.lemmas.Cmp.{nat_cmp_total}
use Rattle.std.proofs.lemmas.Map.Lookups.{btree_map_from_get, exact_unsigned}
use Rattle.vm_iotlb.specs.Keys.{range_at}
use Rattle.vm_iotlb.proofs.MapLemmas.{back_at}
use Rattle.vm_iotlb.proofs.ranges.take_back.Goals as goal

pub returns-in-Some : goal.returns-in-Some
returns-in-Some c = λ before ordered free was.
    btree_map_from_get nat_cmp_total c.remove.new.self before c.remove.ensures.ordered ordered
    (λ q. back_at c.in-Some.range (range_at before.entries) q (range_at c.args.ranges.now.entries q)
    (range_at c.remove.new.self.entries q) (rw c.in-Some.is at free) (rw c.in-Some.is at (was q)) (c.remove.ensures.updates.0 q))
    exact_unsigned

pub returns-in-None : goal.returns-in-None
returns-in-None c = λ before ordered free was.
    btree_map_from_get nat_cmp_total c.args.ranges.now before c.law_ordered.ensures ordered (λ q. rw c.in-None.is at (was q)) exact_unsigned
