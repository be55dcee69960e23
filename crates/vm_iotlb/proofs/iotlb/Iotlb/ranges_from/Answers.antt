use Rattle.vm_iotlb.proofs.MapLemmas.{from_divided}
use Rattle.vm_iotlb.proofs.iotlb.Iotlb.ranges_from.Goals as goal

pub returns-clause-ranges : goal.returns-clause-ranges
returns-clause-ranges c = rw (c.range.ensures.between tt)
    ((from_divided c.self.inside.ranges.entries c.key_from.result c.args.iova c.self.invariant.0 c.self.invariant.1 c.key_from.ensures).0)

pub returns-clause-table : goal.returns-clause-table
returns-clause-table c = rw (c.range.ensures.between tt, ← c.self.view_is)
    ((from_divided c.self.inside.ranges.entries c.key_from.result c.args.iova c.self.invariant.0 c.self.invariant.1 c.key_from.ensures).2)

pub returns-clause-first : goal.returns-clause-first
returns-clause-first c = rw (c.range.ensures.between tt)
    ((from_divided c.self.inside.ranges.entries c.key_from.result c.args.iova c.self.invariant.0 c.self.invariant.1 c.key_from.ensures).1)
