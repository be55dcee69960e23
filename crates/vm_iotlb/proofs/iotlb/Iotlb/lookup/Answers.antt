use Rattle.std.proofs.Common.{◌≡◌, ◌-◌, sym, arith}
use Rattle.vm_iotlb.specs.Ranges.{table_held}
use Rattle.vm_iotlb.specs.AddressRuns.{pieces}
use Rattle.vm_iotlb.proofs.PieceLemmas.{joined_pieces}
use Rattle.vm_iotlb.proofs.LookupLemmas.{may_within}
use Rattle.vm_iotlb.proofs.iotlb.Iotlb.lookup.Goals as goal

pub returns-in-Some-last_up_to-clause-found : goal.returns-in-Some-last_up_to-clause-found
returns-in-Some-last_up_to-clause-found c =
    let end = c.in-Some.end in
    let count : c.args.length ≡ end - c.args.iova.0 = omega (arith, c.in-Some.ensures) in
    let all = rw c.self.view_is at
    (may_within c.self.inside.ranges.entries c.args.access c.args.iova.0 end c.in-Some-last_up_to.range.now c.self.invariant.0
    c.self.invariant.1 c.in-Some-last_up_to.ensures
    (omega (arith, c.in-Some.ensures)) (omega arith) (sym c.if-allow.ensures)) in
    let whole : c.from_range.result ≡ pieces (table_held c.args.self.now) c.args.iova.0 (end - c.args.iova.0) =
    rw c.self.view_is at c.from_range.ensures in
    rw count (
      omega (arith, c.in-Some.ensures),
      all,
      whole,
      rw whole (joined_pieces (table_held c.args.self.now) c.args.access (end - c.args.iova.0) c.args.iova.0 all),
    )

pub from_range-requires-clause-mapped : goal.from_range-requires-clause-mapped
from_range-requires-clause-mapped c = (
  c.args.access,
  may_within c.self.inside.ranges.entries c.args.access c.args.iova.0 c.in-Some.end c.in-Some-last_up_to.range.now c.self.invariant.0
      c.self.invariant.1 c.in-Some-last_up_to.ensures
      (omega (arith, c.in-Some.ensures)) (omega arith) (sym c.if-allow.ensures),
)
