use Rattle.std.proofs.Common.{◌≡◌, Some, None, ap, sym, ◌∙◌, arith}
use Rattle.vm_iotlb.specs.Keys.{HasAddress}
use Rattle.vm_iotlb.specs.AddressRuns.{may_pass}
use Rattle.vm_iotlb.specs.declared.range.IotlbRange.{IotlbRange}
use Rattle.vm_iotlb.proofs.LookupLemmas.{none_having, piece_having, range_having}
use Rattle.vm_iotlb.proofs.iotlb.Iotlb.piece_at.Goals as goal

pub returns-in_default-clause-none : goal.returns-in_default-clause-none
returns-in_default-clause-none c none =
    let has : HasAddress c.self.inside.ranges.entries c.args.iova.0 None = rw c.in_default.is at c.having.ensures in
    let nothing = rw c.self.view_is at (none_having c.self.inside.ranges.entries c.args.iova.0 c.self.invariant.0 c.self.invariant.1 has) in
    ap (may_pass c.args.access) nothing

pub returns-then-not-allow-clause-none : goal.returns-then-not-allow-clause-none
returns-then-not-allow-clause-none c none =
    let has : HasAddress c.self.inside.ranges.entries c.args.iova.0 (Some c.in-Some.range) = rw c.in-Some.is at c.having.ensures in
    let held = rw c.self.view_is at
    (range_having c.self.inside.ranges.entries c.args.iova.0 c.in-Some.range c.self.invariant.0 c.self.invariant.1 has) in
    ap (may_pass c.args.access) held.0 ∙ sym c.if-not-allow.ensures

pub overflow_add-result : goal.overflow_add-result
overflow_add-result c =
    let has : HasAddress c.self.inside.ranges.entries c.args.iova.0 (Some c.in-Some.range) = rw c.in-Some.is at c.having.ensures in
    let held = range_having c.self.inside.ranges.entries c.args.iova.0 c.in-Some.range c.self.invariant.0 c.self.invariant.1 has in
    omega (arith, has.0, has.1, held.2)

pub returns-clause-some : goal.returns-clause-some
returns-clause-some c =
    let has : HasAddress c.self.inside.ranges.entries c.args.iova.0 (Some c.in-Some.range) = rw c.in-Some.is at c.having.ensures in
    let held = rw c.self.view_is at
    (range_having c.self.inside.ranges.entries c.args.iova.0 c.in-Some.range c.self.invariant.0 c.self.invariant.1 has) in
    ap (may_pass c.args.access) held.0 ∙ sym c.if-not-allow.ensures

pub returns-clause-piece : goal.returns-clause-piece
returns-clause-piece c =
    let has : HasAddress c.self.inside.ranges.entries c.args.iova.0 (Some c.in-Some.range) = rw c.in-Some.is at c.having.ensures in
    rw (c.self.view_is, sym c.min-stop.ensures)
    at (piece_having c.self.inside.ranges.entries c.args.iova.0 c.args.most c.in-Some.range c.requires.some c.self.invariant.0
    c.self.invariant.1 has)

pub returns-clause-fits : goal.returns-clause-fits
returns-clause-fits c =
    let has : HasAddress c.self.inside.ranges.entries c.args.iova.0 (Some c.in-Some.range) = rw c.in-Some.is at c.having.ensures in
    let held = range_having c.self.inside.ranges.entries c.args.iova.0 c.in-Some.range c.self.invariant.0 c.self.invariant.1 has in
    let len = c.min-stop.ensures in
    (omega (arith, has.0, has.1, held.2, len), omega (arith, has.1, held.1, len))
