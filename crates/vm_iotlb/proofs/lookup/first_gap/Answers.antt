use Rattle.std.proofs.Common.{◌≡◌, ◌-◌, ◌∷◌, ◌++◌, List, [], sym, ◌∙◌, arith}
use Rattle.std.specs.Map.{values_of}
use Rattle.vm_iotlb.specs.declared.permissions.Permissions.TheVariants.{No}
use Rattle.vm_iotlb.specs.declared.range.IotlbRange.{IotlbRange}
use Rattle.vm_iotlb.specs.Ranges.{AreRanges, Agree, EndsAbove}
use Rattle.vm_iotlb.specs.AddressRuns.{between, missing}
use Rattle.vm_iotlb.proofs.RunLemmas.{agree_rest, nothing_left}
use Rattle.vm_iotlb.proofs.PieceLemmas.{above_rest, between_some, fails_end, gap_part, range_part}
use Rattle.vm_iotlb.proofs.lookup.first_gap.Goals as goal

pub returns-then-end-next : goal.returns-then-end-next
returns-then-end-next c =
    λ table agree. c.loop-range.invariant.same table agree ∙ (nothing_left table No c.loop-range.next c.args.end (omega arith)).0

pub returns-then-next-range : goal.returns-then-next-range
returns-then-next-range c = λ table agree.
    let r : IotlbRange = c.in-Some.range.now in
    let l : List IotlbRange = values_of c.next.new.self in
    let are : AreRanges (r ∷ l) = rw c.in-Some.ensures.steps at c.loop-range.invariant.ranges in
    let rest : Agree table (r ∷ l) c.loop-range.next c.args.end = rw c.in-Some.ensures.steps at (c.loop-range.invariant.rest table agree) in
    let gap = gap_part table No r l c.loop-range.next c.min-stop.result c.args.end are rest (omega arith) (omega arith) in (
      missing table c.min-stop.result (c.args.end - c.min-stop.result),
      c.loop-range.invariant.same table agree ∙ rw (between_some c.loop-range.next c.min-stop.result (omega arith)) at gap.0,
    )

pub loop-range-preserved : goal.loop-range-preserved
loop-range-preserved c =
    let r : IotlbRange = c.in-Some.range.now in
    let l : List IotlbRange = values_of c.next.new.self in
    let are : AreRanges (r ∷ l) = rw c.in-Some.ensures.steps at c.loop-range.invariant.ranges in
    let first : EndsAbove c.loop-range.next (r ∷ l) = rw c.in-Some.ensures.steps at c.loop-range.invariant.first in
    record {
      order = omega arith;
      most = omega arith;
      first = above_rest r l c.min-next.result are (omega arith);
      ranges = are.2;
      rest = λ table agree.
          let rest : Agree table (r ∷ l) c.loop-range.next c.args.end =
          rw c.in-Some.ensures.steps at (c.loop-range.invariant.rest table agree) in
          agree_rest table r l c.loop-range.next c.min-next.result c.args.end rest (omega arith) (λ left. omega arith);
      same = λ table agree.
          let rest : Agree table (r ∷ l) c.loop-range.next c.args.end =
          rw c.in-Some.ensures.steps at (c.loop-range.invariant.rest table agree) in
          c.loop-range.invariant.same table agree ∙ (range_part table No r l c.loop-range.next c.min-next.result c.args.end are rest
          (omega arith) (omega arith) first (omega arith)).0;
    }

pub returns-then-end-next-2 : goal.returns-then-end-next-2
returns-then-end-next-2 c =
    λ table agree. c.loop-range.invariant.same table agree ∙ (nothing_left table No c.loop-range.next c.args.end (omega arith)).0

pub returns : goal.returns
returns c = λ table agree.
    let rest = rw c.in-None.ensures.steps.0 at (c.loop-range.invariant.rest table agree) in
    let left = fails_end table No c.loop-range.next c.args.end rest in
    let one = rw (between_some c.loop-range.next c.args.end (omega arith)) at left.0 in
    ([], c.loop-range.invariant.same table agree ∙ one)
