use Rattle.std.proofs.Common.{◌≡◌, false, true, ◌∷◌, List, refl, sym, ◌∙◌, arith}
use Rattle.std.specs.Map.{values_of}
use Rattle.vm_iotlb.specs.declared.range.IotlbRange.{IotlbRange}
use Rattle.vm_iotlb.specs.Table.{allows}
use Rattle.vm_iotlb.specs.Ranges.{AreRanges, Agree, EndsAbove}
use Rattle.vm_iotlb.specs.AddressRuns.{may_pass}
use Rattle.vm_iotlb.proofs.RangeLemmas.{table_before, table_inside}
use Rattle.vm_iotlb.proofs.RunLemmas.{agree_rest, nothing_left, may_stop, may_range}
use Rattle.vm_iotlb.proofs.PieceLemmas.{above_rest, covered_end}
use Rattle.vm_iotlb.proofs.lookup.is_covered.Goals as goal

pub returns-then-end-next : goal.returns-then-end-next
returns-then-end-next c = λ table agree.
    sym (c.loop-range.invariant.all table agree ∙ (nothing_left table c.args.access c.loop-range.next c.args.end (omega arith)).3)

pub returns-then-next-range : goal.returns-then-next-range
returns-then-next-range c = λ table agree.
    let r : IotlbRange = c.in-Some.range.now in
    let l : List IotlbRange = values_of c.next.new.self in
    let are : AreRanges (r ∷ l) = rw c.in-Some.ensures.steps at c.loop-range.invariant.ranges in
    let rest : Agree table (r ∷ l) c.loop-range.next c.args.end = rw c.in-Some.ensures.steps at (c.loop-range.invariant.rest table agree) in
    let none = rest c.loop-range.next (omega arith) (omega arith)
    ∙ table_before (r ∷ l) r.start c.loop-range.next are (omega arith) (omega arith) in
    let denied : may_pass c.args.access (table c.loop-range.next) ≡ false = rw none refl in
    sym (c.loop-range.invariant.all table agree ∙ may_stop table c.args.access c.loop-range.next c.args.end (omega arith) denied)

pub returns-then-not-allow : goal.returns-then-not-allow
returns-then-not-allow c = λ table agree.
    let r : IotlbRange = c.in-Some.range.now in
    let l : List IotlbRange = values_of c.next.new.self in
    let rest : Agree table (r ∷ l) c.loop-range.next c.args.end = rw c.in-Some.ensures.steps at (c.loop-range.invariant.rest table agree) in
    let first : EndsAbove c.loop-range.next (r ∷ l) = rw c.in-Some.ensures.steps at c.loop-range.invariant.first in
    let held = rest c.loop-range.next (omega arith) (omega arith) ∙ table_inside r l c.loop-range.next (omega arith) first in
    let not_allowed : allows r.perm c.args.access ≡ false = sym c.if-not-allow.ensures in
    let denied : may_pass c.args.access (table c.loop-range.next) ≡ false = rw held not_allowed in
    sym (c.loop-range.invariant.all table agree ∙ may_stop table c.args.access c.loop-range.next c.args.end (omega arith) denied)

pub loop-range-preserved : goal.loop-range-preserved
loop-range-preserved c =
    let r : IotlbRange = c.in-Some.range.now in
    let l : List IotlbRange = values_of c.next.new.self in
    let are : AreRanges (r ∷ l) = rw c.in-Some.ensures.steps at c.loop-range.invariant.ranges in
    let first : EndsAbove c.loop-range.next (r ∷ l) = rw c.in-Some.ensures.steps at c.loop-range.invariant.first in
    let allowed : allows r.perm c.args.access ≡ true = sym c.if-not-allow.ensures in
    record {
      order = omega arith;
      most = omega arith;
      first = above_rest r l c.min-next.result are (omega arith);
      ranges = are.2;
      rest = λ table agree.
          let rest : Agree table (r ∷ l) c.loop-range.next c.args.end =
          rw c.in-Some.ensures.steps at (c.loop-range.invariant.rest table agree) in
          agree_rest table r l c.loop-range.next c.min-next.result c.args.end rest (omega arith) (λ left. omega arith);
      all = λ table agree.
          let rest : Agree table (r ∷ l) c.loop-range.next c.args.end =
          rw c.in-Some.ensures.steps at (c.loop-range.invariant.rest table agree) in
          c.loop-range.invariant.all table agree
          ∙ may_range table c.args.access r l c.loop-range.next c.min-next.result c.args.end rest (omega arith) (omega arith)
          (omega arith) (omega arith) allowed;
    }

pub returns : goal.returns
returns c = λ table agree.
    let rest = rw c.in-None.ensures.steps.0 at (c.loop-range.invariant.rest table agree) in
    covered_end table c.args.access c.loop-range.next c.args.end rest ∙ sym (c.loop-range.invariant.all table agree)
