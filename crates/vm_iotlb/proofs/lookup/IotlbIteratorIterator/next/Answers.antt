use Rattle.std.proofs.Common.{◌≡◌, ◌+◌, ◌-◌, ◌∙◌, List, length, ap, sym, arith, Some}
use Rattle.std.specs.Prelude.{min}
use Rattle.std.specs.Map.{values_of}
use Rattle.vm_iotlb.specs.declared.iova.MappedRange.{MappedRange}
use Rattle.vm_iotlb.specs.Ranges.{table_held}
use Rattle.vm_iotlb.specs.AddressRuns.{pieces}
use Rattle.vm_iotlb.specs.Pieces.{CanGoOn}
use Rattle.vm_iotlb.proofs.LookupLemmas.{first_of, none_left, not_none}
use Rattle.vm_iotlb.proofs.lookup.IotlbIteratorIterator.next.Goals as goal

pub returns-then-self-clause-steps : goal.returns-then-self-clause-steps
returns-then-self-clause-steps c =
    let none = sym c.self.view_is ∙ none_left c.self.inside.ranges c.self.inside.next c.self.inside.end (omega arith) in
    (none, none)

pub returns-in_default-found_or_last-clause-steps : goal.returns-in_default-found_or_last-clause-steps
returns-in_default-found_or_last-clause-steps c =
    let inv : CanGoOn (Some c.in-Some.ranges) c.self.inside.found c.self.inside.next c.self.inside.end =
    rw c.in-Some.is at c.self.invariant in
    absurd (not_none c.in-Some.ranges.now.entries c.self.inside.next c.self.inside.end inv.0 inv.1 inv.2 (omega arith)
    c.in_default-found_or_last.ensures)

pub overflow_add-piece : goal.overflow_add-piece
overflow_add-piece c =
    let inv : CanGoOn (Some c.in-Some.ranges) c.self.inside.found c.self.inside.next c.self.inside.end =
    rw c.in-Some.is at c.self.invariant in
    let first = first_of c.in-Some.ranges.now.entries inv.2.0 c.self.inside.next c.self.inside.end
    c.in-Some-found_or_last.range.now inv.0 inv.1
    c.in-Some-found_or_last.ensures (omega arith) inv.2.1 in
    omega (arith, first.0, first.1, c.in-Some-found_or_last.ensures.0)

pub overflow_sub-piece-2 : goal.overflow_sub-piece-2
overflow_sub-piece-2 c =
    let inv : CanGoOn (Some c.in-Some.ranges) c.self.inside.found c.self.inside.next c.self.inside.end =
    rw c.in-Some.is at c.self.invariant in
    let first = first_of c.in-Some.ranges.now.entries inv.2.0 c.self.inside.next c.self.inside.end
    c.in-Some-found_or_last.range.now inv.0 inv.1
    c.in-Some-found_or_last.ensures (omega arith) inv.2.1 in
    omega (arith, first.0)

pub invariant_of-self-2 : goal.invariant_of-self-2
invariant_of-self-2 c =
    let inv : CanGoOn (Some c.in-Some.ranges) c.self.inside.found c.self.inside.next c.self.inside.end =
    rw c.in-Some.is at c.self.invariant in
    let first = first_of c.in-Some.ranges.now.entries inv.2.0 c.self.inside.next c.self.inside.end
    c.in-Some-found_or_last.range.now inv.0 inv.1
    c.in-Some-found_or_last.ensures (omega arith) inv.2.1 in
    let stop : c.min-stop.result ≡ _ = c.min-stop.ensures in
    rw (c.in-Some.is, c.take.ensures.after, stop) (inv.0, inv.1, (inv.2.0, first.2), tt)

pub returns-clause-steps : goal.returns-clause-steps
returns-clause-steps c =
    let inv : CanGoOn (Some c.in-Some.ranges) c.self.inside.found c.self.inside.next c.self.inside.end =
    rw c.in-Some.is at c.self.invariant in
    let first = first_of c.in-Some.ranges.now.entries inv.2.0 c.self.inside.next c.self.inside.end
    c.in-Some-found_or_last.range.now inv.0 inv.1
    c.in-Some-found_or_last.ensures (omega arith) inv.2.1 in (
      rw (c.in-Some.is, c.min-stop.ensures) (sym (rw c.in-Some.is at c.self.view_is) ∙ first.3),
      omega (arith, first.0, first.1, c.in-Some-found_or_last.ensures.0),
    )

pub returns-clause-goes : goal.returns-clause-goes
returns-clause-goes c =
    let inv : CanGoOn (Some c.in-Some.ranges) c.self.inside.found c.self.inside.next c.self.inside.end =
    rw c.in-Some.is at c.self.invariant in
    let first = first_of c.in-Some.ranges.now.entries inv.2.0 c.self.inside.next c.self.inside.end
    c.in-Some-found_or_last.range.now inv.0 inv.1
    c.in-Some-found_or_last.ensures (omega arith) inv.2.1 in
    let all : List MappedRange =
    pieces (table_held (values_of c.in-Some.ranges.now.entries)) (min c.in-Some-found_or_last.range.now.end c.self.inside.end)
    (c.self.inside.end - min c.in-Some-found_or_last.range.now.end c.self.inside.end) in
    let fewer : length c.args.self.now ≡ length all + 1 = ap length (sym (rw c.in-Some.is at c.self.view_is) ∙ first.3) ∙ omega arith in
    rw (c.in-Some.is, c.min-stop.ensures) (record { on = λ finite. (tt, tt, omega (arith, fewer)); keeps = tt; rests = λ finite. tt })
