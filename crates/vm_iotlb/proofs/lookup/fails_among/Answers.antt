use Rattle.std.proofs.Common.{◌≡◌, ◌-◌, ◌∷◌, ◌++◌, List, ap, sym, ◌∙◌, arith}
use Rattle.std.specs.Map.{values_of}
use Rattle.vm_iotlb.specs.declared.range.IotlbRange.{IotlbRange}
use Rattle.vm_iotlb.specs.declared.iova.IovaRange.{IovaRange}
use Rattle.vm_iotlb.specs.Ranges.{AreRanges, Agree, EndsAbove}
use Rattle.vm_iotlb.specs.AddressRuns.{between, lacking, missing}
use Rattle.vm_iotlb.proofs.RunLemmas.{agree_rest, nothing_left}
use Rattle.vm_iotlb.proofs.PieceLemmas.{above_rest, fails_step, fails_end, pushed, all_done}
use Rattle.vm_iotlb.proofs.lookup.fails_among.Goals as goal
use Rattle.vm_iotlb.proofs.lookup.fails_among.Goals.{then-allow, else-allow}

pub returns-then-end-next-clause-misses : goal.returns-then-end-next-clause-misses
returns-then-end-next-clause-misses c = λ table agree.
    let left = nothing_left table c.args.access c.loop-range.next c.args.end (omega arith) in
    all_done c.loop-range.misses.items (missing table c.loop-range.next (c.args.end - c.loop-range.next))
    (missing table c.args.iova (c.args.end - c.args.iova)) left.0
    (c.loop-range.invariant.misses table agree)

pub returns-then-end-next-clause-access : goal.returns-then-end-next-clause-access
returns-then-end-next-clause-access c = λ table agree.
    let left = nothing_left table c.args.access c.loop-range.next c.args.end (omega arith) in
    all_done c.loop-range.access_fails.items (lacking table c.args.access c.loop-range.next (c.args.end - c.loop-range.next))
    (lacking table c.args.access c.args.iova (c.args.end - c.args.iova))
    left.1 (c.loop-range.invariant.access table agree)

pub loop-range-preserved : goal.loop-range-preserved
loop-range-preserved c =
    let r : IotlbRange = c.in-Some.range.now in
    let l : List IotlbRange = values_of c.next.new.self in
    let are : AreRanges (r ∷ l) = rw c.in-Some.ensures.steps at c.loop-range.invariant.ranges in
    let first : EndsAbove c.loop-range.next (r ∷ l) = rw c.in-Some.ensures.steps at c.loop-range.invariant.first in
    record {
      order = omega arith;
      most = omega arith;
      first = above_rest r l c.min-stop.result are (omega arith);
      ranges = are.2;
      rest = λ table agree.
          let rest : Agree table (r ∷ l) c.loop-range.next c.args.end =
          rw c.in-Some.ensures.steps at (c.loop-range.invariant.rest table agree) in
          agree_rest table r l c.loop-range.next c.min-stop.result c.args.end rest (omega arith) (λ left. omega arith);
      misses = λ table agree.
          let rest : Agree table (r ∷ l) c.loop-range.next c.args.end =
          rw c.in-Some.ensures.steps at (c.loop-range.invariant.rest table agree) in
          let step = fails_step table c.args.access r l c.loop-range.next c.min-start.result c.min-stop.result c.args.end are rest
          (omega arith) first (omega arith) (omega arith) in
          pushed c.loop-range.misses.items c.push_between.new.ranges.items (between c.loop-range.next c.min-start.result)
          (missing table c.loop-range.next (c.args.end - c.loop-range.next))
          (missing table c.min-stop.result (c.args.end - c.min-stop.result)) (missing table c.args.iova (c.args.end - c.args.iova))
          c.in_ok-push_between.ensures step.0
          (c.loop-range.invariant.misses table agree);
      access = λ table agree.
          let rest : Agree table (r ∷ l) c.loop-range.next c.args.end =
          rw c.in-Some.ensures.steps at (c.loop-range.invariant.rest table agree) in
          let step = fails_step table c.args.access r l c.loop-range.next c.min-start.result c.min-stop.result c.args.end are rest
          (omega arith) first (omega arith) (omega arith) in
          let part : lacking table c.args.access c.loop-range.next (c.args.end - c.loop-range.next)
          ≡ between c.if-allow.denied c.min-stop.result ++ lacking table c.args.access c.min-stop.result
          (c.args.end - c.min-stop.result) =
          elim c.if-allow.branch [
            | then-allow w ↦ rw w.denied-is (step.1 (sym w.if-allow.ensures))
            | else-allow w ↦ rw w.denied-is (step.2 (sym w.if-allow.ensures))
          ] in
          pushed c.loop-range.access_fails.items c.push_between-in-loop-range.new.ranges.items (between c.if-allow.denied c.min-stop.result)
          (lacking table c.args.access c.loop-range.next (c.args.end - c.loop-range.next))
          (lacking table c.args.access c.min-stop.result (c.args.end - c.min-stop.result))
          (lacking table c.args.access c.args.iova (c.args.end - c.args.iova)) c.in_ok-push_between-2.ensures part
          (c.loop-range.invariant.access table agree);
    }

pub returns-clause-misses : goal.returns-clause-misses
returns-clause-misses c = λ table agree.
    let rest = rw c.in-None.ensures.steps.0 at (c.loop-range.invariant.rest table agree) in
    let left = fails_end table c.args.access c.loop-range.next c.args.end rest in
    c.in_ok-push_between-3.ensures ∙ ap (λ (l : List IovaRange). c.loop-range.misses.items ++ l) (sym left.0)
    ∙ c.loop-range.invariant.misses table agree

pub returns-clause-access : goal.returns-clause-access
returns-clause-access c = λ table agree.
    let rest = rw c.in-None.ensures.steps.0 at (c.loop-range.invariant.rest table agree) in
    let left = fails_end table c.args.access c.loop-range.next c.args.end rest in
    all_done c.loop-range.access_fails.items (lacking table c.args.access c.loop-range.next (c.args.end - c.loop-range.next))
    (lacking table c.args.access c.args.iova (c.args.end - c.args.iova))
    left.1 (c.loop-range.invariant.access table agree)
