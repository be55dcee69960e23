use Rattle.std.proofs.Common.{◌≡◌, ◌+◌, ◌-◌, ◌%◌, ◌^◌, Bool, true, false, Option, Some, List, [], ◌∷◌, ℕ, ap, sym, ◌∙◌, refl, arith, length}
use Rattle.std.specs.Prelude.{◌==◌, nat_lt}
use Rattle.std.specs.Int.{w16, from_le_bytes}
use Rattle.std.proofs.lemmas.Bool.{eq-eqb, ne_eqb, lt-ltb, le-ltb}
use Rattle.fs_queue.specs.declared.layout.QueueLayout.{QueueLayout}
use Rattle.fs_queue.specs.declared.fault.QueueError.TheVariants.{RingEntryUnreachable}
use Rattle.fs_queue.specs.NextAvail.{Refused, next_avail}
use Rattle.fs_queue.specs.Loads.{holding, index_load}
use Rattle.fs_queue.specs.RingingView.{stage_at}
use Rattle.fs_queue.specs.WalkingView.{at_position}
use Rattle.fs_queue.proofs.RingLemmas.{index_lost, index_reports, pick}
use Rattle.fs_queue.proofs.walk.IndexWalk.give.Goals as goal

pub returns-in_default-clause-stage : goal.returns-in_default-clause-stage
returns-in_default-clause-stage c =
    sym (ap stage_at (index_lost (at_position c.args.self.layout c.args.self.position) c.args.came c.in_default.is))

-- by what the numbers of the code say
reports : (l : QueueLayout) (position : ℕ) (i : Option (List ℕ)) (bs : List ℕ) (n : ℕ) (z far : Bool) → i ≡ Some bs → length bs ≡ 2 →
    n ≡ from_le_bytes w16 bs →
    ((n + (2 ^ 16 - position)) % 2 ^ 16 == 0) ≡ z → nat_lt l.size ((n + (2 ^ 16 - position)) % 2 ^ 16) ≡ far →
    next_avail (holding (index_load (at_position l position) i ∷ [])) (at_position l position)
    ≡ pick true z far (Refused RingEntryUnreachable)
reports l position i bs n z far is len read none too_far =
    index_reports (at_position l position) i bs n ((n + (2 ^ 16 - position)) % 2 ^ 16) is len (omega (arith, l.available)) read refl
    ∙ ap (λ (b : Bool). pick true b (nat_lt l.size ((n + (2 ^ 16 - position)) % 2 ^ 16)) (Refused RingEntryUnreachable)) none
    ∙ ap (λ (b : Bool). pick true z b (Refused RingEntryUnreachable)) too_far

pub returns-then-waiting-eq0-clause-stage : goal.returns-then-waiting-eq0-clause-stage
returns-then-waiting-eq0-clause-stage c =
    sym (ap stage_at (reports c.args.self.layout c.args.self.position c.args.came c.in-Some.bytes c.le16_number.result true _ c.in-Some.is
    (omega arith) c.le16_number.ensures (eq-eqb _ _ c.if-waiting-eq0.true) refl))

pub returns-then-waiting-size-clause-stage : goal.returns-then-waiting-size-clause-stage
returns-then-waiting-size-clause-stage c =
    let far : nat_lt c.args.self.layout.size ((c.le16_number.result + (2 ^ 16 - c.args.self.position)) % 2 ^ 16) ≡ true =
    lt-ltb _ _ (omega arith) in
    sym (ap stage_at (reports c.args.self.layout c.args.self.position c.args.came c.in-Some.bytes c.le16_number.result false true
    c.in-Some.is
    (omega arith) c.le16_number.ensures (ne_eqb _ _ c.if-waiting-eq0.false) far))

pub returns-else-waiting-size-clause-stage : goal.returns-else-waiting-size-clause-stage
returns-else-waiting-size-clause-stage c =
    let near : nat_lt c.args.self.layout.size ((c.le16_number.result + (2 ^ 16 - c.args.self.position)) % 2 ^ 16) ≡ false =
    le-ltb _ _ (omega arith) in
    sym (ap stage_at (reports c.args.self.layout c.args.self.position c.args.came c.in-Some.bytes c.le16_number.result false false
    c.in-Some.is
    (omega arith) c.le16_number.ensures (ne_eqb _ _ c.if-waiting-eq0.false) near))
