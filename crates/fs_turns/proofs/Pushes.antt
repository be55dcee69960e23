-- Both rings: the used ring owes the driver a notification only while a push wants an interrupt.
use Rattle.std.proofs.Common.{arith, ◌≡◌, ℕ, ◌+◌, ◌-◌, Bool, true, false, ◌||◌, inl, inr, List, [], ◌∷◌}
use Rattle.std.proofs.Common.{refl, sym, subst, ap, ◌∙◌}
use Rattle.std.proofs.lemmas.Bool.{and_parts, or_cases, or_left, or_right, cases_Bool}
use Rattle.std.specs.Prelude.{if◌then◌else◌}
use Rattle.notify.specs.Kicks.{back, Rules, right, start, NotifyState, NotifyStep, Runs, may, after, NoneIsLost}
use Rattle.notify.specs.Kicks.{ChecksWish, Notifies}
use Rattle.notify.specs.Threads.{Ways, right_ways}
use Rattle.fs_turns.specs.declared.machine.TurnAction.{TurnAction}
use Rattle.fs_turns.specs.declared.machine.TurnAction.TheVariants as act
use Rattle.fs_turns.specs.declared.machine.TurnEvent.{TurnEvent}
use Rattle.fs_turns.specs.declared.machine.TurnEvent.TheVariants.{Woken, Back, Resumed, Popped, Idle, Later, Armed, NoMore, Muted}
use Rattle.fs_turns.specs.declared.machine.TurnPhase.{TurnPhase}
use Rattle.fs_turns.specs.Next.{Next, next_at}
use Rattle.fs_turns.specs.Worlds.{World, Move, Moves, after_action, after_move, may_move, done, settles, begun, reports_at, seen_of}
use Rattle.fs_turns.specs.Worlds.{EntersWoken, EntersBack, EntersDropping, Interrupts, Reports}
use Rattle.fs_turns.specs.Used.{BothRings, BothMove, MovesOn, StepsOn, EndsPush, InterruptsDriver, BothOver, NoUsedIsUnnotified}
use Rattle.fs_turns.specs.Used.{is_apart, is_aside, wants, after_both}
use Rattle.fs_turns.proofs.Tracks.{true_false}
use Rattle.fs_turns.proofs.Runs.{no_interrupt_is_lost}

-- ---- the two runs

record WorldRun (r : Ways) (from end : World) : Type 0 where
  pub moves : List Move
  pub run : Moves r from moves end

world_run : (r : Ways) (q : Rules) (b end : BothRings) (es : List BothMove) → BothOver r q b es end → WorldRun r b.world end.world
world_run r q b end [] h = record { moves = []; run = ap (λ (x : BothRings). x.world) h }
world_run r q b end (MovesOn e ∷ es) h =
    let rest = world_run r q (after_both r q b (MovesOn e)) end es h.1 in
    record { moves = e ∷ rest.moves; run = ((and_parts (is_apart e) (may_move r b.world e) h.0).1, rest.run) }
world_run r q b end (StepsOn e ∷ es) h = world_run r q (after_both r q b (StepsOn e)) end es h.1
world_run r q b end (EndsPush pushed no_answer ∷ es) h =
    let rest = world_run r q (after_both r q b (EndsPush pushed no_answer)) end es h.1 in
    let back = EntersBack pushed (wants q b.used) no_answer in
    record { moves = back ∷ rest.moves; run = ((and_parts (may_move r b.world back) (may q b.used ChecksWish) h.0).0, rest.run) }
world_run r q b end (InterruptsDriver ∷ es) h =
    let rest = world_run r q (after_both r q b InterruptsDriver) end es h.1 in
    record { moves = Interrupts ∷ rest.moves; run = (h.0, rest.run) }

record UsedRun (q : Rules) (from end : NotifyState) : Type 0 where
  pub steps : List NotifyStep
  pub run : Runs q from steps end

used_run : (r : Ways) (q : Rules) (b end : BothRings) (es : List BothMove) → BothOver r q b es end → UsedRun q b.used end.used
used_run r q b end [] h = record { steps = []; run = ap (λ (x : BothRings). x.used) h }
used_run r q b end (MovesOn e ∷ es) h = used_run r q (after_both r q b (MovesOn e)) end es h.1
used_run r q b end (StepsOn e ∷ es) h =
    let rest = used_run r q (after_both r q b (StepsOn e)) end es h.1 in
    record { steps = e ∷ rest.steps; run = ((and_parts (is_aside e) (may q b.used e) h.0).1, rest.run) }
used_run r q b end (EndsPush pushed no_answer ∷ es) h =
    let rest = used_run r q (after_both r q b (EndsPush pushed no_answer)) end es h.1 in
    let back = EntersBack pushed (wants q b.used) no_answer in
    record { steps = ChecksWish ∷ rest.steps; run = ((and_parts (may_move r b.world back) (may q b.used ChecksWish) h.0).1, rest.run) }
used_run r q b end (InterruptsDriver ∷ es) h =
    let rest = used_run r q (after_both r q b InterruptsDriver) end es h.1 in
    record { steps = Notifies ∷ rest.steps; run = (refl, rest.run) }

-- ---- what is owed

action_keeps : (w : World) (wakes : Bool) (a : TurnAction) → (after_action w wakes a).undelivered ≡ w.undelivered
action_keeps w wakes act.Answer = refl
action_keeps w wakes act.Sleep = refl
action_keeps w wakes act.StepAside = refl
action_keeps w wakes act.Stop = refl
action_keeps w wakes _ = refl

settles_keeps : (w : World) (n : Next) → (settles w n).undelivered ≡ w.undelivered
settles_keeps w n =
    action_keeps (record w { turns = n.turns; interrupters = if n.orders.interrupts then w.interrupters + 1 else w.interrupters })
    n.orders.wakes n.orders.action

reports_keep : (r : Ways) (phase : TurnPhase) (w : World) (e : TurnEvent) (comes : Bool)
    → (reports_at r phase w e comes).undelivered ≡ w.undelivered
reports_keep r phase w e comes = settles_keeps w (next_at phase w.turns e (seen_of r w comes))

-- after a push, with what its check said
back_keeps : (r : Ways) (w : World) (pushed : ℕ) (notify no_answer : Bool)
    → (after_move r w (EntersBack pushed notify no_answer)).undelivered ≡ w.undelivered || notify
back_keeps r w pushed notify no_answer =
    reports_keep r w.turns.phase
    (record w { coming = w.coming - 1; out = w.out - pushed; undelivered = w.undelivered || notify })
    (Back notify no_answer) false

done_keeps : (w : World) (e : TurnEvent) (fresh : Bool) → (done w e fresh).undelivered ≡ w.undelivered
done_keeps w (Resumed another) fresh = refl
done_keeps w Popped fresh = refl
done_keeps w (Idle polls) fresh = refl
done_keeps w Later fresh = refl
done_keeps w Armed fresh = refl
done_keeps w NoMore fresh = refl
done_keeps w Muted fresh = refl
done_keeps w _ fresh = refl

-- a move that doesn't interrupt leaves what is undelivered
still_due : (r : Ways) (w : World) (e : Move) → is_apart e ≡ true → w.undelivered ≡ true → (after_move r w e).undelivered ≡ true
still_due r w (EntersWoken no_answer) apart due =
    reports_keep r w.turns.phase (record w { woken = w.woken - 1 }) (Woken no_answer) false ∙ due
still_due r w (EntersBack pushed notify no_answer) apart due =
    back_keeps r w pushed notify no_answer ∙ or_left w.undelivered notify due
still_due r w (EntersDropping no_answer) apart due =
    reports_keep r w.turns.phase (record w { coming = w.coming - 1; position = back w.position 1; out = w.out - 1 })
    (Back false no_answer) false ∙ due
still_due r w Interrupts apart due = absurd (true_false false apart refl)
still_due r w (Reports e fresh comes) apart due =
    reports_keep r w.turns.phase (done w e fresh) e comes ∙ done_keeps w e fresh ∙ due
still_due r w _ apart due = due

-- a step aside leaves what the used ring owes
owes_before : (q : Rules) (u : NotifyState) (e : NotifyStep) → is_aside e ≡ true → (after q u e).owes ≡ true → u.owes ≡ true
owes_before q u ChecksWish aside owes = absurd (true_false false aside refl)
owes_before q u Notifies aside owes = absurd (true_false false aside refl)
owes_before q u _ aside owes = owes

due_at_last : (r : Ways) (q : Rules) (b end : BothRings) (es : List BothMove) → BothOver r q b es end
    → (b.used.owes ≡ true → b.world.undelivered ≡ true)
    → end.used.owes ≡ true → end.world.undelivered ≡ true
due_at_last r q b end [] h due = subst (λ (x : BothRings). x.used.owes ≡ true → x.world.undelivered ≡ true) (sym h) due
due_at_last r q b end (MovesOn e ∷ es) h due =
    due_at_last r q (after_both r q b (MovesOn e)) end es h.1
    (λ owes. still_due r b.world e (and_parts (is_apart e) (may_move r b.world e) h.0).0 (due owes))
due_at_last r q b end (StepsOn e ∷ es) h due =
    due_at_last r q (after_both r q b (StepsOn e)) end es h.1
    (λ owes. due (owes_before q b.used e (and_parts (is_aside e) (may q b.used e) h.0).0 owes))
due_at_last r q b end (EndsPush pushed no_answer ∷ es) h due =
    due_at_last r q (after_both r q b (EndsPush pushed no_answer)) end es h.1
    (λ owes. back_keeps r b.world pushed (wants q b.used) no_answer ∙ elim (or_cases b.used.owes (wants q b.used) owes) [
      | inl old ↦ or_left b.world.undelivered (wants q b.used) (due old)
      | inr new ↦ or_right b.world.undelivered (wants q b.used) new
    ])
due_at_last r q b end (InterruptsDriver ∷ es) h due =
    due_at_last r q (after_both r q b InterruptsDriver) end es h.1 (λ owes. absurd (true_false false owes refl))

pub no_used_is_unnotified : NoneIsLost → NoUsedIsUnnotified
no_used_is_unnotified law size most place waiting event threads used_place used_event by_event muted used_muted es end small fits
    run free none lost =
    let r = right_ways size most by_event in
    let q = right size by_event in
    let world = begun place waiting event muted by_event threads in
    let used = start used_place 0 used_event used_muted in
    let first : BothRings = record { world = world; used = used } in
    let w = world_run r q first end es run in
    let u = used_run r q first end es run in
    let delivered = no_interrupt_is_lost size most place waiting event threads by_event muted w.moves end.world w.run free none in
    let due = due_at_last r q first end es run (λ owes. absurd (true_false false owes refl)) in
    let unowed : end.used.owes ≡ false = elim (cases_Bool end.used.owes) [
      | inl owes ↦ absurd (true_false end.world.undelivered (due owes) delivered)
      | inr is ↦ is
    ] in
    law size used_place 0 used_event by_event used_muted u.steps end.used small fits (omega arith) u.run
    (lost.asleep, lost.used, lost.not_pending, unowed, lost.checked)
