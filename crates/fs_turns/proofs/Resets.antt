-- A queue that begins again is one that the model's threads come to.
use Rattle.std.proofs.Common.{arith, ◌≡◌, ℕ, ◌+◌, ◌-◌, ◌<◌, inl, inr, ◌⊎◌, ◌||◌, Bool, true, false, List, [], ◌∷◌, refl, sym, subst, ap}
use Rattle.std.proofs.Common.{zero, suc}
use Rattle.std.proofs.lemmas.Bool.{cases_Bool, or_left, or_right}
use Rattle.notify.specs.Kicks.{moved}
use Rattle.notify.specs.Threads.{right_ways, Nobody, Walker, ThreadedQueue, after_act, opened, Enters, Unlocks, Rests, Pauses, Hears}
use Rattle.notify.specs.Threads.{NoneIsLostAmongThreads}
use Rattle.notify.specs.Threads as model
use Rattle.fs_turns.specs.declared.machine.TurnPhase.{TurnPhase}
use Rattle.fs_turns.specs.declared.machine.TurnPhase.TheVariants.{Free, Pops, Looks, Mutes}
use Rattle.fs_turns.specs.Next.{is_free, may_reset}
use Rattle.fs_turns.specs.Worlds.{World, Moves, begun, is_arming}
use Rattle.fs_turns.specs.Lives.{Life, ways_in, begun_again, Lives, NoTurnIsLostOverResets, NoInterruptIsLostOverResets}
use Rattle.fs_turns.proofs.Tracks.{Kept, Goes, acts, calm, freed, holder_at, model_of, is_lt, true_false, IsCalled}
use Rattle.fs_turns.proofs.Runs.{follows, not_lost}

-- what holds between two lives
record IsReady (w : World) : Type 0 where
  pub sleeping : w.turns.sleeping ≡ w.sleepers + w.woken
  pub called : w.turns.called ≡ true → IsCalled w
  pub owed : w.turns.phase ≡ Free → w.turns.owed ≡ false
  pub due : w.undelivered ≡ true → (w.turns.owed ≡ true) ⊎ (0 < w.interrupters)

ready_after : (b : Bool) (most : ℕ) (w : World) → Kept b most w → IsReady w
ready_after b most w k = record { sleeping = k.sleeping; called = k.called; owed = k.owed; due = k.due }

-- the interrupt that is due is no more the lock's holder's
due_when_free : (w : World) → w.turns.phase ≡ Free → IsReady w → w.undelivered ≡ true → 0 < w.interrupters
due_when_free w free ready so = elim (ready.due so) [
  | inl owed ↦ absurd (true_false w.turns.owed owed (ready.owed free))
  | inr some ↦ some
]

-- before a thread's event
is_pending : (w : World) → w.turns.phase ≡ Free → (w.pending || is_free w.turns.phase) ≡ true
is_pending w free = or_right w.pending (is_free w.turns.phase) (ap is_free free)

kept_again : (l : Life) (w : World) → w.turns.phase ≡ Free → IsReady w → Kept l.by_event l.max_in_flight (begun_again l w)
kept_again l w free ready =
    freed l.by_event l.max_in_flight (begun_again l w) free refl ready.sleeping (λ _. inl (is_pending w free)) refl refl tt
    (λ _ _. inl (is_pending w free)) (ready.owed free) (due_when_free w free ready)

-- in a thread's own pop
pops_no : (p : TurnPhase) → p ≡ Pops → (is_arming p ≡ true → ⊥) × (p ≡ Free → ⊥) × (p ≡ Looks → ⊥) × (p ≡ Mutes → ⊥)
pops_no p h = (λ so. true_false (is_arming p) so (ap is_arming h), λ so. cc, λ so. cc, λ so. cc)

called_again : (l : Life) (w : World) → IsCalled w → IsCalled (begun_again l w)
called_again l w (inl pending) = inl (or_left w.pending (is_free w.turns.phase) pending)
called_again l w (inr some) = inr some

none_answered : 0 < 0 → ⊥
none_answered some = omega (arith, some)

kept_popping : (l : Life) (w : World) → w.turns.phase ≡ Pops → IsReady w → Kept l.by_event l.max_in_flight (begun_again l w)
kept_popping l w at ready =
    let no = pops_no w.turns.phase at in
    calm l.by_event l.max_in_flight (begun_again l w) refl ready.sleeping (λ so. called_again l w (ready.called so)) refl refl tt
    (λ so. absurd (no.0 so)) (λ so. absurd (no.2 so)) (λ so. absurd (no.3 so))
    (λ _ some. absurd (none_answered some)) (λ _ _ some. absurd (none_answered some)) (λ so. absurd (no.1 so)) ready.due

-- the model's threads
abbrev filled : Life → (c s b : ℕ) → (paused : Bool) → ThreadedQueue
filled l c s b paused =
    record {
      index = moved l.place l.waiting;
      event = l.event;
      muted = l.muted;
      pending = true;
      published = moved l.place l.waiting;
      unchecked = 0;
      owes = false;
      position = l.place;
      known = l.place;
      wish = 0;
      hidden = false;
      out = 0;
      holder = Nobody;
      sleepers = s;
      comers = c;
      busy = b;
      paused = paused;
    }

abbrev GoesFrom : Life → World → ThreadedQueue → Type 0
GoesFrom l w m = Goes l.size l.max_in_flight l.by_event w m

one_less : (c : ℕ) → c ≡ (c + 1) - 1
one_less c = omega arith

some : (c : ℕ) → 0 < c + 1
some c = omega arith

rests : (l : Life) (w : World) (c s b : ℕ) (p : Bool) → GoesFrom l w (filled l c (s + 1) b p) → GoesFrom l w (filled l (c + 1) s b p)
rests l w c s b p g =
    let r = ways_in l in
    acts l.size l.max_in_flight l.by_event w (filled l (c + 1) s b p) Enters (is_lt 0 (c + 1) (some c))
    (acts l.size l.max_in_flight l.by_event w (after_act r (filled l (c + 1) s b p) Enters) Rests refl
    (subst (λ (n : ℕ). GoesFrom l w (filled l n (s + 1) b p)) (one_less c) g))

unlocks : (l : Life) (w : World) (c b : ℕ) (p : Bool) → GoesFrom l w (filled l c 0 (b + 1) p) → GoesFrom l w (filled l (c + 1) 0 b p)
unlocks l w c b p g =
    let r = ways_in l in
    acts l.size l.max_in_flight l.by_event w (filled l (c + 1) 0 b p) Enters (is_lt 0 (c + 1) (some c))
    (acts l.size l.max_in_flight l.by_event w (after_act r (filled l (c + 1) 0 b p) Enters) Unlocks refl
    (subst (λ (n : ℕ). GoesFrom l w (filled l n 0 (b + 1) p)) (one_less c) g))

all_rest : (l : Life) (w : World) (c n b : ℕ) (p : Bool) → GoesFrom l w (filled l c n b p) → GoesFrom l w (filled l (c + n) 0 b p)
all_rest l w c zero b p g = subst (λ (m : ℕ). GoesFrom l w (filled l m 0 b p)) (same c) g
  where
    same : (c : ℕ) → c ≡ c + 0
    same c = omega arith
all_rest l w c (suc n) b p g =
    subst (λ (m : ℕ). GoesFrom l w (filled l m 0 b p)) (more c n)
    (all_rest l w (c + 1) n b p (rests l w c n b p (subst (λ (m : ℕ). GoesFrom l w (filled l c m b p)) (next n) g)))
  where
    more : (c n : ℕ) → (c + 1) + n ≡ c + suc n
    more c n = omega arith

    next : (n : ℕ) → suc n ≡ n + 1
    next n = omega arith

all_unlock : (l : Life) (w : World) (c n : ℕ) (p : Bool) → GoesFrom l w (filled l c 0 n p) → GoesFrom l w (filled l (c + n) 0 0 p)
all_unlock l w c zero p g = subst (λ (m : ℕ). GoesFrom l w (filled l m 0 0 p)) (same c) g
  where
    same : (c : ℕ) → c ≡ c + 0
    same c = omega arith
all_unlock l w c (suc n) p g =
    subst (λ (m : ℕ). GoesFrom l w (filled l m 0 0 p)) (more c n)
    (all_unlock l w (c + 1) n p (unlocks l w c n p (subst (λ (m : ℕ). GoesFrom l w (filled l c 0 m p)) (next n) g)))
  where
    more : (c n : ℕ) → (c + 1) + n ≡ c + suc n
    more c n = omega arith

    next : (n : ℕ) → suc n ≡ n + 1
    next n = omega arith

pauses : (l : Life) (w : World) (c : ℕ) (p : Bool) → GoesFrom l w (filled l c 0 0 p) → GoesFrom l w (filled l c 0 0 false)
pauses l w c true g = acts l.size l.max_in_flight l.by_event w (filled l c 0 0 false) Pauses refl g
pauses l w c false g = g

-- a life is a run of the model's threads
record Again (l : Life) (end : World) : Type 0 where
  pub threads : ℕ
  pub goes : GoesFrom l end (opened l.place l.waiting l.event l.muted threads)

-- this many come, of whom some sleep, and some are busy
fills : (l : Life) (end : World) (c s b : ℕ) (p : Bool) → GoesFrom l end (filled l c s b p) → Again l end
fills l end c s b p g = record {
  threads = c + s + b;
  goes = acts l.size l.max_in_flight l.by_event end (opened l.place l.waiting l.event l.muted (c + s + b)) model.Signals refl
      (pauses l end (c + s + b) p (all_unlock l end (c + s) b p (all_rest l end c s b p g)));
}

begins_again : (l : Life) (w end : World) → w.turns.phase ≡ Free → IsReady w → Moves (ways_in l) (begun_again l w) l.moves end
    → Again l end
begins_again l w end free ready run =
    fills l end (w.woken + w.coming) w.sleepers w.busy w.paused
    (follows l.size l.max_in_flight l.by_event (begun_again l w) false true (w.woken + w.coming) Nobody l.moves end
    (record {
      debt = λ so. absurd (true_false false so refl);
      signal = sym (or_left (w.pending || is_free w.turns.phase) w.turns.called (is_pending w free));
      crowd = refl;
      lock = sym (ap (λ (q : TurnPhase). holder_at q false) free);
    })
    (kept_again l w free ready) run)

walks_again : (l : Life) (w end : World) → w.turns.phase ≡ Pops → IsReady w → Moves (ways_in l) (begun_again l w) l.moves end
    → Again l end
walks_again l w end at ready run =
    let r = ways_in l in
    let c = w.woken + w.coming in
    let after = begun_again l w in
    let is = (w.pending || is_free w.turns.phase) || w.turns.called in
    let from : (p : Bool) → p ≡ is → GoesFrom l end (model_of after false p c Walker) = λ p signal.
    follows l.size l.max_in_flight l.by_event after false p c Walker l.moves end
    (record {
      debt = λ so. absurd (true_false false so refl);
      signal = signal;
      crowd = refl;
      lock = sym (ap (λ (q : TurnPhase). holder_at q false) at);
    })
    (kept_popping l w at ready) run in
    fills l end (c + 1) w.sleepers w.busy w.paused
    (acts l.size l.max_in_flight l.by_event end (filled l (c + 1) w.sleepers w.busy w.paused) Enters (is_lt 0 (c + 1) (some c))
    (subst (λ (n : ℕ). GoesFrom l end (model_of after false true n Walker)) (one_less c)
    (elim (cases_Bool is) [
      | inl so ↦ from true (sym so)
      | inr none ↦ acts l.size l.max_in_flight l.by_event end (model_of after false true c Walker) Hears refl (from false (sym none))
    ])))

goes_again : (l : Life) (w end : World) (phase : TurnPhase) → w.turns.phase ≡ phase → may_reset phase ≡ true → IsReady w
    → Moves (ways_in l) (begun_again l w) l.moves end → Again l end
goes_again l w end Free at may ready run = begins_again l w end at ready run
goes_again l w end Pops at may ready run = walks_again l w end at ready run
goes_again l w end _ at may ready run = absurd (true_false false may refl)

ready_at_last : (ls : List Life) (w end : World) → IsReady w → Lives w ls end → IsReady end
ready_at_last [] w end ready lives = subst IsReady (sym lives) ready
ready_at_last (l ∷ ls) w end ready lives =
    let g = (goes_again l w lives.1 w.turns.phase refl lives.0 ready lives.2).goes in
    ready_at_last ls lives.1 end (ready_after l.by_event l.max_in_flight lives.1 g.kept) lives.3

first_ready : (threads : ℕ) → IsReady (begun 0 0 0 false false threads)
first_ready threads = record {
  sleeping = refl;
  called = λ so. absurd (true_false false so refl);
  owed = λ _. refl;
  due = λ so. absurd (true_false false so refl);
}

pub no_turn_is_lost_over_resets : NoneIsLostAmongThreads → NoTurnIsLostOverResets
no_turn_is_lost_over_resets law threads before last w end small fits few lives run lost which =
    let ready = ready_at_last before (begun 0 0 0 false false threads) w (first_ready threads) lives in
    let ended = run.3 in
    let again = goes_again last w end w.turns.phase refl run.0 ready
    (subst (λ (v : World). Moves (ways_in last) (begun_again last w) last.moves v) (sym ended) run.2) in
    not_lost law last.size last.max_in_flight last.place last.waiting last.event again.threads last.by_event last.muted end small fits few
    again.goes lost which

pub no_interrupt_is_lost_over_resets : NoInterruptIsLostOverResets
no_interrupt_is_lost_over_resets threads lives end run free none =
    let ready = ready_at_last lives (begun 0 0 0 false false threads) end (first_ready threads) run in
    elim (cases_Bool end.undelivered) [
      | inl so ↦ let due = due_when_free end free ready so in absurd (omega (arith, due, none))
      | inr is ↦ is
    ]
