-- Each move of a world is a run of the model's steps.
use Rattle.std.proofs.Common.{arith, ◌≡◌, ℕ, ◌+◌, ◌-◌, ◌^◌, ◌<◌, ◌≤◌, ◌⊎◌, inl, inr, Bool, true, false, not, ◌&&◌, ◌||◌, List, [], ◌∷◌}
use Rattle.std.proofs.Common.{refl, sym, subst, ap, ◌∙◌}
use Rattle.std.proofs.lemmas.Bool.{and_parts, and_from, or_cases, or_left, or_right, cond_both}
use Rattle.std.proofs.lemmas.Bool.Decides.{nat_tests}
use Rattle.std.specs.Prelude.{nat_lt, nat_le, ◌==◌, if◌then◌else◌}
use Rattle.notify.specs.Threads.{Ways, right_ways, Holder, Nobody, Walker, Rearmer, ThreadedQueue, may_act, after_act, ActsOver, opened}
use Rattle.notify.specs.Threads.{ThreadStep, GivesChains, GiverChecks, Enters, Loads, TakesOne, Silences, Unlocks, Rests, StepsAside}
use Rattle.notify.specs.Threads.{Wishes, WishIsThere, OmitsWish, SleepsNow, ProceedsBusy, WalksOn, Hears, ReturnsChains}
use Rattle.notify.specs.Threads as model
use Rattle.fs_turns.specs.declared.machine.Notifications.{Notifications}
use Rattle.fs_turns.specs.declared.machine.Notifications.TheVariants.{Unknown, Disabled, Enabled}
use Rattle.fs_turns.specs.declared.machine.TurnPhase.{TurnPhase}
use Rattle.fs_turns.specs.declared.machine.TurnPhase.TheVariants.{Free, Resumes, Pops, ArmsToSleep, ArmsToAnswer, Looks, Mutes}
use Rattle.fs_turns.specs.declared.machine.TurnAction.TheVariants as act
use Rattle.fs_turns.specs.Next.{Next, stays, leaves, wakes_one, arms, is_enabled_at, is_disabled, is_idle, is_quiet, mutes, hands_on}
use Rattle.fs_turns.specs.Next.{rests}
use Rattle.fs_turns.specs.Next.{finds_none}
use Rattle.fs_turns.specs.Next as machine
use Rattle.fs_turns.specs.Worlds.{World, is_arming, settles, seen_of}

-- ---- tests

pub is_lt : (a b : ℕ) → a < b → nat_lt a b ≡ true
is_lt a b h = grind (arith, nat_tests)

is_le : (a b : ℕ) → a ≤ b → nat_le a b ≡ true
is_le a b h = grind (arith, nat_tests)

pub is_eq : (a b : ℕ) → a ≡ b → (a == b) ≡ true
is_eq a b h = grind (arith, nat_tests)

pub lt_of : (a b : ℕ) → nat_lt a b ≡ true → a < b
lt_of a b h = grind (arith, nat_tests)

pub le_of : (a b : ℕ) → nat_le a b ≡ true → a ≤ b
le_of a b h = grind (arith, nat_tests)

pub eq_of : (a b : ℕ) → (a == b) ≡ true → a ≡ b
eq_of a b h = grind (arith, nat_tests)

pub true_false : (b : Bool) → b ≡ true → b ≡ false → ⊥
true_false b h k = cc

pub false_of : (b : Bool) → (b ≡ true → ⊥) → b ≡ false
false_of true h = absurd (h refl)
false_of false h = refl

-- ---- what holds of a world

abbrev pub IsWished : (b : Bool) → (event : ℕ) → (muted : Bool) → (at : ℕ) → Type 0
IsWished true event muted at = event ≡ at
IsWished false event muted at = muted ≡ false

-- memory is as the machine has it
abbrev pub IsSo : (b : Bool) → Notifications → (event : ℕ) → (muted hidden : Bool) → Type 0
IsSo b Unknown event muted hidden = Unit {0}
IsSo b Disabled event muted hidden = Unit {0}
IsSo b (Enabled at) event muted hidden = IsWished b event muted at × (hidden ≡ false)

abbrev pub is_searching : TurnPhase → Bool
is_searching Pops = true
is_searching ArmsToSleep = true
is_searching _ = false

abbrev pub is_resuming : TurnPhase → Bool
is_resuming Resumes = true
is_resuming _ = false

-- somebody is going to look for chains whose answer has come
abbrev pub IsAhead : World → Type 0
IsAhead w = (w.pending ≡ true) ⊎ (0 < w.woken + w.coming + w.signalers)

abbrev pub IsCalled : World → Type 0
IsCalled w = (w.pending ≡ true) ⊎ (0 < w.woken + w.signalers)

pub record Kept (b : Bool) (most : ℕ) (w : World) : Type 0 where
  pub mode : w.turns.by_event ≡ b
  pub sleeping : w.turns.sleeping ≡ w.sleepers + w.woken
  pub called : w.turns.called ≡ true → IsCalled w
  pub stored : w.stored ≡ true → is_arming w.turns.phase ≡ true
  pub hidden : w.hidden ≡ true → w.stored ≡ true
  pub wish : w.hidden ≡ true → w.wish ≡ w.position
  pub shown : w.stored ≡ true → w.hidden ≡ false → IsWished b w.event w.muted w.position
  pub notifications : IsSo b w.turns.notifications w.event w.muted w.hidden
  pub arming : is_arming w.turns.phase ≡ true → w.turns.notifications ≡ Unknown
  pub looks : w.turns.phase ≡ Looks → is_enabled_at w.turns.by_event w.turns.notifications w.position ≡ true
  pub mutes : w.turns.phase ≡ Mutes → (w.turns.notifications ≡ Disabled) × ((w.turns.sleeping ≡ 0) ⊎ (most ≤ w.out))
  pub searches : is_searching w.turns.phase ≡ true → 0 < w.answered → IsAhead w
  pub rests : is_resuming w.turns.phase ≡ false → 0 < w.sleepers → 0 < w.answered → IsAhead w
  pub owed : w.turns.phase ≡ Free → w.turns.owed ≡ false
  pub due : w.undelivered ≡ true → (w.turns.owed ≡ true) ⊎ (0 < w.interrupters)

-- no store of a wish is on its way
pub calm : (b : Bool) (most : ℕ) (w : World) → w.turns.by_event ≡ b → w.turns.sleeping ≡ w.sleepers + w.woken
    → (w.turns.called ≡ true → IsCalled w) → w.stored ≡ false → w.hidden ≡ false
    → IsSo b w.turns.notifications w.event w.muted w.hidden
    → (is_arming w.turns.phase ≡ true → w.turns.notifications ≡ Unknown)
    → (w.turns.phase ≡ Looks → is_enabled_at w.turns.by_event w.turns.notifications w.position ≡ true)
    → (w.turns.phase ≡ Mutes → (w.turns.notifications ≡ Disabled) × ((w.turns.sleeping ≡ 0) ⊎ (most ≤ w.out)))
    → (is_searching w.turns.phase ≡ true → 0 < w.answered → IsAhead w)
    → (is_resuming w.turns.phase ≡ false → 0 < w.sleepers → 0 < w.answered → IsAhead w)
    → (w.turns.phase ≡ Free → w.turns.owed ≡ false)
    → (w.undelivered ≡ true → (w.turns.owed ≡ true) ⊎ (0 < w.interrupters))
    → Kept b most w
calm b most w mode sleeping called unstored unhidden notifications arming looks mutes searches rests owed due = record {
  mode = mode;
  sleeping = sleeping;
  called = called;
  stored = λ so. absurd (true_false w.stored so unstored);
  hidden = λ so. absurd (true_false w.hidden so unhidden);
  wish = λ so. absurd (true_false w.hidden so unhidden);
  shown = λ so _. absurd (true_false w.stored so unstored);
  notifications = notifications;
  arming = arming;
  looks = looks;
  mutes = mutes;
  searches = searches;
  rests = rests;
  owed = owed;
  due = due;
}

free_looks : (p : TurnPhase) → p ≡ Free → p ≡ Looks → ⊥
free_looks p a b = cc

free_mutes : (p : TurnPhase) → p ≡ Free → p ≡ Mutes → ⊥
free_mutes p a b = cc

-- nor has a thread the lock
pub freed : (b : Bool) (most : ℕ) (w : World) → w.turns.phase ≡ Free → w.turns.by_event ≡ b
    → w.turns.sleeping ≡ w.sleepers + w.woken → (w.turns.called ≡ true → IsCalled w) → w.stored ≡ false → w.hidden ≡ false
    → IsSo b w.turns.notifications w.event w.muted w.hidden
    → (0 < w.sleepers → 0 < w.answered → IsAhead w)
    → w.turns.owed ≡ false
    → (w.undelivered ≡ true → 0 < w.interrupters)
    → Kept b most w
freed b most w free mode sleeping called unstored unhidden notifications rests owed due =
    calm b most w mode sleeping called unstored unhidden notifications
    (λ so. absurd (true_false (is_arming w.turns.phase) so (ap is_arming free)))
    (λ so. absurd (free_looks w.turns.phase free so))
    (λ so. absurd (free_mutes w.turns.phase free so))
    (λ so _. absurd (true_false (is_searching w.turns.phase) so (ap is_searching free)))
    (λ _. rests)
    (λ _. owed)
    (λ so. inr (due so))

-- ---- the model's state

abbrev pub holder_at : TurnPhase → (stored : Bool) → Holder
holder_at Free stored = Nobody
holder_at ArmsToSleep stored = if stored then Rearmer else Walker
holder_at ArmsToAnswer stored = if stored then Rearmer else Walker
holder_at _ stored = Walker

abbrev pub model_of : World → (o p : Bool) → (c : ℕ) → Holder → ThreadedQueue
model_of w o p c h =
    record {
      index = w.index;
      event = w.event;
      muted = w.muted;
      pending = p;
      published = w.published;
      unchecked = w.unchecked;
      owes = o;
      position = w.position;
      known = w.known;
      wish = w.wish;
      hidden = w.hidden;
      out = w.out;
      holder = h;
      sleepers = w.sleepers;
      comers = c;
      busy = w.busy;
      paused = w.paused;
    }

-- the model's driver owes no more than the world's. The model's event is pending until a thread that was called comes
pub record Tracked (w : World) (o p : Bool) (c : ℕ) (h : Holder) : Type 0 where
  pub debt : o ≡ true → w.owes ≡ true
  pub signal : p ≡ (w.pending || w.turns.called)
  pub crowd : c ≡ w.woken + w.coming
  pub lock : h ≡ holder_at w.turns.phase w.stored

-- from a state of the model a run leads to one of this world
pub record Goes (size most : ℕ) (b : Bool) (w : World) (m : ThreadedQueue) : Type 0 where
  pub steps : List ThreadStep
  pub o : Bool
  pub p : Bool
  pub c : ℕ
  pub h : Holder
  pub run : ActsOver (right_ways size most b) m steps (model_of w o p c h)
  pub tracked : Tracked w o p c h
  pub kept : Kept b most w

pub stop : (size most : ℕ) (b : Bool) (w : World) (o p : Bool) (c : ℕ) (h : Holder) → Tracked w o p c h → Kept b most w
    → Goes size most b w (model_of w o p c h)
stop size most b w o p c h t k = record { steps = []; o = o; p = p; c = c; h = h; run = refl; tracked = t; kept = k }

pub acts : (size most : ℕ) (b : Bool) (w : World) (m : ThreadedQueue) (e : ThreadStep) → may_act (right_ways size most b) m e ≡ true
    → Goes size most b w (after_act (right_ways size most b) m e)
    → Goes size most b w m
acts size most b w m e may g =
    record { steps = e ∷ g.steps; o = g.o; p = g.p; c = g.c; h = g.h; run = (may, g.run); tracked = g.tracked; kept = g.kept }

-- ---- a thread that has the lock and walks

pub record Walks (b : Bool) (w : World) (o p : Bool) (c : ℕ) : Type 0 where
  pub mode : w.turns.by_event ≡ b
  pub sleeping : w.turns.sleeping ≡ w.sleepers + w.woken
  pub called : w.turns.called ≡ true → IsCalled w
  pub unstored : w.stored ≡ false
  pub unhidden : w.hidden ≡ false
  pub notifications : IsSo b w.turns.notifications w.event w.muted w.hidden
  pub debt : o ≡ true → w.owes ≡ true
  pub signal : p ≡ (w.pending || w.turns.called)
  pub crowd : c ≡ w.woken + w.coming
  pub due : w.undelivered ≡ true → (w.turns.owed ≡ true) ⊎ (0 < w.interrupters)

-- who leaves makes the interrupt that it owes
interrupts : (owed undelivered : Bool) (n : ℕ) → (undelivered ≡ true → (owed ≡ true) ⊎ (0 < n)) → undelivered ≡ true →
    0 < (if owed then n + 1 else n)
interrupts true undelivered n due so = omega arith
interrupts false undelivered n due so = elim (due so) [ inl owed ↦ absurd (true_false false owed refl) | inr some ↦ some ]

abbrev pub IsLess : (most : ℕ) → World → Type 0
IsLess most w = (w.turns.sleeping ≡ 0) ⊎ (most ≤ w.out)

abbrev IsQuiet : (most : ℕ) → World → Type 0
IsQuiet most w = IsLess most w ⊎ ((w.turns.called ≡ true) ⊎ (0 < w.coming))

may_unlock : (most : ℕ) (b : Bool) (w : World) (o p : Bool) (c : ℕ) → Walks b w o p c → IsQuiet most w
    → (w.sleepers == 0 || (p || (nat_lt 0 c || (nat_le most w.out || w.paused)))) ≡ true
may_unlock most b w o p c k (inl (inl none)) = or_left _ _ (is_eq w.sleepers 0 (less w.turns.sleeping w.sleepers w.woken none k.sleeping))
  where
    less : (a s v : ℕ) → a ≡ 0 → a ≡ s + v → s ≡ 0
    less a s v h e = omega arith
may_unlock most b w o p c k (inl (inr full)) =
    or_right (w.sleepers == 0) _ (or_right p _ (or_right (nat_lt 0 c) _ (or_left (nat_le most w.out) _ (is_le most w.out full))))
may_unlock most b w o p c k (inr (inl called)) =
    or_right (w.sleepers == 0) _ (or_left p _ (k.signal ∙ or_right w.pending w.turns.called called))
may_unlock most b w o p c k (inr (inr coming)) =
    or_right (w.sleepers == 0) _ (or_right p _ (or_left (nat_lt 0 c) _ (is_lt 0 c (more c w.woken w.coming k.crowd coming))))
  where
    more : (c v n : ℕ) → c ≡ v + n → 0 < n → 0 < c
    more c v n h some = omega arith

-- it releases the lock, and nobody needs its wish
pub quiet_leaves : (size most : ℕ) (b : Bool) (w : World) (o p : Bool) (c : ℕ) → Walks b w o p c → IsQuiet most w
    → (0 < w.sleepers → 0 < w.answered → IsAhead w)
    → Goes size most b (settles w (leaves w.turns act.Answer false)) (model_of w o p c Walker)
quiet_leaves size most b w o p c k quiet rests =
    let after = settles w (leaves w.turns act.Answer false) in
    acts size most b after (model_of w o p c Walker) Unlocks (may_unlock most b w o p c k quiet)
    (stop size most b after o p c Nobody (record { debt = k.debt; signal = k.signal; crowd = k.crowd; lock = refl })
    (freed b most after refl k.mode k.sleeping k.called k.unstored k.unhidden k.notifications rests refl
    (interrupts w.turns.owed w.undelivered w.interrupters k.due)))

-- it releases the lock, and wakes a thread
pub wake_leaves : (size most : ℕ) (b : Bool) (w : World) (o p : Bool) (c : ℕ) → Walks b w o p c
    → Goes size most b (settles w (wakes_one w.turns)) (model_of w o p c Walker)
wake_leaves size most b w o p c k =
    let after = settles w (wakes_one w.turns) in
    acts size most b after (model_of w o p c Walker) model.Signals refl
    (acts size most b after (model_of w false true c Walker) Unlocks (or_right (w.sleepers == 0) true refl)
    (stop size most b after false true c Nobody
    (record { debt = λ so. absurd (true_false false so refl); signal = sym (or_right w.pending true refl); crowd = k.crowd; lock = refl })
    (freed b most after refl k.mode k.sleeping (λ _. inr (omega arith)) k.unstored k.unhidden k.notifications
    (λ _ _. inr (omega arith)) refl (interrupts w.turns.owed w.undelivered w.interrupters k.due))))

-- it releases the lock, and comes again
pub steps_aside : (size most : ℕ) (b : Bool) (w : World) (o p : Bool) (c : ℕ) → Walks b w o p c
    → Goes size most b (settles w (leaves w.turns act.StepAside false)) (model_of w o p c Walker)
steps_aside size most b w o p c k =
    let after = settles w (leaves w.turns act.StepAside false) in
    acts size most b after (model_of w o p c Walker) StepsAside refl
    (stop size most b after o p (c + 1) Nobody
    (record { debt = k.debt; signal = k.signal; crowd = more c w.woken w.coming k.crowd; lock = refl })
    (freed b most after refl k.mode k.sleeping k.called k.unstored k.unhidden k.notifications (λ _ _. inr (omega arith)) refl
    (interrupts w.turns.owed w.undelivered w.interrupters k.due)))
  where
    more : (c v n : ℕ) → c ≡ v + n → c + 1 ≡ v + (n + 1)
    more c v n h = omega arith

-- it ends
pub ends : (size most : ℕ) (b : Bool) (w : World) (o p : Bool) (c : ℕ) → Walks b w o p c
    → Goes size most b (settles w (machine.ends w.turns)) (model_of w o p c Walker)
ends size most b w o p c k =
    cond_both (w.turns.sleeping == 0) (leaves w.turns act.Stop false) (leaves (record w.turns { called = true }) act.Stop true)
    (λ (n : Next). Goes size most b (settles w n) (model_of w o p c Walker))
    (λ none. let nobody = eq_of w.turns.sleeping 0 none in
    quiet_leaves size most b w o p c k (inl (inl nobody))
    (λ some _. absurd (empty w.turns.sleeping w.sleepers w.woken nobody k.sleeping some)))
    (λ _. wake_leaves size most b w o p c k)
  where
    empty : (a s v : ℕ) → a ≡ 0 → a ≡ s + v → 0 < s → ⊥
    empty a s v none h some = omega arith

-- ---- a thread sleeps

-- then memory asks for the next chain's notification
is_wished : (b : Bool) (by_event : Bool) (notifications : Notifications) (event position : ℕ) (muted hidden : Bool) → by_event ≡ b
    → is_enabled_at by_event notifications position ≡ true → IsSo b notifications event muted hidden
    → (hidden ≡ false) × ((if b then event == position else not muted) ≡ true)
is_wished b by_event Unknown event position muted hidden same is so = absurd (true_false false is refl)
is_wished b by_event Disabled event position muted hidden same is so = absurd (true_false false is refl)
is_wished true by_event (Enabled at) event position muted hidden same is so =
    let here : (at == position) ≡ true = subst (λ (m : Bool). (if m then at == position else true) ≡ true) same is in
    (so.1, is_eq event position (so.0 ∙ eq_of at position here))
is_wished false by_event (Enabled at) event position muted hidden same is so = (so.1, ap not so.0)

may_omit : (b : Bool) (w : World) (o p : Bool) (c : ℕ) → Walks b w o p c
    → is_enabled_at w.turns.by_event w.turns.notifications w.position ≡ true
    → (not w.hidden && (if b then w.event == w.position else not w.muted)) ≡ true
may_omit b w o p c k is =
    let so = is_wished b w.turns.by_event w.turns.notifications w.event w.position w.muted w.hidden k.mode is k.notifications in
    and_from (not w.hidden) _ (ap not so.0) so.1

-- none is available, and it has looked since its wish was stored
sleeps : (size most : ℕ) (b : Bool) (w : World) (o p : Bool) (c : ℕ) → Walks b w o p c
    → is_enabled_at w.turns.by_event w.turns.notifications w.position ≡ true → (w.index == w.position || nat_le most w.out) ≡ true
    → (0 < w.answered → IsAhead w)
    → Goes size most b (settles (record w { known = w.index })
    (leaves (record w.turns { sleeping = w.turns.sleeping + 1 }) act.Sleep false))
    (model_of w o p c Walker)
sleeps size most b w o p c k is none waits =
    let after = settles (record w { known = w.index }) (leaves (record w.turns { sleeping = w.turns.sleeping + 1 }) act.Sleep false) in
    acts size most b after (model_of w o p c Walker) OmitsWish (may_omit b w o p c k is)
    (acts size most b after (model_of w o p c Rearmer) SleepsNow
    (and_from (not w.hidden) _ (ap not k.unhidden) none)
    (stop size most b after o p c Nobody (record { debt = k.debt; signal = k.signal; crowd = k.crowd; lock = refl })
    (freed b most after refl k.mode (one_more w.turns.sleeping w.sleepers w.woken k.sleeping) k.called k.unstored k.unhidden k.notifications
    (λ _. waits) refl (interrupts w.turns.owed w.undelivered w.interrupters k.due))))
  where
    one_more : (a s v : ℕ) → a ≡ s + v → a + 1 ≡ (s + 1) + v
    one_more a s v h = omega arith

-- as many are in flight as may be, or the queue is paused: it needs no wish
sleeps_full : (size most : ℕ) (b : Bool) (w : World) (o p : Bool) (c : ℕ) → Walks b w o p c → (nat_le most w.out || w.paused) ≡ true
    → (0 < w.answered → IsAhead w)
    → Goes size most b (settles w (leaves (record w.turns { sleeping = w.turns.sleeping + 1 }) act.Sleep false)) (model_of w o p c Walker)
sleeps_full size most b w o p c k full waits =
    let after = settles w (leaves (record w.turns { sleeping = w.turns.sleeping + 1 }) act.Sleep false) in
    acts size most b after (model_of w o p c Walker) Rests (or_right p _ (or_right (nat_lt 0 c) _ full))
    (stop size most b after o p c Nobody (record { debt = k.debt; signal = k.signal; crowd = k.crowd; lock = refl })
    (freed b most after refl k.mode (one_more w.turns.sleeping w.sleepers w.woken k.sleeping) k.called k.unstored k.unhidden k.notifications
    (λ _. waits) refl (interrupts w.turns.owed w.undelivered w.interrupters k.due)))
  where
    one_more : (a s v : ℕ) → a ≡ s + v → a + 1 ≡ (s + 1) + v
    one_more a s v h = omega arith

-- it has a chain, and has found no other since the wish was stored
pub no_more : (size most : ℕ) (b : Bool) (w : World) (o p : Bool) (c : ℕ) → Walks b w o p c
    → is_enabled_at w.turns.by_event w.turns.notifications w.position ≡ true → (w.index == w.position) ≡ true
    → (0 < w.sleepers → 0 < w.answered → IsAhead w)
    → Goes size most b (settles (record w { known = w.index }) (leaves w.turns act.Answer false)) (model_of w o p c Walker)
no_more size most b w o p c k is none waits =
    let after = settles (record w { known = w.index }) (leaves w.turns act.Answer false) in
    acts size most b after (model_of w o p c Walker) OmitsWish (may_omit b w o p c k is)
    (acts size most b after (model_of w o p c Rearmer) ProceedsBusy
    (and_from (not w.hidden) _ (ap not k.unhidden) (or_left _ (p || false) (or_left (w.index == w.position) (nat_le most w.out) none)))
    (stop size most b after o p c Nobody (record { debt = k.debt; signal = k.signal; crowd = k.crowd; lock = refl })
    (freed b most after refl k.mode k.sleeping k.called k.unstored k.unhidden k.notifications waits refl
    (interrupts w.turns.owed w.undelivered w.interrupters k.due))))

-- ---- what it does with a chain, and without one

less_of : (most : ℕ) (w : World) → (w.turns.sleeping == 0 || nat_le most w.out) ≡ true → IsLess most w
less_of most w h = elim (or_cases (w.turns.sleeping == 0) (nat_le most w.out) h) [
  | inl none ↦ inl (eq_of w.turns.sleeping 0 none)
  | inr full ↦ inr (le_of most w.out full)
]

quiet_of : (size most : ℕ) (b : Bool) (w : World) (comes : Bool) → (comes ≡ true → 0 < w.coming)
    → is_quiet w.turns (seen_of (right_ways size most b) w comes) ≡ true → IsQuiet most w
quiet_of size most b w comes truly h =
    elim (or_cases (w.turns.sleeping == 0 || nat_le most w.out) (w.turns.called || comes) h) [
      | inl less ↦ inl (less_of most w less)
      | inr other ↦ elim (or_cases w.turns.called comes other) [
        | inl called ↦ inr (inl called)
        | inr is ↦ inr (inr (truly is))
      ]
    ]

-- the same with another phase and another thing notifications
pub restay : (size most : ℕ) (b : Bool) (w : World) (o p : Bool) (c : ℕ) → Walks b w o p c → (notifications : Notifications)
    → (phase : TurnPhase)
    → IsSo b notifications w.event w.muted w.hidden
    → (holder_at phase false ≡ Walker)
    → (is_arming phase ≡ true → notifications ≡ Unknown)
    → (phase ≡ Looks → is_enabled_at w.turns.by_event notifications w.position ≡ true)
    → (phase ≡ Mutes → (notifications ≡ Disabled) × IsLess most w)
    → (is_searching phase ≡ true → 0 < w.answered → IsAhead w)
    → (is_resuming phase ≡ false → 0 < w.sleepers → 0 < w.answered → IsAhead w)
    → (phase ≡ Free → ⊥)
    → Goes size most b (record w { turns = record w.turns { notifications = notifications; phase = phase } }) (model_of w o p c Walker)
restay size most b w o p c k notifications phase so walker arming looks mutes searches rests held =
    let after = record w { turns = record w.turns { notifications = notifications; phase = phase } } in
    stop size most b after o p c Walker
    (record {
      debt = k.debt;
      signal = k.signal;
      crowd = k.crowd;
      lock = sym walker ∙ sym (ap (holder_at phase) k.unstored);
    })
    (calm b most after k.mode k.sleeping k.called k.unstored k.unhidden so arming looks mutes searches rests
    (λ is. absurd (held is)) k.due)

pub hands : (size most : ℕ) (b : Bool) (w : World) (o p : Bool) (c : ℕ) (comes : Bool) → Walks b w o p c → (comes ≡ true → 0 < w.coming)
    → (0 < w.sleepers → 0 < w.answered → IsAhead w)
    → Goes size most b (settles w (hands_on w.turns (seen_of (right_ways size most b) w comes))) (model_of w o p c Walker)
hands size most b w o p c comes k truly waits =
    let place = seen_of (right_ways size most b) w comes in
    let t = w.turns in
    cond_both (is_quiet t place)
    (if mutes t place then stays (record t { notifications = Disabled }) Mutes act.Mute else leaves t act.Answer false)
    (if is_enabled_at t.by_event t.notifications place.next_avail then stays t Looks act.Look else arms t ArmsToAnswer)
    (λ (n : Next). Goes size most b (settles w n) (model_of w o p c Walker))
    (λ quiet. cond_both (mutes t place) (stays (record t { notifications = Disabled }) Mutes act.Mute) (leaves t act.Answer false)
    (λ (n : Next). Goes size most b (settles w n) (model_of w o p c Walker))
    (λ mute. restay size most b w o p c k Disabled Mutes tt refl (λ so. absurd (true_false false so refl)) (λ is. cc)
    (λ _. (refl, less_of most w (and_parts (is_idle t place) (not t.by_event && not (is_disabled t.notifications)) mute).0))
    (λ so. absurd (true_false false so refl)) (λ _. waits) (λ is. cc))
    (λ _. quiet_leaves size most b w o p c k (quiet_of size most b w comes truly quiet) waits))
    (λ _. cond_both (is_enabled_at t.by_event t.notifications place.next_avail) (stays t Looks act.Look) (arms t ArmsToAnswer)
    (λ (n : Next). Goes size most b (settles w n) (model_of w o p c Walker))
    (λ is. restay size most b w o p c k t.notifications Looks k.notifications refl (λ so. absurd (true_false false so refl)) (λ _. is)
    (λ so. cc)
    (λ so. absurd (true_false false so refl)) (λ _. waits) (λ so. cc))
    (λ _. restay size most b w o p c k Unknown ArmsToAnswer tt refl (λ _. refl) (λ so. cc) (λ so. cc)
    (λ so. absurd (true_false false so refl)) (λ _. waits) (λ so. cc)))

pub rests_now : (size most : ℕ) (b : Bool) (w : World) (o p : Bool) (c : ℕ) → Walks b w o p c → (nat_le most w.out || w.paused) ≡ true
    → (0 < w.answered → IsAhead w)
    → Goes size most b (settles w (rests w.turns)) (model_of w o p c Walker)
rests_now size most b w o p c k full waits =
    cond_both (w.turns.sleeping == 2 ^ 64 - 1) (leaves w.turns act.StepAside false)
    (leaves (record w.turns { sleeping = w.turns.sleeping + 1 }) act.Sleep false)
    (λ (n : Next). Goes size most b (settles w n) (model_of w o p c Walker))
    (λ _. steps_aside size most b w o p c k)
    (λ _. sleeps_full size most b w o p c k full waits)

pub none_found : (size most : ℕ) (b : Bool) (w : World) (o p : Bool) (c : ℕ) (polls comes : Bool) → Walks b w o p c
    → (w.index == w.position || nat_le most w.out) ≡ true → (0 < w.answered → IsAhead w)
    → Goes size most b (settles (record w { known = w.index })
    (finds_none w.turns polls (seen_of (right_ways size most b) (record w { known = w.index }) comes)))
    (model_of w o p c Walker)
none_found size most b w o p c polls comes k none waits =
    let t = w.turns in
    let seen = record w { known = w.index } in
    let loaded : Walks b seen o p c = record {
      mode = k.mode;
      sleeping = k.sleeping;
      called = k.called;
      unstored = k.unstored;
      unhidden = k.unhidden;
      notifications = k.notifications;
      debt = k.debt;
      signal = k.signal;
      crowd = k.crowd;
      due = k.due;
    } in
    cond_both polls (leaves t act.StepAside false)
    (if is_enabled_at t.by_event t.notifications w.position then rests t else arms t ArmsToSleep)
    (λ (n : Next). Goes size most b (settles seen n) (model_of w o p c Walker))
    (λ _. acts size most b (settles seen (leaves t act.StepAside false)) (model_of w o p c Walker) Loads refl
    (steps_aside size most b seen o p c loaded))
    (λ _. cond_both (is_enabled_at t.by_event t.notifications w.position) (rests t) (arms t ArmsToSleep)
    (λ (n : Next). Goes size most b (settles seen n) (model_of w o p c Walker))
    (λ is. cond_both (t.sleeping == 2 ^ 64 - 1) (leaves t act.StepAside false)
    (leaves (record t { sleeping = t.sleeping + 1 }) act.Sleep false)
    (λ (n : Next). Goes size most b (settles seen n) (model_of w o p c Walker))
    (λ _. acts size most b (settles seen (leaves t act.StepAside false)) (model_of w o p c Walker) Loads refl
    (steps_aside size most b seen o p c loaded))
    (λ _. sleeps size most b w o p c k is none waits))
    (λ _. acts size most b (settles seen (arms t ArmsToSleep)) (model_of w o p c Walker) Loads refl
    (restay size most b seen o p c loaded Unknown ArmsToSleep tt refl (λ _. refl) (λ so. cc) (λ so. cc) (λ _. waits) (λ _ _. waits)
    (λ so. cc))))
