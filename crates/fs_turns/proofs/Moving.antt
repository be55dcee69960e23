-- Each move of a world is a run of the model's steps.
use Rattle.std.proofs.Common.{arith, ◌≡◌, ℕ, ◌+◌, ◌-◌, ◌<◌, inl, inr, Bool, true, false, not, ◌&&◌, ◌||◌}
use Rattle.std.proofs.Common.{refl, sym, subst, ap, ◌∙◌}
use Rattle.std.proofs.lemmas.Bool.{and_parts, or_cases, or_from, or_left, or_right, not-true, cond_both, cases_Bool}
use Rattle.std.specs.Prelude.{nat_lt, nat_le, ◌==◌}
use Rattle.notify.specs.Kicks.{back, moved, must}
use Rattle.notify.specs.Threads.{right_ways, Holder, Nobody, Walker, Rearmer, ThreadedQueue, may_act, after_act, ActsOver, opened}
use Rattle.notify.specs.Threads.{GivesChains, GiverChecks, Enters, Wishes, WishIsThere, Hears, DropsOne, ReturnsChains}
use Rattle.notify.specs.Threads.{HasLostAmongThreads}
use Rattle.notify.specs.Threads.{NoneIsLostAmongThreads, ThreadStep}
use Rattle.notify.specs.Threads as model
use Rattle.fs_turns.specs.declared.machine.Notifications.{Notifications}
use Rattle.fs_turns.specs.declared.machine.TurnPhase.{TurnPhase}
use Rattle.fs_turns.specs.declared.machine.TurnPhase.TheVariants.{Free, Resumes, Pops, ArmsToSleep, ArmsToAnswer, Looks, Mutes}
use Rattle.fs_turns.specs.declared.machine.TurnEvent.TheVariants.{Woken, Back}
use Rattle.fs_turns.specs.Next.{Next, wrong, is_free}
use Rattle.fs_turns.specs.Next as machine
use Rattle.fs_turns.specs.Worlds.{World, Move, is_arming, settles, reports_at, may_report, may_move, after_move}
use Rattle.fs_turns.specs.Worlds.{Gives, Arrives, DriverChecks, DriverNotifies, WishArrives, Wakens, Comes, Signals, SignalsToo, Pauses}
use Rattle.fs_turns.specs.Worlds.{GoesOn, AnswerComes}
use Rattle.fs_turns.specs.Worlds.{EntersWoken, EntersBack, EntersDropping, Interrupts, StoresWish, Reports}
use Rattle.fs_turns.proofs.Tracks.{is_searching, is_resuming}
use Rattle.fs_turns.proofs.Tracks.{IsWished, IsSo, Kept, calm, holder_at, model_of, Tracked, Goes, stop, acts}
use Rattle.fs_turns.proofs.Reporting.{reporting, unstored_at}
use Rattle.fs_turns.proofs.Tracks.{is_lt, lt_of, eq_of, true_false}

-- what no invariant reads
same : (b : Bool) (most : ℕ) (w : World) → Kept b most w → (index published unchecked busy : ℕ) (owes : Bool)
    → Kept b most (record w { index = index; published = published; unchecked = unchecked; busy = busy; owes = owes })
same b most w k index published unchecked busy owes = record {
  mode = k.mode;
  sleeping = k.sleeping;
  called = k.called;
  stored = k.stored;
  hidden = k.hidden;
  wish = k.wish;
  shown = k.shown;
  notifications = k.notifications;
  arming = k.arming;
  looks = k.looks;
  mutes = k.mutes;
  searches = k.searches;
  rests = k.rests;
  owed = k.owed;
  due = k.due;
}

-- ---- the moves

is_free_of : (p : TurnPhase) → is_free p ≡ true → p ≡ Free
is_free_of Free h = refl
is_free_of _ h = cc

arming_walks : (phase : TurnPhase) (stored : Bool) → is_arming phase ≡ true → stored ≡ false → holder_at phase stored ≡ Walker
arming_walks ArmsToSleep stored so not_so = ap (holder_at ArmsToSleep) not_so
arming_walks ArmsToAnswer stored so not_so = ap (holder_at ArmsToAnswer) not_so
arming_walks _ stored so not_so = absurd (true_false false so refl)

arming_rearms : (phase : TurnPhase) → is_arming phase ≡ true → Rearmer ≡ holder_at phase true
arming_rearms ArmsToSleep so = refl
arming_rearms ArmsToAnswer so = refl
arming_rearms _ so = absurd (true_false false so refl)

arrived : (b : Bool) (wish position : ℕ) → wish ≡ position → IsWished b wish false position
arrived true wish position at = at
arrived false wish position at = refl

is_calm : (b : Bool) (most : ℕ) (w : World) → Kept b most w → w.stored ≡ false → w.hidden ≡ false
is_calm b most w k not_so = elim (cases_Bool w.hidden) [
  | inl so ↦ absurd (true_false w.stored (k.hidden so) not_so)
  | inr is ↦ is
]

-- a thread that has taken the lock begins to look
begins_to_look : (size most : ℕ) (b : Bool) (w : World) (m : ThreadedQueue) (none : Bool)
    → (none ≡ true → w.answered ≡ 0)
    → ((phase : TurnPhase) → (is_arming phase ≡ false) → (phase ≡ Free → ⊥) → (phase ≡ Looks → ⊥) → (phase ≡ Mutes → ⊥)
    → (is_resuming phase ≡ false → 0 < w.answered → ⊥)
    → (is_searching phase ≡ true → 0 < w.answered → ⊥)
    → (holder_at phase w.stored ≡ Walker)
    → Goes size most b (record w { turns = record w.turns { phase = phase } }) m)
    → Goes size most b (settles w (machine.begins w.turns none)) m
begins_to_look size most b w m true none there =
    let no_answer : 0 < w.answered → ⊥ = λ some. empty w.answered (none refl) some in
    there Pops refl (λ so. cc) (λ so. cc) (λ so. cc) (λ _. no_answer) (λ _. no_answer) refl
  where
    empty : (n : ℕ) → n ≡ 0 → 0 < n → ⊥
    empty n h some = omega arith
begins_to_look size most b w m false none there =
    there Resumes refl (λ so. cc) (λ so. cc) (λ so. cc) (λ so _. true_false true refl so) (λ so _. true_false false so refl) refl

-- a thread that was woken takes the lock
enters_woken : (size most : ℕ) (b : Bool) (w : World) (o p : Bool) (c : ℕ) (none : Bool) → Tracked w o p c Nobody → Kept b most w
    → w.turns.phase ≡ Free
    → 0 < w.woken
    → (none ≡ true → w.answered ≡ 0)
    → Goes size most b (reports_at (right_ways size most b) Free (record w { woken = w.woken - 1 }) (Woken none) false)
    (model_of w o p c Nobody)
enters_woken size most b w o p c none t k at some no_answer =
    let turns = record w.turns { sleeping = w.turns.sleeping - 1; called = false } in
    let left = record w { woken = w.woken - 1 } in
    let inside = record w { woken = w.woken - 1; turns = turns } in
    let unstored = unstored_at most b w Free k at refl in
    let crowd = one_less c w.woken w.coming t.crowd some in
    cond_both (w.turns.sleeping == 0) (wrong w.turns) (machine.begins turns none)
    (λ (n : Next). Goes size most b (settles left n) (model_of w o p c Nobody))
    (λ empty. absurd (never w.turns.sleeping w.sleepers w.woken k.sleeping some (eq_of w.turns.sleeping 0 empty)))
    (λ _. begins_to_look size most b inside (model_of w o p c Nobody) none no_answer
    (λ phase unarmed held unlooked unmuted unresumed unsearched walker.
    let after = record inside { turns = record turns { phase = phase } } in
    let kept : Kept b most after = calm b most after k.mode (fewer w.turns.sleeping w.sleepers w.woken k.sleeping some)
    (λ so. absurd (true_false false so refl)) unstored (is_calm b most w k unstored) k.notifications
    (λ so. absurd (true_false (is_arming phase) so unarmed)) (λ so. absurd (unlooked so)) (λ so. absurd (unmuted so))
    (λ so more. absurd (unsearched so more)) (λ so _ more. absurd (unresumed so more)) (λ so. absurd (held so)) k.due in
    acts size most b after (model_of w o p c Nobody) Enters (is_lt 0 c (more c w.woken w.coming t.crowd some))
    (acts size most b after (model_of w o p (c - 1) Walker) Hears refl
    (elim (cases_Bool w.pending) [
      | inl pending ↦ acts size most b after (model_of w o false (c - 1) Walker) model.Signals refl
          (stop size most b after false true (c - 1) Walker
          (record {
            debt = λ so. absurd (true_false false so refl);
            signal = sym (or_left w.pending false pending);
            crowd = crowd;
            lock = sym walker;
          }) kept)
      | inr quiet ↦ stop size most b after o false (c - 1) Walker
          (record { debt = t.debt; signal = sym (or_from w.pending false quiet refl); crowd = crowd; lock = sym walker }) kept
    ]))))
  where
    fewer : (a s v : ℕ) → a ≡ s + v → 0 < v → a - 1 ≡ s + (v - 1)
    fewer a s v h some = omega arith

    one_less : (c v n : ℕ) → c ≡ v + n → 0 < v → c - 1 ≡ (v - 1) + n
    one_less c v n h some = omega arith

    never : (a s v : ℕ) → a ≡ s + v → 0 < v → a ≡ 0 → ⊥
    never a s v h some none = omega arith

    more : (c v n : ℕ) → c ≡ v + n → 0 < v → 0 < c
    more c v n h some = omega arith

-- a thread that comes from its call takes the lock
enters_back : (size most : ℕ) (b : Bool) (w : World) (o p : Bool) (c : ℕ) (pushed : ℕ) (notify none : Bool) → Tracked w o p c Nobody
    → Kept b most w
    → w.turns.phase ≡ Free → 0 < w.coming → nat_le pushed w.out ≡ true
    → (none ≡ true → w.answered ≡ 0)
    → Goes size most b (reports_at (right_ways size most b) Free
    (record w { coming = w.coming - 1; out = w.out - pushed; undelivered = w.undelivered || notify }) (Back notify none) false)
    (model_of w o p c Nobody)
enters_back size most b w o p c pushed notify none t k at some few no_answer =
    let turns = record w.turns { owed = w.turns.owed || notify } in
    let inside = record w { coming = w.coming - 1; out = w.out - pushed; undelivered = w.undelivered || notify; turns = turns } in
    let unstored = unstored_at most b w Free k at refl in
    begins_to_look size most b inside (model_of w o p c Nobody) none no_answer
    (λ phase unarmed held unlooked unmuted unresumed unsearched walker.
    let after = record inside { turns = record turns { phase = phase } } in
    acts size most b after (model_of w o p c Nobody) Enters (is_lt 0 c (more c w.woken w.coming t.crowd some))
    (acts size most b after (model_of w o p (c - 1) Walker) (ReturnsChains pushed) few
    (stop size most b after o p (c - 1) Walker
    (record { debt = t.debt; signal = t.signal; crowd = one_less c w.woken w.coming t.crowd some; lock = sym walker })
    (calm b most after k.mode k.sleeping k.called unstored (is_calm b most w k unstored) k.notifications
    (λ so. absurd (true_false (is_arming phase) so unarmed)) (λ so. absurd (unlooked so)) (λ so. absurd (unmuted so))
    (λ so more. absurd (unsearched so more)) (λ so _ more. absurd (unresumed so more)) (λ so. absurd (held so))
    (λ so. elim (or_cases w.undelivered notify so) [
      | inl old ↦ elim (k.due old) [ inl owed ↦ inl (or_left w.turns.owed notify owed) | inr some ↦ inr some ]
      | inr new ↦ inl (or_right w.turns.owed notify new)
    ])))))
  where
    one_less : (c v n : ℕ) → c ≡ v + n → 0 < n → c - 1 ≡ v + (n - 1)
    one_less c v n h some = omega arith

    more : (c v n : ℕ) → c ≡ v + n → 0 < n → 0 < c
    more c v n h some = omega arith

-- or takes it and drops its chain
enters_dropping : (size most : ℕ) (b : Bool) (w : World) (o p : Bool) (c : ℕ) (none : Bool) → Tracked w o p c Nobody
    → Kept b most w
    → w.turns.phase ≡ Free → 0 < w.coming → nat_lt 0 w.out ≡ true
    → (none ≡ true → w.answered ≡ 0)
    → Goes size most b (reports_at (right_ways size most b) Free
    (record w { coming = w.coming - 1; position = back w.position 1; out = w.out - 1 }) (Back false none) false)
    (model_of w o p c Nobody)
enters_dropping size most b w o p c none t k at some few no_answer =
    let turns = record w.turns { owed = w.turns.owed || false } in
    let inside = record w { coming = w.coming - 1; position = back w.position 1; out = w.out - 1; turns = turns } in
    let unstored = unstored_at most b w Free k at refl in
    begins_to_look size most b inside (model_of w o p c Nobody) none no_answer
    (λ phase unarmed held unlooked unmuted unresumed unsearched walker.
    let after = record inside { turns = record turns { phase = phase } } in
    acts size most b after (model_of w o p c Nobody) Enters (is_lt 0 c (more c w.woken w.coming t.crowd some))
    (acts size most b after (model_of w o p (c - 1) Walker) DropsOne few
    (stop size most b after o p (c - 1) Walker
    (record { debt = t.debt; signal = t.signal; crowd = one_less c w.woken w.coming t.crowd some; lock = sym walker })
    (calm b most after k.mode k.sleeping k.called unstored (is_calm b most w k unstored) k.notifications
    (λ so. absurd (true_false (is_arming phase) so unarmed)) (λ so. absurd (unlooked so)) (λ so. absurd (unmuted so))
    (λ so more. absurd (unsearched so more)) (λ so _ more. absurd (unresumed so more)) (λ so. absurd (held so))
    (λ so. elim (k.due so) [ inl owed ↦ inl (or_left w.turns.owed false owed) | inr some ↦ inr some ])))))
  where
    one_less : (c v n : ℕ) → c ≡ v + n → 0 < n → c - 1 ≡ v + (n - 1)
    one_less c v n h some = omega arith

    more : (c v n : ℕ) → c ≡ v + n → 0 < n → 0 < c
    more c v n h some = omega arith

-- a thread that sleeps wakes
wakens : (size most : ℕ) (b : Bool) (w : World) (o p : Bool) (c : ℕ) (h : Holder) (takes : Bool) → Tracked w o p c h → Kept b most w
    → nat_lt 0 w.sleepers ≡ true
    → Goes size most b (after_move (right_ways size most b) w (Wakens takes)) (model_of w o p c h)
wakens size most b w o p c h takes t k may =
    let after = after_move (right_ways size most b) w (Wakens takes) in
    let kept : Kept b most after = record {
      mode = k.mode;
      sleeping = moved_one w.turns.sleeping w.sleepers w.woken k.sleeping (lt_of 0 w.sleepers may);
      called = λ _. inr (omega arith);
      stored = k.stored;
      hidden = k.hidden;
      wish = k.wish;
      shown = k.shown;
      notifications = k.notifications;
      arming = k.arming;
      looks = k.looks;
      mutes = k.mutes;
      searches = λ _ _. inr (omega arith);
      rests = λ _ _ _. inr (omega arith);
      owed = k.owed;
      due = k.due;
    } in
    let crowd = one_more c w.woken w.coming t.crowd in
    acts size most b after (model_of w o p c h) model.Wakens may
    (elim (cases_Bool ((w.pending && not takes) || w.turns.called)) [
      | inl pending ↦ acts size most b after (model_of (record w { sleepers = w.sleepers - 1 }) o false (c + 1) h) model.Signals refl
          (stop size most b after false true (c + 1) h
          (record { debt = λ so. absurd (true_false false so refl); signal = sym pending; crowd = crowd; lock = t.lock }) kept)
      | inr none ↦ stop size most b after o false (c + 1) h
          (record { debt = t.debt; signal = sym none; crowd = crowd; lock = t.lock }) kept
    ])
  where
    moved_one : (a s v : ℕ) → a ≡ s + v → 0 < s → a ≡ (s - 1) + (v + 1)
    moved_one a s v h some = omega arith

    one_more : (c v n : ℕ) → c ≡ v + n → c + 1 ≡ (v + 1) + n
    one_more c v n h = omega arith

-- a thread stores its wish
stores : (size most : ℕ) (b : Bool) (w : World) (o p : Bool) (c : ℕ) (h : Holder) → Tracked w o p c h → Kept b most w
    → is_arming w.turns.phase ≡ true → w.stored ≡ false
    → Goes size most b (after_move (right_ways size most b) w StoresWish) (model_of w o p c h)
stores size most b w o p c h t k arming unstored =
    let after = after_move (right_ways size most b) w StoresWish in
    let h_is : h ≡ Walker = t.lock ∙ arming_walks w.turns.phase w.stored arming unstored in
    subst (λ (q : Holder). Goes size most b after (model_of w o p c q)) (sym h_is)
    (acts size most b after (model_of w o p c Walker) Wishes refl
    (stop size most b after o p c Rearmer
    (record { debt = t.debt; signal = t.signal; crowd = t.crowd; lock = arming_rearms w.turns.phase arming })
    (record {
      mode = k.mode;
      sleeping = k.sleeping;
      called = k.called;
      stored = λ _. arming;
      hidden = λ _. refl;
      wish = λ _. refl;
      shown = λ _ not_so. absurd (true_false true refl not_so);
      notifications = subst (λ (q : Notifications). IsSo b q w.event w.muted true) (sym (k.arming arming)) tt;
      arming = k.arming;
      looks = k.looks;
      mutes = k.mutes;
      searches = k.searches;
      rests = k.rests;
      owed = k.owed;
      due = k.due;
    })))

none_of : (none : Bool) (answered : ℕ) → (not none || answered == 0) ≡ true → none ≡ true → answered ≡ 0
none_of none answered h so = elim (or_cases (not none) (answered == 0) h) [
  | inl not_so ↦ absurd (true_false none so (not-true none not_so))
  | inr is ↦ eq_of answered 0 is
]

pub moves_on : (size most : ℕ) (b : Bool) (w : World) (o p : Bool) (c : ℕ) (h : Holder) (e : Move) → Tracked w o p c h → Kept b most w
    → may_move (right_ways size most b) w e ≡ true
    → Goes size most b (after_move (right_ways size most b) w e) (model_of w o p c h)
moves_on size most b w o p c h (Gives more) t k may =
    let after = after_move (right_ways size most b) w (Gives more) in
    acts size most b after (model_of w o p c h) (GivesChains more) may
    (stop size most b after o p c h (record { debt = t.debt; signal = t.signal; crowd = t.crowd; lock = t.lock })
    (same b most w k w.index (moved w.published more) (w.unchecked + more) w.busy w.owes))
moves_on size most b w o p c h (Arrives more) t k may =
    let after = after_move (right_ways size most b) w (Arrives more) in
    acts size most b after (model_of w o p c h) (model.Arrives more) may
    (stop size most b after o p c h (record { debt = t.debt; signal = t.signal; crowd = t.crowd; lock = t.lock })
    (same b most w k (moved w.index more) w.published w.unchecked w.busy w.owes))
moves_on size most b w o p c h DriverChecks t k may =
    let after = after_move (right_ways size most b) w DriverChecks in
    let is = must b w.event w.muted w.published w.unchecked in
    acts size most b after (model_of w o p c h) GiverChecks may
    (stop size most b after (o || is) p c h
    (record {
      debt = λ so. elim (or_cases o is so) [ inl old ↦ or_left w.owes is (t.debt old) | inr new ↦ or_right w.owes is new ];
      signal = t.signal;
      crowd = t.crowd;
      lock = t.lock;
    })
    (same b most w k w.index w.published 0 w.busy (w.owes || is)))
moves_on size most b w o p c h DriverNotifies t k may =
    let after = after_move (right_ways size most b) w DriverNotifies in
    acts size most b after (model_of w o p c h) model.Signals refl
    (stop size most b after false true c h
    (record { debt = λ so. absurd (true_false false so refl); signal = refl; crowd = t.crowd; lock = t.lock })
    (record {
      mode = k.mode;
      sleeping = k.sleeping;
      called = λ _. inl refl;
      stored = k.stored;
      hidden = k.hidden;
      wish = k.wish;
      shown = k.shown;
      notifications = k.notifications;
      arming = k.arming;
      looks = k.looks;
      mutes = k.mutes;
      searches = λ _ _. inl refl;
      rests = λ _ _ _. inl refl;
      owed = k.owed;
      due = k.due;
    }))
moves_on size most b w o p c h WishArrives t k may =
    let after = after_move (right_ways size most b) w WishArrives in
    acts size most b after (model_of w o p c h) WishIsThere may
    (stop size most b after o p c h (record { debt = t.debt; signal = t.signal; crowd = t.crowd; lock = t.lock })
    (record {
      mode = k.mode;
      sleeping = k.sleeping;
      called = k.called;
      stored = k.stored;
      hidden = λ so. absurd (true_false false so refl);
      wish = λ so. absurd (true_false false so refl);
      shown = λ _ _. arrived b w.wish w.position (k.wish may);
      notifications = subst (λ (q : Notifications). IsSo b q w.wish false false) (sym (k.arming (k.stored (k.hidden may)))) tt;
      arming = k.arming;
      looks = k.looks;
      mutes = k.mutes;
      searches = k.searches;
      rests = k.rests;
      owed = k.owed;
      due = k.due;
    }))
moves_on size most b w o p c h (Wakens takes) t k may = wakens size most b w o p c h takes t k may
moves_on size most b w o p c h Comes t k may =
    let after = after_move (right_ways size most b) w Comes in
    acts size most b after (model_of w o p c h) model.Comes may
    (stop size most b after o p (c + 1) h
    (record { debt = t.debt; signal = t.signal; crowd = one_more c w.woken w.coming t.crowd; lock = t.lock })
    (record {
      mode = k.mode;
      sleeping = k.sleeping;
      called = k.called;
      stored = k.stored;
      hidden = k.hidden;
      wish = k.wish;
      shown = k.shown;
      notifications = k.notifications;
      arming = k.arming;
      looks = k.looks;
      mutes = k.mutes;
      searches = λ _ _. inr (omega arith);
      rests = λ _ _ _. inr (omega arith);
      owed = k.owed;
      due = k.due;
    }))
  where
    one_more : (c v n : ℕ) → c ≡ v + n → c + 1 ≡ v + (n + 1)
    one_more c v n h = omega arith
moves_on size most b w o p c h Signals t k may =
    let after = after_move (right_ways size most b) w Signals in
    acts size most b after (model_of w o p c h) model.Signals refl
    (stop size most b after false true c h
    (record { debt = λ so. absurd (true_false false so refl); signal = refl; crowd = t.crowd; lock = t.lock })
    (record {
      mode = k.mode;
      sleeping = k.sleeping;
      called = λ _. inl refl;
      stored = k.stored;
      hidden = k.hidden;
      wish = k.wish;
      shown = k.shown;
      notifications = k.notifications;
      arming = k.arming;
      looks = k.looks;
      mutes = k.mutes;
      searches = λ _ _. inl refl;
      rests = λ _ _ _. inl refl;
      owed = k.owed;
      due = k.due;
    }))
moves_on size most b w o p c h SignalsToo t k may =
    let after = after_move (right_ways size most b) w SignalsToo in
    acts size most b after (model_of w o p c h) model.Signals refl
    (stop size most b after false true c h
    (record { debt = λ so. absurd (true_false false so refl); signal = refl; crowd = t.crowd; lock = t.lock })
    (record {
      mode = k.mode;
      sleeping = k.sleeping;
      called = λ _. inl refl;
      stored = k.stored;
      hidden = k.hidden;
      wish = k.wish;
      shown = k.shown;
      notifications = k.notifications;
      arming = k.arming;
      looks = k.looks;
      mutes = k.mutes;
      searches = λ _ _. inl refl;
      rests = λ _ _ _. inl refl;
      owed = k.owed;
      due = k.due;
    }))
moves_on size most b w o p c h Pauses t k may =
    let after = after_move (right_ways size most b) w Pauses in
    acts size most b after (model_of w o p c h) model.Pauses refl
    (stop size most b after o p c h (record { debt = t.debt; signal = t.signal; crowd = t.crowd; lock = t.lock })
    (record {
      mode = k.mode;
      sleeping = k.sleeping;
      called = k.called;
      stored = k.stored;
      hidden = k.hidden;
      wish = k.wish;
      shown = k.shown;
      notifications = k.notifications;
      arming = k.arming;
      looks = k.looks;
      mutes = k.mutes;
      searches = k.searches;
      rests = k.rests;
      owed = k.owed;
      due = k.due;
    }))
moves_on size most b w o p c h GoesOn t k may =
    let after = after_move (right_ways size most b) w GoesOn in
    acts size most b after (model_of w o p c h) model.GoesOn refl
    (stop size most b after o true c h
    (record { debt = t.debt; signal = refl; crowd = t.crowd; lock = t.lock })
    (record {
      mode = k.mode;
      sleeping = k.sleeping;
      called = λ _. inl refl;
      stored = k.stored;
      hidden = k.hidden;
      wish = k.wish;
      shown = k.shown;
      notifications = k.notifications;
      arming = k.arming;
      looks = k.looks;
      mutes = k.mutes;
      searches = λ _ _. inl refl;
      rests = λ _ _ _. inl refl;
      owed = k.owed;
      due = k.due;
    }))
moves_on size most b w o p c h AnswerComes t k may =
    let after = after_move (right_ways size most b) w AnswerComes in
    stop size most b after o p c h (record { debt = t.debt; signal = t.signal; crowd = t.crowd; lock = t.lock })
    (record {
      mode = k.mode;
      sleeping = k.sleeping;
      called = λ _. inr (omega arith);
      stored = k.stored;
      hidden = k.hidden;
      wish = k.wish;
      shown = k.shown;
      notifications = k.notifications;
      arming = k.arming;
      looks = k.looks;
      mutes = k.mutes;
      searches = λ _ _. inr (omega arith);
      rests = λ _ _ _. inr (omega arith);
      owed = k.owed;
      due = k.due;
    })
moves_on size most b w o p c h (EntersWoken none) t k may =
    let left = record w { woken = w.woken - 1 } in
    let is = and_parts (is_free w.turns.phase) (nat_lt 0 w.woken && (not none || w.answered == 0)) may in
    let more = and_parts (nat_lt 0 w.woken) (not none || w.answered == 0) is.1 in
    let free = is_free_of w.turns.phase is.0 in
    let h_is : h ≡ Nobody = t.lock ∙ ap (λ (q : TurnPhase). holder_at q w.stored) free in
    subst (λ (q : TurnPhase). Goes size most b (reports_at (right_ways size most b) q left (Woken none) false) (model_of w o p c h))
    (sym free)
    (subst (λ (q : Holder). Goes size most b (reports_at (right_ways size most b) Free left (Woken none) false) (model_of w o p c q))
    (sym h_is)
    (enters_woken size most b w o p c none (subst (Tracked w o p c) h_is t) k free (lt_of 0 w.woken more.0)
    (none_of none w.answered more.1)))
moves_on size most b w o p c h (EntersBack pushed notify none) t k may =
    let left = record w { coming = w.coming - 1; out = w.out - pushed; undelivered = w.undelivered || notify } in
    let is = and_parts (is_free w.turns.phase) (nat_lt 0 w.coming && (nat_le pushed w.out && (not none || w.answered == 0))) may in
    let more = and_parts (nat_lt 0 w.coming) (nat_le pushed w.out && (not none || w.answered == 0)) is.1 in
    let last = and_parts (nat_le pushed w.out) (not none || w.answered == 0) more.1 in
    let free = is_free_of w.turns.phase is.0 in
    let h_is : h ≡ Nobody = t.lock ∙ ap (λ (q : TurnPhase). holder_at q w.stored) free in
    subst (λ (q : TurnPhase). Goes size most b (reports_at (right_ways size most b) q left (Back notify none) false)
    (model_of w o p c h)) (sym free)
    (subst (λ (q : Holder). Goes size most b (reports_at (right_ways size most b) Free left (Back notify none) false)
    (model_of w o p c q)) (sym h_is)
    (enters_back size most b w o p c pushed notify none (subst (Tracked w o p c) h_is t) k free (lt_of 0 w.coming more.0) last.0
    (none_of none w.answered last.1)))
moves_on size most b w o p c h (EntersDropping none) t k may =
    let left = record w { coming = w.coming - 1; position = back w.position 1; out = w.out - 1 } in
    let is = and_parts (is_free w.turns.phase) (nat_lt 0 w.coming && (nat_lt 0 w.out && (not none || w.answered == 0))) may in
    let more = and_parts (nat_lt 0 w.coming) (nat_lt 0 w.out && (not none || w.answered == 0)) is.1 in
    let last = and_parts (nat_lt 0 w.out) (not none || w.answered == 0) more.1 in
    let free = is_free_of w.turns.phase is.0 in
    let h_is : h ≡ Nobody = t.lock ∙ ap (λ (q : TurnPhase). holder_at q w.stored) free in
    subst (λ (q : TurnPhase). Goes size most b (reports_at (right_ways size most b) q left (Back false none) false)
    (model_of w o p c h)) (sym free)
    (subst (λ (q : Holder). Goes size most b (reports_at (right_ways size most b) Free left (Back false none) false)
    (model_of w o p c q)) (sym h_is)
    (enters_dropping size most b w o p c none (subst (Tracked w o p c) h_is t) k free (lt_of 0 w.coming more.0) last.0
    (none_of none w.answered last.1)))
moves_on size most b w o p c h Interrupts t k may =
    let after = after_move (right_ways size most b) w Interrupts in
    stop size most b after o p c h (record { debt = t.debt; signal = t.signal; crowd = t.crowd; lock = t.lock })
    (record {
      mode = k.mode;
      sleeping = k.sleeping;
      called = k.called;
      stored = k.stored;
      hidden = k.hidden;
      wish = k.wish;
      shown = k.shown;
      notifications = k.notifications;
      arming = k.arming;
      looks = k.looks;
      mutes = k.mutes;
      searches = k.searches;
      rests = k.rests;
      owed = k.owed;
      due = λ so. absurd (true_false false so refl);
    })
moves_on size most b w o p c h StoresWish t k may =
    let is = and_parts (is_arming w.turns.phase) (not w.stored) may in
    stores size most b w o p c h t k is.0 (not-true w.stored is.1)
moves_on size most b w o p c h (Reports e fresh comes) t k may =
    let is = and_parts (may_report (right_ways size most b) w.turns.phase w e fresh) (not comes || nat_lt 0 w.coming) may in
    reporting size most b w o p c h w.turns.phase e fresh comes t k refl
    (λ so. elim (or_cases (not comes) (nat_lt 0 w.coming) is.1) [
      | inl not_so ↦ absurd (true_false comes so (not-true comes not_so))
      | inr some ↦ lt_of 0 w.coming some
    ])
    is.0
