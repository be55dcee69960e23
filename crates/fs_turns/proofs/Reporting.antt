-- Each report of the thread that holds the lock is a run of the model's steps.
use Rattle.std.proofs.Common.{arith, ◌≡◌, ℕ, ◌+◌, ◌-◌, ◌<◌, inl, inr, Bool, true, false, not, ◌&&◌, ◌||◌}
use Rattle.std.proofs.Common.{refl, sym, subst, ap, ◌∙◌}
use Rattle.std.proofs.lemmas.Bool.{and_parts, and_cases, or_cases, or_left, or_right, not-true, not-false, cond_both}
use Rattle.std.specs.Prelude.{nat_lt, nat_le}
use Rattle.notify.specs.Kicks.{moved}
use Rattle.notify.specs.Threads.{right_ways, Holder, Walker, Rearmer}
use Rattle.notify.specs.Threads.{Loads, TakesOne, Silences}
use Rattle.notify.specs.Threads.{WalksOn}
use Rattle.fs_turns.specs.declared.machine.Notifications.{Notifications}
use Rattle.fs_turns.specs.declared.machine.Notifications.TheVariants.{Enabled}
use Rattle.fs_turns.specs.declared.machine.TurnPhase.{TurnPhase}
use Rattle.fs_turns.specs.declared.machine.TurnPhase.TheVariants.{Free, Resumes, Pops, ArmsToSleep, ArmsToAnswer, Looks, Mutes}
use Rattle.fs_turns.specs.declared.machine.TurnEvent.{TurnEvent}
use Rattle.fs_turns.specs.declared.machine.TurnEvent.TheVariants.{Resumed, NoneResumed, Popped, Idle, Full, Paused, Later, Refused}
use Rattle.fs_turns.specs.declared.machine.TurnEvent.TheVariants.{Armed, NotArmed, More, NoMore, Muted}
use Rattle.fs_turns.specs.declared.machine.TurnAction.TheVariants as act
use Rattle.fs_turns.specs.Next.{Next, leaves, wakes_one, is_enabled_at, hands_on}
use Rattle.fs_turns.specs.Worlds.{World, is_arming, settles, seen_of, done, reports_at, may_report, is_resumed, is_popped, is_armed}
use Rattle.fs_turns.specs.Worlds.{is_looked, is_muted}
use Rattle.fs_turns.proofs.Tracks.{is_lt, is_eq, le_of, eq_of, true_false, false_of}
use Rattle.fs_turns.proofs.Tracks.{IsSo, is_searching, is_resuming, IsAhead, IsCalled, Kept, holder_at, model_of, Tracked, Goes, acts}
use Rattle.fs_turns.proofs.Tracks.{Walks, quiet_leaves, wake_leaves, steps_aside, ends, no_more, restay, hands, rests_now, none_found}

rewalk : (b : Bool) (w : World) (o p : Bool) (c : ℕ) → Walks b w o p c → (known position out answered : ℕ)
    → Walks b (record w { known = known; position = position; out = out; answered = answered }) o p c
rewalk b w o p c k known position out answered = record {
  mode = k.mode;
  sleeping = k.sleeping;
  called = k.called;
  unstored = k.unstored;
  unhidden = k.unhidden;
  notifications = k.notifications;
  debt = k.debt;
  signal = k.signal;
  crowd = k.crowd;
  due = k.due;
}

-- a thread with the lock that isn't between a wish and its barrier
walks_of : (most : ℕ) (b : Bool) (w : World) (o p : Bool) (c : ℕ) (h : Holder) → Tracked w o p c h → Kept b most w
    → w.stored ≡ false
    → Walks b w o p c
walks_of most b w o p c h t k unstored = record {
  mode = k.mode;
  sleeping = k.sleeping;
  called = k.called;
  unstored = unstored;
  unhidden = false_of w.hidden (λ so. true_false w.stored (k.hidden so) unstored);
  notifications = k.notifications;
  debt = t.debt;
  signal = t.signal;
  crowd = t.crowd;
  due = k.due;
}

pub unstored_at : (most : ℕ) (b : Bool) (w : World) (phase : TurnPhase) → Kept b most w → w.turns.phase ≡ phase → is_arming phase ≡ false
    → w.stored ≡ false
unstored_at most b w phase k at calm_one =
    false_of w.stored (λ so. true_false (is_arming w.turns.phase) (k.stored so) (ap is_arming at ∙ calm_one))

ahead_of : (w : World) → IsCalled w → IsAhead w
ahead_of w (inl pending) = inl pending
ahead_of w (inr some) = inr (omega (arith, some))

resuming : (size most : ℕ) (b : Bool) (w : World) (o p : Bool) (c : ℕ) (e : TurnEvent) (fresh comes : Bool) → Walks b w o p c
    → (comes ≡ true → 0 < w.coming)
    → is_resumed w e ≡ true
    → Goes size most b (reports_at (right_ways size most b) Resumes (done w e fresh) e comes) (model_of w o p c Walker)
resuming size most b w o p c (Resumed left) fresh comes k truly may =
    let fewer = record w { answered = w.answered - 1 } in
    let place = seen_of (right_ways size most b) fewer comes in
    let t = w.turns in
    let walk : Walks b fewer o p c = rewalk b w o p c k w.known w.position w.out (w.answered - 1) in
    let is = and_parts (nat_lt 0 w.answered) (left || nat_le w.answered 1) may in
    cond_both (left && (nat_lt 0 t.sleeping && not t.called)) (wakes_one t) (hands_on t place)
    (λ (n : Next). Goes size most b (settles fewer n) (model_of w o p c Walker))
    (λ _. wake_leaves size most b fewer o p c walk)
    (λ nobody. hands size most b fewer o p c comes walk truly (λ sleeping more.
    elim (or_cases left (nat_le w.answered 1) is.1) [
      | inr last ↦ let at_most = le_of w.answered 1 last in absurd (omega (arith, at_most, more))
      | inl others ↦ elim (and_cases left (nat_lt 0 t.sleeping && not t.called) nobody) [
        | inl none ↦ absurd (true_false left others none)
        | inr other ↦ elim (and_cases (nat_lt 0 t.sleeping) (not t.called) other) [
          | inl none ↦ absurd (true_false (nat_lt 0 t.sleeping)
              (is_lt 0 t.sleeping (some t.sleeping w.sleepers w.woken k.sleeping sleeping)) none)
          | inr called ↦ ahead_of fewer (k.called (not-false t.called called))
        ]
      ]
    ]))
  where
    some : (a s v : ℕ) → a ≡ s + v → 0 < s → 0 < a
    some a s v h more = omega arith
resuming size most b w o p c NoneResumed fresh comes k truly may =
    restay size most b w o p c k w.turns.notifications Pops k.notifications refl (λ so. absurd (true_false false so refl)) (λ so. cc)
    (λ so. cc)
    (λ _ some. let none = eq_of w.answered 0 may in absurd (omega (arith, none, some)))
    (λ _ _ some. let none = eq_of w.answered 0 may in absurd (omega (arith, none, some)))
    (λ so. cc)
resuming size most b w o p c Refused fresh comes k truly may = ends size most b w o p c k
resuming size most b w o p c _ fresh comes k truly may = absurd (true_false false may refl)

popping : (size most : ℕ) (b : Bool) (w : World) (o p : Bool) (c : ℕ) (e : TurnEvent) (fresh comes : Bool) → Walks b w o p c
    → (comes ≡ true → 0 < w.coming)
    → (0 < w.answered → IsAhead w)
    → is_popped (right_ways size most b) w e fresh ≡ true
    → Goes size most b (reports_at (right_ways size most b) Pops (done w e fresh) e comes) (model_of w o p c Walker)
popping size most b w o p c Popped true comes k truly waits may =
    let one = record w { known = w.index; position = moved w.position 1; out = w.out + 1 } in
    let after = settles one (hands_on w.turns (seen_of (right_ways size most b) one comes)) in
    acts size most b after (model_of w o p c Walker) Loads refl
    (acts size most b after (model_of (record w { known = w.index }) o p c Walker) TakesOne may
    (hands size most b one o p c comes (rewalk b w o p c k w.index (moved w.position 1) (w.out + 1) w.answered) truly (λ _. waits)))
popping size most b w o p c Popped false comes k truly waits may =
    let one = record w { position = moved w.position 1; out = w.out + 1 } in
    let after = settles one (hands_on w.turns (seen_of (right_ways size most b) one comes)) in
    acts size most b after (model_of w o p c Walker) TakesOne may
    (hands size most b one o p c comes (rewalk b w o p c k w.known (moved w.position 1) (w.out + 1) w.answered) truly (λ _. waits))
popping size most b w o p c (Idle polls) fresh comes k truly waits may = none_found size most b w o p c polls comes k may waits
popping size most b w o p c Full fresh comes k truly waits may =
    rests_now size most b w o p c k (or_left (nat_le most w.out) w.paused may) waits
popping size most b w o p c Paused fresh comes k truly waits may =
    rests_now size most b w o p c k (or_right (nat_le most w.out) w.paused may) waits
popping size most b w o p c Later true comes k truly waits may =
    let loaded = record w { known = w.index } in
    acts size most b (settles loaded (leaves w.turns act.StepAside false)) (model_of w o p c Walker) Loads refl
    (steps_aside size most b loaded o p c (rewalk b w o p c k w.index w.position w.out w.answered))
popping size most b w o p c Later false comes k truly waits may = steps_aside size most b w o p c k
popping size most b w o p c Refused fresh comes k truly waits may = ends size most b w o p c k
popping size most b w o p c _ fresh comes k truly waits may = absurd (true_false false may refl)

-- behind the barrier the thread walks on
walks_on : (most : ℕ) (b : Bool) (w : World) (o p : Bool) (c : ℕ) (h : Holder) → Tracked w o p c h → Kept b most w → w.hidden ≡ false
    → Walks b (record w { stored = false }) o p c
walks_on most b w o p c h t k unhidden = record {
  mode = k.mode;
  sleeping = k.sleeping;
  called = k.called;
  unstored = refl;
  unhidden = unhidden;
  notifications = k.notifications;
  debt = t.debt;
  signal = t.signal;
  crowd = t.crowd;
  due = k.due;
}

enabled_here : (by_event : Bool) (n : ℕ) → is_enabled_at by_event (Enabled n) n ≡ true
enabled_here true n = is_eq n n refl
enabled_here false n = refl

arming_to_sleep : (size most : ℕ) (b : Bool) (w : World) (o p : Bool) (c : ℕ) (h : Holder) (e : TurnEvent) (fresh comes : Bool)
    → Tracked w o p c h
    → Kept b most w → w.turns.phase ≡ ArmsToSleep → is_armed w e ≡ true
    → Goes size most b (reports_at (right_ways size most b) ArmsToSleep (done w e fresh) e comes) (model_of w o p c h)
arming_to_sleep size most b w o p c h Armed fresh comes t k at may =
    let is = and_parts w.stored (not w.hidden) may in
    let unhidden = not-true w.hidden is.1 in
    let on = record w { stored = false } in
    let after = record on { turns = record w.turns { notifications = Enabled w.position; phase = Pops } } in
    let h_is : h ≡ Rearmer = t.lock ∙ ap (λ (q : TurnPhase). holder_at q w.stored) at ∙ ap (holder_at ArmsToSleep) is.0 in
    let waits = k.searches (ap is_searching at) in
    subst (λ (q : Holder). Goes size most b after (model_of w o p c q)) (sym h_is)
    (acts size most b after (model_of w o p c Rearmer) WalksOn is.1
    (restay size most b on o p c (walks_on most b w o p c h t k unhidden) (Enabled w.position) Pops (k.shown is.0 unhidden, unhidden) refl
    (λ so. absurd (true_false false so refl)) (λ so. cc) (λ so. cc) (λ _. waits) (λ _ _. waits) (λ so. cc)))
arming_to_sleep size most b w o p c h NotArmed fresh comes t k at may =
    let unstored = not-true w.stored may in
    let h_is : h ≡ Walker = t.lock ∙ ap (λ (q : TurnPhase). holder_at q w.stored) at ∙ ap (holder_at ArmsToSleep) unstored in
    subst (λ (q : Holder). Goes size most b (settles w (leaves w.turns act.StepAside false)) (model_of w o p c q)) (sym h_is)
    (steps_aside size most b w o p c (walks_of most b w o p c h t k unstored))
arming_to_sleep size most b w o p c h _ fresh comes t k at may = absurd (true_false false may refl)

arming_to_answer : (size most : ℕ) (b : Bool) (w : World) (o p : Bool) (c : ℕ) (h : Holder) (e : TurnEvent) (fresh comes : Bool)
    → Tracked w o p c h
    → Kept b most w → w.turns.phase ≡ ArmsToAnswer → is_armed w e ≡ true
    → Goes size most b (reports_at (right_ways size most b) ArmsToAnswer (done w e fresh) e comes) (model_of w o p c h)
arming_to_answer size most b w o p c h Armed fresh comes t k at may =
    let is = and_parts w.stored (not w.hidden) may in
    let unhidden = not-true w.hidden is.1 in
    let on = record w { stored = false } in
    let after = record on { turns = record w.turns { notifications = Enabled w.position; phase = Looks } } in
    let h_is : h ≡ Rearmer = t.lock ∙ ap (λ (q : TurnPhase). holder_at q w.stored) at ∙ ap (holder_at ArmsToAnswer) is.0 in
    let waits = k.rests (ap is_resuming at) in
    subst (λ (q : Holder). Goes size most b after (model_of w o p c q)) (sym h_is)
    (acts size most b after (model_of w o p c Rearmer) WalksOn is.1
    (restay size most b on o p c (walks_on most b w o p c h t k unhidden) (Enabled w.position) Looks
    (k.shown is.0 unhidden, unhidden) refl
    (λ so. absurd (true_false false so refl)) (λ _. enabled_here w.turns.by_event w.position) (λ so. cc)
    (λ so. absurd (true_false false so refl))
    (λ _. waits) (λ so. cc)))
arming_to_answer size most b w o p c h NotArmed fresh comes t k at may =
    let unstored = not-true w.stored may in
    let h_is : h ≡ Walker = t.lock ∙ ap (λ (q : TurnPhase). holder_at q w.stored) at ∙ ap (holder_at ArmsToAnswer) unstored in
    subst (λ (q : Holder). Goes size most b (settles w (wakes_one w.turns)) (model_of w o p c q)) (sym h_is)
    (wake_leaves size most b w o p c (walks_of most b w o p c h t k unstored))
arming_to_answer size most b w o p c h _ fresh comes t k at may = absurd (true_false false may refl)

looking : (size most : ℕ) (b : Bool) (w : World) (o p : Bool) (c : ℕ) (e : TurnEvent) (fresh comes : Bool) → Walks b w o p c
    → Kept b most w → w.turns.phase ≡ Looks → is_looked w e ≡ true
    → Goes size most b (reports_at (right_ways size most b) Looks (done w e fresh) e comes) (model_of w o p c Walker)
looking size most b w o p c More fresh comes walk k at may = wake_leaves size most b w o p c walk
looking size most b w o p c NoMore fresh comes walk k at may =
    no_more size most b w o p c walk (k.looks at) may (k.rests (ap is_resuming at))
looking size most b w o p c _ fresh comes walk k at may = absurd (true_false false may refl)

muting : (size most : ℕ) (b : Bool) (w : World) (o p : Bool) (c : ℕ) (e : TurnEvent) (fresh comes : Bool) → Walks b w o p c
    → Kept b most w → w.turns.phase ≡ Mutes → is_muted e ≡ true
    → Goes size most b (reports_at (right_ways size most b) Mutes (done w e fresh) e comes) (model_of w o p c Walker)
muting size most b w o p c Muted true comes walk k at may =
    let quiet = record w { muted = true } in
    let less = k.mutes at in
    acts size most b (settles quiet (leaves w.turns act.Answer false)) (model_of w o p c Walker) (Silences w.event) refl
    (quiet_leaves size most b quiet o p c (record {
      mode = walk.mode;
      sleeping = walk.sleeping;
      called = walk.called;
      unstored = walk.unstored;
      unhidden = walk.unhidden;
      notifications = subst (λ (q : Notifications). IsSo b q w.event true w.hidden) (sym less.0) tt;
      debt = walk.debt;
      signal = walk.signal;
      crowd = walk.crowd;
      due = walk.due;
    }) (inl less.1) (k.rests (ap is_resuming at)))
muting size most b w o p c Muted false comes walk k at may =
    let quiet = record w { muted = w.muted } in
    let less = k.mutes at in
    quiet_leaves size most b quiet o p c (record {
      mode = walk.mode;
      sleeping = walk.sleeping;
      called = walk.called;
      unstored = walk.unstored;
      unhidden = walk.unhidden;
      notifications = subst (λ (q : Notifications). IsSo b q w.event w.muted w.hidden) (sym less.0) tt;
      debt = walk.debt;
      signal = walk.signal;
      crowd = walk.crowd;
      due = walk.due;
    }) (inl less.1) (k.rests (ap is_resuming at))
muting size most b w o p c _ fresh comes walk k at may = absurd (true_false false may refl)

-- by the phase
pub reporting : (size most : ℕ) (b : Bool) (w : World) (o p : Bool) (c : ℕ) (h : Holder) (phase : TurnPhase) (e : TurnEvent)
    (fresh comes : Bool)
    → Tracked w o p c h → Kept b most w → w.turns.phase ≡ phase
    → (comes ≡ true → 0 < w.coming)
    → may_report (right_ways size most b) phase w e fresh ≡ true
    → Goes size most b (reports_at (right_ways size most b) phase (done w e fresh) e comes) (model_of w o p c h)
reporting size most b w o p c h Free e fresh comes t k at truly may = absurd (true_false false may refl)
reporting size most b w o p c h Resumes e fresh comes t k at truly may =
    let h_is : h ≡ Walker = t.lock ∙ ap (λ (q : TurnPhase). holder_at q w.stored) at in
    subst (λ (q : Holder). Goes size most b (reports_at (right_ways size most b) Resumes (done w e fresh) e comes) (model_of w o p c q))
    (sym h_is)
    (resuming size most b w o p c e fresh comes (walks_of most b w o p c h t k (unstored_at most b w Resumes k at refl)) truly may)
reporting size most b w o p c h Pops e fresh comes t k at truly may =
    let h_is : h ≡ Walker = t.lock ∙ ap (λ (q : TurnPhase). holder_at q w.stored) at in
    subst (λ (q : Holder). Goes size most b (reports_at (right_ways size most b) Pops (done w e fresh) e comes) (model_of w o p c q))
    (sym h_is)
    (popping size most b w o p c e fresh comes (walks_of most b w o p c h t k (unstored_at most b w Pops k at refl)) truly
    (k.searches (ap is_searching at)) may)
reporting size most b w o p c h ArmsToSleep e fresh comes t k at truly may =
    arming_to_sleep size most b w o p c h e fresh comes t k at may
reporting size most b w o p c h ArmsToAnswer e fresh comes t k at truly may =
    arming_to_answer size most b w o p c h e fresh comes t k at may
reporting size most b w o p c h Looks e fresh comes t k at truly may =
    let h_is : h ≡ Walker = t.lock ∙ ap (λ (q : TurnPhase). holder_at q w.stored) at in
    subst (λ (q : Holder). Goes size most b (reports_at (right_ways size most b) Looks (done w e fresh) e comes) (model_of w o p c q))
    (sym h_is)
    (looking size most b w o p c e fresh comes (walks_of most b w o p c h t k (unstored_at most b w Looks k at refl)) k at may)
reporting size most b w o p c h Mutes e fresh comes t k at truly may =
    let h_is : h ≡ Walker = t.lock ∙ ap (λ (q : TurnPhase). holder_at q w.stored) at in
    subst (λ (q : Holder). Goes size most b (reports_at (right_ways size most b) Mutes (done w e fresh) e comes) (model_of w o p c q))
    (sym h_is)
    (muting size most b w o p c e fresh comes (walks_of most b w o p c h t k (unstored_at most b w Mutes k at refl)) k at may)
