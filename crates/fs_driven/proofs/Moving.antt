-- A move drives the run: of all queues of a run it is the device's, and otherwise resets and new memory.
use Rattle.std.proofs.Common.{inl, ◌≡◌, ◌≤◌, ◌<◌, ◌+◌, ◌^◌, ℕ, zero, suc, Bool, true, false, List, [], ◌∷◌, ◌++◌}
use Rattle.std.proofs.Common.{Option, Some, None, arith, length, eqb-true, refl, subst, sym, ap, ◌∙◌, ◌==◌, slice_get, zero-le}
use Rattle.std.specs.Prelude.{◌&&◌, Err, IfErr, Ok, OnErr, OnOk, Result, filter, if◌then◌else◌, map, nat_lt, not}
use Rattle.std.specs.Borrow.{Bor}
use Rattle.std.specs.Global.{Global}
use Rattle.std.specs.List.{AllByRecursion}
use Rattle.std.proofs.lemmas.Bool.{and_parts, ltb-false}
use Rattle.vm_memory.specs.Memory.{Memory}
use Rattle.vm_memory.specs.Layout.{Region}
use Rattle.fs_queue.specs.Queue.{Queue}
use Rattle.fs_regions.specs.Places.{places_in, untranslated}
use Rattle.live_machine.specs.Several.{LiveQueue}
use Rattle.live_machine.specs.Live.{HasNoneInFlight, HasValidMaximum, InFlightChain, KeepsQueue, LiveEvent, LiveRun}
use Rattle.live_machine.specs.Live.{MovesDevice, MovesDeviceSo, Remaps, RemapsSo, ResetsQueueSo, after_reset}
use Rattle.live_machine.proofs.Moved.{joined}
use Rattle.live_machine.proofs.Queues.{none_some, same_some, there_other, there_same}
use Rattle.fs_chain.specs.Holds.{RunState, any_files, live_of}
use Rattle.fs_chain.specs.Orders.{is_out}
use Rattle.fs_chain.specs.declared.chain_handle.ChainHandle.{ChainHandle}
use Rattle.fs_chain.specs.declared.error.ChainError.{ChainError}
use Rattle.fs_chain.specs.declared.error.ChainError.TheVariants as error
use Rattle.fs_chain.specs.declared.queue.QueueState.{QueueState}
use Rattle.fs_driven.specs.declared.commands.DriverCall.TheVariants as does
use Rattle.fs_driven.specs.declared.commands.Results.TheVariants as gives
use Rattle.fs_driven.specs.Drivers.{AreQueues, FitsRun}
use Rattle.fs_driven.specs.Moving.{has_valid_maximum, have_valid_maximum, move_error, moving, resetting, restored}
use Rattle.fs_driven.specs.NewMemory.{HaveNone, IsErrorOf, TakeMemory, remap_error}
use Rattle.fs_driven.specs.Events.{Drives, DrivesOne, call_of}
use Rattle.fs_driven.proofs.Calls.{refuses, same_held}
use Rattle.fs_driven.proofs.Handles.{not_free}
use Rattle.fs_driven.proofs.Remaps.{fits_new, is_empty, is_free}
use Rattle.fs_driven.proofs.Resets.{none_of_queue, one_of_queue}

-- the queues of a run, as they are restored
abbrev moved_of : List QueueState → List LiveQueue
moved_of qs = map live_of (map restored qs)

-- ---- what restored queues have

valid_maximum : (q : QueueState) → has_valid_maximum q ≡ true →
    (1 ≤ q.max_in_flight) × (q.max_in_flight ≤ q.layout.size)
valid_maximum q valid = by_tests (nat_lt q.max_in_flight 1) (nat_lt q.layout.size q.max_in_flight) refl refl valid
  where
    by_tests : (a b : Bool) → nat_lt q.max_in_flight 1 ≡ a → nat_lt q.layout.size q.max_in_flight ≡ b →
        (not a && not b) ≡ true → (1 ≤ q.max_in_flight) × (q.max_in_flight ≤ q.layout.size)
    by_tests false false few most is = (ltb-false q.max_in_flight 1 few, ltb-false q.layout.size q.max_in_flight most)
    by_tests true b few most is = absurd (not_free false is refl)
    by_tests false true few most is = absurd (not_free false is refl)

-- each may be reset so
abbrev MayMove : List QueueState → Type 0
MayMove [] = Unit {0}
MayMove (q ∷ qs) = HasNoneInFlight (live_of (restored q)) × HasValidMaximum (live_of (restored q)) × MayMove qs

may_move : (qs : List QueueState) → HaveNone qs → have_valid_maximum qs ≡ true → MayMove qs
may_move [] none valid = tt
may_move (q ∷ qs) none valid =
    let parts = and_parts (has_valid_maximum q) (have_valid_maximum qs) valid in
    ((refl, none.3), valid_maximum q parts.0, may_move qs none.4 parts.1)

none_in_flight : (qs : List QueueState) → MayMove qs → AllByRecursion HasNoneInFlight (moved_of qs)
none_in_flight [] may = tt
none_in_flight (q ∷ qs) may = (may.0, none_in_flight qs may.2)

few_in_flight : (qs : List QueueState) → MayMove qs → AllByRecursion HasValidMaximum (moved_of qs)
few_in_flight [] may = tt
few_in_flight (q ∷ qs) may = (may.1, few_in_flight qs may.2)

same_queues : (qs : List QueueState) →
    map (λ (v : LiveQueue). v.queue) (moved_of qs) ≡ map (λ (v : LiveQueue). v.queue) (map live_of qs)
same_queues [] = refl
same_queues (q ∷ qs) = ap (λ (l : List Queue). (live_of q).queue ∷ l) (same_queues qs)

restored_at : (qs : List QueueState) (j : ℕ) (p : QueueState) → slice_get (map restored qs) j ≡ Some p
    → (q : QueueState) × (slice_get qs j ≡ Some q) × (p ≡ restored q)
restored_at [] j p there = absurd (none_some p there)
restored_at (q ∷ qs) zero p there = (q, refl, sym (same_some (restored q) p there))
restored_at (q ∷ qs) (suc j) p there = restored_at qs j p there

live_at : (qs : List QueueState) (j : ℕ) (q : QueueState) → slice_get qs j ≡ Some q
    → slice_get (map live_of qs) j ≡ Some (live_of q)
live_at [] j q there = absurd (none_some q there)
live_at (p ∷ qs) zero q there = ap (λ (x : QueueState). Some (live_of x)) (same_some p q there)
live_at (p ∷ qs) (suc j) q there = live_at qs j q there

same_length : (qs : List QueueState) → length (moved_of qs) ≡ length qs
same_length [] = refl
same_length (q ∷ qs) = ap suc (same_length qs)

-- ---- the run's events of a move, and what they lead to

record Moved (s : RunState) (qs : List QueueState) (m : Memory) : Type 0 where
  pub after : RunState
  pub run : LiveRun any_files s (moving s.queues (moved_of qs) m) after
  pub places : after.places ≡ m
  pub limit : after.limit ≡ s.limit
  pub page : after.page_size ≡ s.page_size
  pub queues : AreQueues after (map restored qs)
  pub chains : after.chains ≡ []

-- all queues of a run
are_all : (vs : List LiveQueue) (qs : List QueueState)
    → ((j : ℕ) (q : QueueState) → slice_get qs j ≡ Some q → slice_get vs j ≡ Some (live_of q))
    → length vs ≡ length qs → vs ≡ map live_of qs
are_all [] [] are same = refl
are_all (v ∷ vs) (q ∷ qs) are same =
    ap (λ (x : LiveQueue). x ∷ vs) (same_some v (live_of q) (are zero q refl))
    ∙ ap (λ (l : List LiveQueue). live_of q ∷ l) (are_all vs qs (λ j p there. are (suc j) p there) (omega (arith, same)))
are_all _ _ are same = absurd (omega (arith, same))

moves_all : (s : RunState) (qs : List QueueState) (m : Memory) → AreQueues s qs → s.chains ≡ [] → MayMove qs
    → (length s.queues == length (moved_of qs)) ≡ true → Moved s qs m
moves_all s qs m are none may is =
    let same : length s.queues ≡ length qs = eqb-true (length s.queues) (length (moved_of qs)) is ∙ same_length qs in
    let after : RunState = record s { places = m; queues = moved_of qs } in
    let moves : MovesDeviceSo s m (moved_of qs) after = record {
      none_in_flight = none;
      same = same_queues qs
          ∙ sym (ap (λ (l : List LiveQueue). map (λ (v : LiveQueue). v.queue) l) (are_all s.queues qs are same));
      positions_agree = none_in_flight qs may;
      few = few_in_flight qs may;
      state = refl;
    } in
    record {
      after = after;
      run = subst (λ (es : List LiveEvent). LiveRun any_files s es after)
          (sym (ap (λ (b : Bool). if b then MovesDevice m (moved_of qs) ∷ [] else
          resetting 0 (moved_of qs) ++ Remaps m ∷ []) is)) (after, moves, refl);
      places = refl;
      limit = refl;
      page = refl;
      queues = λ j p there. live_at (map restored qs) j p there;
      chains = none;
    }

-- queues are reset one behind another, from queue i on
record ResetAll (s : RunState) (i : ℕ) (qs : List QueueState) : Type 0 where
  pub after : RunState
  pub run : LiveRun any_files s (resetting i (moved_of qs)) after
  pub places : after.places ≡ s.places
  pub limit : after.limit ≡ s.limit
  pub page : after.page_size ≡ s.page_size
  pub earlier : (j : ℕ) → j < i → slice_get after.queues j ≡ slice_get s.queues j
  pub queues : (j : ℕ) (q : QueueState) → slice_get qs j ≡ Some q →
      slice_get after.queues (i + j) ≡ Some (live_of (restored q))
  pub chains : after.chains ≡ []

resets_all : (s : RunState) (i : ℕ) (qs : List QueueState)
    → ((j : ℕ) (q : QueueState) → slice_get qs j ≡ Some q → slice_get s.queues (i + j) ≡ Some (live_of q))
    → s.chains ≡ [] → MayMove qs → ResetAll s i qs
resets_all s i [] are none may = record {
  after = s;
  run = refl;
  places = refl;
  limit = refl;
  page = refl;
  earlier = λ j less. refl;
  queues = λ j q there. absurd (none_some q there);
  chains = none;
}
resets_all s i (q ∷ qs) are none may =
    let v : LiveQueue = live_of (restored q) in
    let mid : RunState = after_reset s i v in
    let first : slice_get s.queues i ≡ Some (live_of q) =
    subst (λ (n : ℕ). slice_get s.queues n ≡ Some (live_of q)) (no_more i) (are zero q refl) in
    let resets : ResetsQueueSo s i v mid = record { old = live_of q; there = first; positions_agree = may.0; few = may.1; state = refl } in
    let rest = resets_all mid (suc i) qs
    (λ j p there.
    there_other s.queues i (suc i + j) (λ _. v) (λ same. before i j same)
    ∙ subst (λ (n : ℕ). slice_get s.queues n ≡ Some (live_of p)) (one_on i j) (are (suc j) p there))
    (ap (λ (l : List InFlightChain). filter (λ (c : InFlightChain). not (c.queue == i)) l) none) may.2 in
    record {
      after = rest.after;
      run = (mid, resets, rest.run);
      places = rest.places;
      limit = rest.limit;
      page = rest.page;
      earlier = λ j less.
          rest.earlier j (omega (arith, less)) ∙ there_other s.queues i j (λ _. v) (λ same. omega (arith, same, less));
      queues = λ j p there. at_place rest j p there;
      chains = rest.chains;
    }
  where
    no_more : (i : ℕ) → i + 0 ≡ i
    no_more i = omega arith

    one_on : (i j : ℕ) → i + suc j ≡ suc i + j
    one_on i j = omega arith

    before : (i j : ℕ) → i ≡ suc i + j → ⊥
    before i j same = omega (arith, same)

    at_place : (rest : ResetAll (after_reset s i (live_of (restored q))) (suc i) qs) (j : ℕ) (p : QueueState)
        → slice_get (q ∷ qs) j ≡ Some p → slice_get rest.after.queues (i + j) ≡ Some (live_of (restored p))
    at_place rest zero p there =
        let v : LiveQueue = live_of (restored q) in
        let first : slice_get s.queues i ≡ Some (live_of q) =
        subst (λ (n : ℕ). slice_get s.queues n ≡ Some (live_of q)) (no_more i) (are zero q refl) in
        subst (λ (n : ℕ). slice_get rest.after.queues n ≡ Some (live_of (restored p))) (sym (no_more i))
        (rest.earlier i (omega arith) ∙ there_same s.queues i i (λ _. v) (live_of q) refl first
        ∙ ap (λ (x : QueueState). Some (live_of (restored x))) (same_some q p there))
    at_place rest (suc j) p there =
        subst (λ (n : ℕ). slice_get rest.after.queues n ≡ Some (live_of (restored p))) (sym (one_on i j))
        (rest.queues j p there)

from_zero : (j : ℕ) → j ≡ 0 + j
from_zero j = omega arith

-- in a run of more queues
resets_and_remaps : (s : RunState) (qs : List QueueState) (m : Memory) → AreQueues s qs → s.chains ≡ [] → MayMove qs
    → (length s.queues == length (moved_of qs)) ≡ false → Moved s qs m
resets_and_remaps s qs m are none may isnt_all =
    let r = resets_all s 0 qs
    (λ j p there. subst (λ (n : ℕ). slice_get s.queues n ≡ Some (live_of p)) (from_zero j) (are j p there)) none may in
    let after : RunState = record (r.after) { places = m } in
    let remaps : RemapsSo r.after m after =
    record { keeps = subst (λ (cs : List InFlightChain). AllByRecursion (KeepsQueue r.after m) cs) (sym r.chains) tt; state = refl } in
    record {
      after = after;
      run = subst (λ (es : List LiveEvent). LiveRun any_files s es after)
          (sym (ap (λ (b : Bool). if b then MovesDevice m (moved_of qs) ∷ [] else
          resetting 0 (moved_of qs) ++ Remaps m ∷ []) isnt_all))
          (joined any_files s r.after after (resetting 0 (moved_of qs)) (Remaps m ∷ []) r.run (after, remaps, refl));
      places = refl;
      limit = r.limit;
      page = r.page;
      queues = λ j p there.
          let was = restored_at qs j p there in
          subst (λ (n : ℕ). slice_get r.after.queues n ≡ Some (live_of p)) (sym (from_zero j))
          (r.queues j was.0 was.1 ∙ ap (λ (x : QueueState). Some (live_of x)) (sym was.2));
      chains = r.chains;
    }

moves_by : (s : RunState) (qs : List QueueState) (m : Memory) (b : Bool) → (length s.queues == length (moved_of qs)) ≡ b
    → AreQueues s qs → s.chains ≡ [] → MayMove qs → Moved s qs m
moves_by s qs m true is are none may = moves_all s qs m are none may is
moves_by s qs m false is are none may = resets_and_remaps s qs m are none may is

same_error : (ws : List ChainHandle) (qs : List QueueState) (regions : List Region) → have_valid_maximum qs ≡ true
    → move_error ws qs regions ≡ remap_error ws qs regions
same_error ws qs regions valid =
    ap (λ (b : Bool). if b then remap_error ws qs regions else Some error.BadArgument) valid

moved : (ws ws' : List ChainHandle) (qs : List QueueState) (alloc : Global) (regions : Bor (List Region))
    → HaveNone qs → have_valid_maximum qs ≡ true → remap_error ws qs regions.now ≡ None → TakeMemory regions.now ws ws'
    → (on : List ℕ) (page_size k : ℕ)
    → Drives on page_size ws ws' qs (map restored qs) (call_of k (does.Move alloc regions) (gives.Moved (Ok tt)) ∷ [])
moved ws ws' qs alloc regions idle valid clear takes on page_size k =
    one_of_queue on page_size k ws ws' qs (map restored qs) (does.Move alloc regions) (gives.Moved (Ok tt))
    (λ s os pops pushes all.
    let none = is_empty s on page_size qs ws os pops pushes all idle in
    let r = moves_by s qs m (length s.queues == length (moved_of qs)) refl all.queues none.chains
    (may_move qs idle valid) in (
      moving s.queues (moved_of qs) m,
      r.after,
      [],
      pops,
      (λ _. None),
      r.run,
      record {
        all = record { chains = r.chains; held = tt; once = tt };
        queues = r.queues;
        page = r.page ∙ all.page;
        small = subst (λ (n : ℕ). n ≤ 2 ^ 31) (sym r.limit) all.small;
        mine = λ j w c there is. absurd is;
        outs = λ j w there out. absurd (not_free (is_out w.state) out
            (ap is_out (is_free regions.now ws ws' j w takes there)));
        fits = λ j w i p there number at.
            let was = restored_at qs i p at in
            subst (λ (n : ℕ). FitsRun r.after.places n p (pops j) w) (sym r.limit)
            (subst (λ (x : Memory). FitsRun x s.limit p (pops j) w) (sym r.places)
            (fits_new s on page_size qs ws ws' os pops pushes regions.now j w i was.0 p all takes there number was.1));
        left = λ c is. absurd is;
        still = λ i q at pushing. refl;
        counts = λ i q at few small. zero-le;
      },
      (refl, same_error ws qs regions.now valid ∙ clear, takes, refl, none.owned, refl),
    ))
  where
    m : Memory
    m = places_in (untranslated regions.now)

not_moved : (ws ws' : List ChainHandle) (qs qs' : List QueueState) (alloc : Global) (regions : Bor (List Region))
    (e : ChainError)
    → ws' ≡ ws → qs' ≡ qs → IsErrorOf (move_error ws qs regions.now) (length regions.now) e
    → (on : List ℕ) (page_size k : ℕ)
    → Drives on page_size ws ws' qs qs' (call_of k (does.Move alloc regions) (gives.Moved (Err e)) ∷ [])
not_moved ws ws' qs qs' alloc regions e same still why on page_size k =
    subst (λ (l : List ChainHandle). Drives on page_size ws l qs qs'
    (call_of k (does.Move alloc regions) (gives.Moved (Err e)) ∷ [])) (sym same)
    (subst (λ (r : List QueueState). Drives on page_size ws ws qs r
    (call_of k (does.Move alloc regions) (gives.Moved (Err e)) ∷ [])) (sym still)
    (none_of_queue on page_size k ws qs (does.Move alloc regions) (gives.Moved (Err e))
    (λ s os pops pushes. (refl, refl, why))))

pub move_result : (ws ws' : List ChainHandle) (qs qs' : List QueueState) (alloc : Global) (regions : Bor (List Region))
    (result : Result (Unit {0}) ChainError)
    → OnOk result (TakeMemory regions.now ws ws')
    → OnOk result (HaveNone qs)
    → OnOk result (remap_error ws qs regions.now ≡ None)
    → OnOk result (qs' ≡ map restored qs)
    → IfErr result (IsErrorOf (remap_error ws qs regions.now) (length regions.now))
    → OnErr result ((ws' ≡ ws) × (qs' ≡ qs))
    → have_valid_maximum qs ≡ true
    → (on : List ℕ) (page_size k : ℕ)
    → Drives on page_size ws ws' qs qs' (call_of k (does.Move alloc regions) (gives.Moved result) ∷ [])
move_result ws ws' qs qs' alloc regions (Ok done) takes none clear is err same valid on page_size k =
    subst (λ (r : List QueueState). Drives on page_size ws ws' qs r
    (call_of k (does.Move alloc regions) (gives.Moved (Ok tt)) ∷ [])) (sym is)
    (moved ws ws' qs alloc regions none valid clear takes on page_size k)
move_result ws ws' qs qs' alloc regions (Err e) takes none clear is err same valid on page_size k =
    not_moved ws ws' qs qs' alloc regions e same.0 same.1
    (subst (λ (o : Option ChainError). IsErrorOf o (length regions.now) e)
    (sym (same_error ws qs regions.now valid)) err) on page_size k

-- too many chains may be in flight, or none
pub no_maximum : (ws ws' : List ChainHandle) (qs qs' : List QueueState) (alloc : Global) (regions : Bor (List Region))
    → ws' ≡ ws → qs' ≡ qs → have_valid_maximum qs ≡ false
    → (on : List ℕ) (page_size k : ℕ)
    → Drives on page_size ws ws' qs qs' (call_of k (does.Move alloc regions) (gives.Moved (Err error.BadArgument)) ∷ [])
no_maximum ws ws' qs qs' alloc regions same still bad on page_size k =
    not_moved ws ws' qs qs' alloc regions error.BadArgument same still
    (inl (ap (λ (b : Bool). if b then remap_error ws qs regions.now else Some error.BadArgument) bad)) on page_size k

-- a device of one handle alone doesn't move
pub no_move_of_one : (old new : ChainHandle) (q : QueueState) → new ≡ old
    → (page_size : ℕ) (alloc : Global) (regions : Bor (List Region))
    → DrivesOne page_size old new q q (does.Move alloc regions) gives.NotOfOne
no_move_of_one old new q same page_size alloc regions =
    refuses page_size old new q (does.Move alloc regions) gives.NotOfOne (same_held old new same)
    (λ i k d d' u pop. (refl, (same, refl, pop)))
