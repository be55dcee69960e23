-- Calls of a queue drive the run: a reset, after which none of its chains is in flight any more, also none whose
-- handle was freed, and a store before a sleep.
use Rattle.std.proofs.Common.{arith, inl, inr, ◌≡◌, ◌+◌, ◌≤◌, ◌<◌, ℕ, zero, suc, Bool, true, false, List, [], ◌∷◌, Option, Some, None}
use Rattle.std.proofs.Common.{append-nil, eq-eqb, eqb-true, length, refl, subst, sym, ap, ◌∙◌, ◌==◌, map, not, slice_get, zero-le}
use Rattle.std.specs.Prelude.{filter, if◌then◌else◌, nat_lt, option_map, slice_set}
use Rattle.std.specs.List.{AllByRecursion}
use Rattle.std.proofs.lemmas.Bool.{ltb-false, ltb-true}
use Rattle.fs_queue.specs.declared.layout.QueueLayout.{QueueLayout}
use Rattle.live_machine.specs.Several.{in_flight}
use Rattle.live_machine.specs.Live.{InFlightChain, LiveRun, ResetsQueue, StoresNotification, after_reset}
use Rattle.live_machine.proofs.Queues.{none_some, kept_not, same_some, there_other}
use Rattle.vm_memory.specs.Memory.{reach}
use Rattle.vm_iotlb.specs.declared.permissions.Permissions.TheVariants.{Write}
use Rattle.fs_chain.specs.Events.{notification_store, store_of}
use Rattle.fs_chain.specs.Holds.{IsRunQueue, RunState, Pop, any_files, live_of}
use Rattle.fs_chain.specs.HoldsAround.{NotificationIs, ResetsInRun, StoresNotificationInRun}
use Rattle.fs_chain.specs.declared.notifications.NotificationStore.{NotificationStore}
use Rattle.fs_chain.specs.Orders.{is_out}
use Rattle.fs_chain.specs.Queues.{reset_to}
use Rattle.fs_chain.specs.Together.{EachHasOne, HasNoneLeft, IsHeldBy, IsNot, Owned}
use Rattle.fs_chain.specs.declared.chain_handle.ChainHandle.{ChainHandle}
use Rattle.fs_chain.specs.declared.queue.QueueState.{QueueState}
use Rattle.fs_driven.specs.declared.commands.DriverCall.{DriverCall}
use Rattle.fs_driven.specs.declared.commands.DriverCall.TheVariants as does
use Rattle.fs_driven.specs.declared.commands.Results.{Results}
use Rattle.fs_driven.specs.declared.commands.Results.TheVariants as gives
use Rattle.fs_driven.specs.Drivers.{PushUnderWay, Driver, Driven, FitsRun, HasInFlight, In, CanBePushed, HasRun, driver, lost, number_of}
use Rattle.fs_driven.specs.Drivers.{own}
use Rattle.fs_driven.specs.Drivers.{with_push, with_queue}
use Rattle.fs_driven.specs.Events.{Drives, DrivesOne, HaveNoChain, MayReset, EventsOfAll, EventsOfQueue, call_of, of_others, storing}
use Rattle.fs_driven.proofs.Counts.{number_same}
use Rattle.fs_driven.proofs.Handles.{CallsSeen, each_queue, fits_queue, not_free}
use Rattle.fs_driven.proofs.Calls.{refuses, same_held}
use Rattle.fs_driven.proofs.Lists.{nowhere, set_changed, single}
use Rattle.fs_driven.proofs.QueuePlaces.{push_apart, push_here}

-- ---- a call of a queue, or of all

-- it is a run, if it leads to its events
pub one_of_queue : (on : List ℕ) (page_size k : ℕ) (ws ws' : List ChainHandle) (qs qs' : List QueueState)
    (command : DriverCall) (returned : Results)
    → ((s : RunState) (os : List Owned) (pops : ℕ → Pop) (pushes : ℕ → Option PushUnderWay)
    → Driven s on page_size qs ws os pops pushes
    → HasRun s on page_size qs' ws'
    (λ es d. EventsOfQueue on (driver s ws qs os pops pushes) d command returned es))
    → Drives on page_size ws ws' qs qs' (call_of k command returned ∷ [])
unfolding Drives
one_of_queue on page_size k ws ws' qs qs' command returned leads zs calls s os pops pushes all =
    let z = single zs (call_of k command returned) calls in
    let a = leads s os pops pushes all in
    let d : Driver = driver s ws qs os pops pushes in
    let end : Driver = driver a.1 ws' qs' a.2 a.3 a.4 in (
      a.0,
      a.1,
      a.2,
      a.3,
      a.4,
      a.5,
      a.6,
      subst (λ (l : List CallsSeen). EventsOfAll on page_size d l a.0 end) (sym z.1)
          (a.0, [], end, sym (append-nil a.0), (a.5, a.6), inr (inr a.7), (refl, refl)),
    )

-- a call that changes nothing
pub none_of_queue : (on : List ℕ) (page_size k : ℕ) (ws : List ChainHandle) (qs : List QueueState)
    (command : DriverCall) (returned : Results)
    → ((s : RunState) (os : List Owned) (pops : ℕ → Pop) (pushes : ℕ → Option PushUnderWay)
    → EventsOfQueue on (driver s ws qs os pops pushes) (driver s ws qs os pops pushes) command returned [])
    → Drives on page_size ws ws qs qs (call_of k command returned ∷ [])
none_of_queue on page_size k ws qs command returned reports =
    one_of_queue on page_size k ws ws qs qs command returned
    (λ s os pops pushes all. ([], s, os, pops, pushes, refl, all, reports s os pops pushes))

-- ---- handles without a chain

-- none of the first n handles that are of queue i has a chain in flight
abbrev pub NoneSoFar : (on : List ℕ) → (i : ℕ) → List ChainHandle → (n : ℕ) → Type 0
NoneSoFar on i ws n =
    (k : ℕ) (w : ChainHandle) → k < n → slice_get ws k ≡ Some w → slice_get on k ≡ Some i → is_out w.state ≡ false

pub none_more : (on : List ℕ) (i : ℕ) (ws : List ChainHandle) (n : ℕ) (w : ChainHandle) (of : ℕ) → NoneSoFar on i ws n
    → slice_get ws n ≡ Some w → slice_get on n ≡ Some of → (of ≡ i → is_out w.state ≡ false) → NoneSoFar on i ws (n + 1)
none_more on i ws n w of so_far there number free k v less at of_queue = by_test (nat_lt k n) refl
  where
    by_test : (b : Bool) → nat_lt k n ≡ b → is_out v.state ≡ false
    by_test true is = so_far k v (ltb-true k n is) at of_queue
    by_test false is =
        let past : n ≤ k = ltb-false k n is in
        let same : k ≡ n = omega (arith, past, less) in
        let one : w ≡ v = same_some w v (sym there ∙ ap (λ (m : ℕ). slice_get ws m) (sym same) ∙ at) in
        let its : of ≡ i = same_some of i (sym number ∙ ap (λ (m : ℕ). slice_get on m) (sym same) ∙ of_queue) in
        subst (λ (x : ChainHandle). is_out x.state ≡ false) one (free its)

within : {A : Type 0} (xs : List A) (k : ℕ) (x : A) → slice_get xs k ≡ Some x → k < length xs
within {A} xs k x there = by_test (nat_lt k (length xs)) refl
  where
    by_test : (b : Bool) → nat_lt k (length xs) ≡ b → k < length xs
    by_test true is = ltb-true k (length xs) is
    by_test false is = absurd (none_some x (sym (nowhere xs k (ltb-false k (length xs) is)) ∙ there))

pub none_of_handles : (on : List ℕ) (i : ℕ) (ws : List ChainHandle) (n : ℕ) → NoneSoFar on i ws n → length ws ≤ n
    → HaveNoChain on i ws
none_of_handles on i ws n so_far past k w there number =
    let less = within ws k w there in so_far k w (omega (arith, less, past)) there number

pub none_of_numbers : (on : List ℕ) (i : ℕ) (ws : List ChainHandle) (n : ℕ) → NoneSoFar on i ws n → length on ≤ n
    → HaveNoChain on i ws
none_of_numbers on i ws n so_far past k w there number =
    let less = within on k i number in so_far k w (omega (arith, less, past)) there number

-- ---- the chains of other queues

-- by whether the first one is of queue i
others_by : (P : List Owned → Type 0) (i : ℕ) (o : Owned) (os : List Owned)
    → ((o.chain.queue == i) ≡ true → P (of_others i os))
    → ((o.chain.queue == i) ≡ false → P (o ∷ of_others i os))
    → P (of_others i (o ∷ os))
others_by P i o os gone stays = by_test (o.chain.queue == i) refl
  where
    are : (b : Bool) → (o.chain.queue == i) ≡ b →
        (if not b then o ∷ of_others i os else of_others i os) ≡ of_others i (o ∷ os)
    are b is = sym (ap (λ (t : Bool). if not t then o ∷ of_others i os else of_others i os) is)

    by_test : (b : Bool) → (o.chain.queue == i) ≡ b → P (of_others i (o ∷ os))
    by_test true is = subst P (are true is) (gone is)
    by_test false is = subst P (are false is) (stays is)

all_others : (P : Owned → Type 0) (i : ℕ) (os : List Owned) → AllByRecursion P os → AllByRecursion P (of_others i os)
all_others P i [] all = tt
all_others P i (o ∷ os) all =
    others_by (λ (l : List Owned). AllByRecursion P l) i o os (λ is. all_others P i os all.1)
    (λ is. (all.0, all_others P i os all.1))

chains_of_others : (i : ℕ) (os : List Owned) →
    filter (λ (c : InFlightChain). not (c.queue == i)) (map (λ (o : Owned). o.chain) os)
    ≡ map (λ (o : Owned). o.chain) (of_others i os)
chains_of_others i [] = refl
chains_of_others i (o ∷ os) =
    let f : InFlightChain → Bool = λ c. not (c.queue == i) in
    let cs : List InFlightChain = map (λ (x : Owned). x.chain) os in
    let more = chains_of_others i os in
    others_by (λ (l : List Owned). filter f (o.chain ∷ cs) ≡ map (λ (x : Owned). x.chain) l) i o os
    (λ is. kept_not f o.chain cs false (ap not is) ∙ more)
    (λ is. kept_not f o.chain cs true (ap not is) ∙ ap (λ (l : List InFlightChain). o.chain ∷ l) more)

no_more : (h : Option ℕ) (i : ℕ) (os : List Owned) → HasNoneLeft h os → HasNoneLeft h (of_others i os)
no_more None i os none = tt
no_more (Some k) i os none = all_others (λ (o : Owned). IsNot k o.handle) i os none

once_others : (i : ℕ) (os : List Owned) → EachHasOne os → EachHasOne (of_others i os)
once_others i [] once = tt
once_others i (o ∷ os) once =
    others_by (λ (l : List Owned). EachHasOne l) i o os (λ is. once_others i os once.1)
    (λ is. (no_more o.handle i os once.0, once_others i os once.1))

-- each was one of the chains, and is of another queue
was_in : (i : ℕ) (x : Owned) (os : List Owned) → In x (of_others i os) → In x os × (x.chain.queue ≡ i → ⊥)
was_in i x [] = λ m. absurd m
was_in i x (o ∷ os) =
    others_by (λ (l : List Owned). In x l → In x (o ∷ os) × (x.chain.queue ≡ i → ⊥)) i o os
    (λ is m. let r = was_in i x os m in (inr r.0, r.1)) (λ is m. by_place is (λ n. was_in i x os n) m)
  where
    by_place : (o.chain.queue == i) ≡ false → (In x (of_others i os) → In x os × (x.chain.queue ≡ i → ⊥)) →
        In x (o ∷ of_others i os) → In x (o ∷ os) × (x.chain.queue ≡ i → ⊥)
    by_place is rest (inl e) =
        (inl e, λ same. not_free (o.chain.queue == i) (eq-eqb o.chain.queue i (sym (ap (λ (y : Owned). y.chain.queue) e) ∙ same)) is)
    by_place is rest (inr m) = let r = rest m in (inr r.0, r.1)

still_in : (i : ℕ) (x : Owned) (os : List Owned) → In x os → (x.chain.queue ≡ i → ⊥) → In x (of_others i os)
still_in i x [] m apart = absurd m
still_in i x (o ∷ os) (inl e) apart =
    others_by (λ (l : List Owned). In x l) i o os
    (λ is. absurd (apart (ap (λ (y : Owned). y.chain.queue) e ∙ eqb-true o.chain.queue i is))) (λ is. inl e)
still_in i x (o ∷ os) (inr m) apart =
    others_by (λ (l : List Owned). In x l) i o os (λ is. still_in i x os m apart)
    (λ is. inr (still_in i x os m apart))

number_gone : (i : ℕ) (os : List Owned) → number_of i (of_others i os) ≡ 0
number_gone i [] = refl
number_gone i (o ∷ os) =
    let more = number_gone i os in
    others_by (λ (l : List Owned). number_of i l ≡ 0) i o os (λ is. more)
    (λ is. ap (λ (b : Bool). if b then suc (number_of i (of_others i os)) else number_of i (of_others i os)) is ∙ more)

number_still : (i j : ℕ) (os : List Owned) → (i ≡ j → ⊥) → number_of j (of_others i os) ≡ number_of j os
number_still i j [] apart = refl
number_still i j (o ∷ os) apart =
    let more = number_still i j os apart in
    others_by (λ (l : List Owned). number_of j l ≡ number_of j (o ∷ os)) i o os
    (λ is. more ∙ sym (number_same j [] os o (λ same. apart (sym (eqb-true o.chain.queue i is) ∙ same))))
    (λ is. ap (λ (n : ℕ). if o.chain.queue == j then suc n else n) more)

-- ---- a reset

resets_driven : (on : List ℕ) (ws : List ChainHandle) (i : ℕ) (q : QueueState) (layout : QueueLayout) (position page_size : ℕ)
    (qs : List QueueState) (s : RunState) (os : List Owned) (pops : ℕ → Pop) (pushes : ℕ → Option PushUnderWay)
    → MayReset on i ws q layout → slice_get qs i ≡ Some q
    → IsRunQueue (after_reset s i (live_of (reset_to q layout position))) i (reset_to q layout position)
    → Driven s on page_size qs ws os pops pushes
    → Driven (after_reset s i (live_of (reset_to q layout position))) on page_size
    (with_queue qs i (reset_to q layout position)) ws (of_others i os) pops (with_push pushes i None)
resets_driven on ws i q layout position page_size qs s os pops pushes may there is all =
    let r : QueueState = reset_to q layout position in
    let after : RunState = after_reset s i (live_of r) in
    record {
      all = record {
        chains = ap (λ (cs : List InFlightChain). filter (λ (c : InFlightChain). not (c.queue == i)) cs) all.all.chains
            ∙ chains_of_others i os;
        held = all_others (λ (o : Owned). IsHeldBy s.page_size ws o.handle o.chain) i os all.all.held;
        once = once_others i os all.all.once;
      };
      queues = each_queue qs i q r (λ (j : ℕ) (p : QueueState). IsRunQueue after j p) there is
          (λ j p apart at. there_other s.queues i j (λ _. live_of r) apart ∙ all.queues j p at);
      page = all.page;
      small = all.small;
      mine = λ k w c there_w m.
          let was = was_in i (own k c) os m in
          let mine = all.mine k w c there_w was.0 in
          let apart : i ≡ c.queue → ⊥ = λ same. was.1 (sym same) in (
            mine.0,
            mine.1,
            there_other qs i c.queue (λ _. r) apart ∙ mine.2,
            subst (λ (b : Option PushUnderWay). CanBePushed page_size k mine.1 b c w.state)
                (sym (push_apart pushes i c.queue None apart)) mine.3,
          );
      outs = λ k w there_w out.
          let o = all.outs k w there_w out in
          let number = (all.mine k w o.0 there_w o.1).0 in (
            o.0,
            still_in i (own k o.0) os o.1 (λ same. not_free (is_out w.state) out (may.0 k w there_w
                (number ∙ ap (λ (n : ℕ). Some n) same))),
          );
      fits = λ k w j p there_w number at.
          each_queue qs i q r
          (λ (n : ℕ) (x : QueueState). slice_get on k ≡ Some n → FitsRun s.places s.limit x (pops k) w) there
          (λ num. fits_queue s.places s.limit q r (pops k) w refl (all.fits k w i q there_w num there))
          (λ n x apart there_x num. all.fits k w n x there_w num there_x) j p at number;
      left = λ c m.
          let was = was_in i (lost c) os m in
          let left = all.left c was.0 in
          (left.0, there_other qs i c.queue (λ _. r) (λ same. was.1 (sym same)) ∙ left.1, left.2, left.3);
      still = each_queue qs i q r (λ (j : ℕ) (p : QueueState). p.pushing ≡ false → with_push pushes i None j ≡ None) there
          (λ pushing. push_here pushes i None)
          (λ j p apart at pushing. push_apart pushes i j None apart ∙ all.still j p at pushing);
      counts = each_queue qs i q r
          (λ (j : ℕ) (p : QueueState). HasInFlight (live_of p) (number_of j (of_others i os))) there
          (λ few small. subst (λ (n : ℕ). n ≤ in_flight (live_of r)) (sym (number_gone i os)) zero-le)
          (λ j p apart at. subst (λ (n : ℕ). HasInFlight (live_of p) n) (sym (number_still i j os apart))
          (all.counts j p at));
    }

pub reset_done : (on : List ℕ) (ws : List ChainHandle) (i : ℕ) (q q' : QueueState) (layout : QueueLayout) (position : ℕ)
    → MayReset on i ws q layout → q' ≡ reset_to q layout position → ResetsInRun q q'
    → (page_size k : ℕ) (qs : List QueueState) → slice_get qs i ≡ Some q
    → Drives on page_size ws ws qs (with_queue qs i q') (call_of k (does.Reset i layout position) (gives.Reset true) ∷ [])
unfolding ResetsInRun
reset_done on ws i q q' layout position may is resets page_size k qs there =
    let r : QueueState = reset_to q layout position in
    let resets_so : ResetsInRun q r = subst (λ (x : QueueState). ResetsInRun q x) is resets in
    subst (λ (x : QueueState). Drives on page_size ws ws qs (with_queue qs i x)
    (call_of k (does.Reset i layout position) (gives.Reset true) ∷ [])) (sym is)
    (one_of_queue on page_size k ws ws qs (with_queue qs i r) (does.Reset i layout position) (gives.Reset true)
    (λ s os pops pushes all.
    let e = resets_so s i r (all.queues i q there) may.1 may.2 in (
      ResetsQueue i (live_of r) ∷ [],
      after_reset s i (live_of r),
      of_others i os,
      pops,
      with_push pushes i None,
      (after_reset s i (live_of r), e.0, refl),
      resets_driven on ws i q layout position page_size qs s os pops pushes may there e.1 all,
      (q, there, (refl, may, refl, refl, refl, refl, refl)),
    )))

-- so it is in the list of the queues
pub reset_at : (on : List ℕ) (ws : List ChainHandle) (qs : List QueueState) (i : ℕ) (q q' : QueueState) (layout : QueueLayout)
    (position : ℕ) (done : Bool) → slice_get qs i ≡ Some q
    → ((page_size k : ℕ) (l : List QueueState) → slice_get l i ≡ Some q
    → Drives on page_size ws ws l (with_queue l i q') (call_of k (does.Reset i layout position) (gives.Reset done) ∷ []))
    → (page_size k : ℕ)
    → Drives on page_size ws ws qs (slice_set qs i q') (call_of k (does.Reset i layout position) (gives.Reset done) ∷ [])
reset_at on ws qs i q q' layout position done there drives page_size k =
    subst (λ (l : List QueueState). Drives on page_size ws ws qs l
    (call_of k (does.Reset i layout position) (gives.Reset done) ∷ [])) (sym (set_changed qs i q'))
    (drives page_size k qs there)

with_same : (qs : List QueueState) (i : ℕ) (q : QueueState) → slice_get qs i ≡ Some q → with_queue qs i q ≡ qs
with_same [] i q there = refl
with_same (p ∷ qs) zero q there = ap (λ (x : QueueState). x ∷ qs) (sym (same_some p q there))
with_same (p ∷ qs) (suc i) q there = ap (λ (l : List QueueState). p ∷ l) (with_same qs i q there)

pub reset_not_done : (on : List ℕ) (ws : List ChainHandle) (i : ℕ) (q : QueueState) (layout : QueueLayout) (position : ℕ)
    → (MayReset on i ws q layout → ⊥)
    → (page_size k : ℕ) (qs : List QueueState) → slice_get qs i ≡ Some q
    → Drives on page_size ws ws qs (with_queue qs i q) (call_of k (does.Reset i layout position) (gives.Reset false) ∷ [])
reset_not_done on ws i q layout position not page_size k qs there =
    subst (λ (l : List QueueState). Drives on page_size ws ws qs l
    (call_of k (does.Reset i layout position) (gives.Reset false) ∷ [])) (sym (with_same qs i q there))
    (none_of_queue on page_size k ws qs (does.Reset i layout position) (gives.Reset false)
    (λ s os pops pushes. (q, there, (refl, refl, not))))

-- there is no such queue
pub no_queue_to_reset : (on : List ℕ) (ws : List ChainHandle) (qs : List QueueState) (i : ℕ) (layout : QueueLayout)
    (position : ℕ) → length qs ≤ i
    → (page_size k : ℕ)
    → Drives on page_size ws ws qs qs (call_of k (does.Reset i layout position) gives.NoQueue ∷ [])
no_queue_to_reset on ws qs i layout position past page_size k =
    none_of_queue on page_size k ws qs (does.Reset i layout position) gives.NoQueue
    (λ s os pops pushes. (nowhere qs i past, refl, refl))

-- for one handle alone it isn't done
pub no_reset_of_one : (old new : ChainHandle) (q : QueueState) → new ≡ old
    → (page_size i : ℕ) (layout : QueueLayout) (position : ℕ)
    → DrivesOne page_size old new q q (does.Reset i layout position) gives.NotOfOne
no_reset_of_one old new q same page_size i layout position =
    refuses page_size old new q (does.Reset i layout position) gives.NotOfOne (same_held old new same)
    (λ n k d d' u pop. (refl, (same, refl, pop)))

-- ---- a store before a sleep

pub stored : (qs : List QueueState) (i : ℕ) (q : QueueState) (wanted : Bool) (store : Option NotificationStore)
    → slice_get qs i ≡ Some q
    → option_map store_of store ≡ notification_store q wanted → StoresNotificationInRun q wanted store
    → (on : List ℕ) (page_size k : ℕ) (ws : List ChainHandle)
    → Drives on page_size ws ws qs qs (call_of k (does.Notify i wanted) (gives.Store store) ∷ [])
unfolding StoresNotificationInRun
stored qs i q wanted store there is stores on page_size k ws =
    one_of_queue on page_size k ws ws qs qs (does.Notify i wanted) (gives.Store store)
    (λ s os pops pushes all. (
      storing i s.places store,
      s,
      os,
      pops,
      pushes,
      by_store s store (stores s i (all.queues i q there)),
      all,
      (q, there, is, refl, refl),
    ))
  where
    by_reach : (s : RunState) (st : NotificationStore) (b : Bool) → reach s.places Write st.address 2 ≡ b →
        NotificationIs s i q wanted (Some st) →
        LiveRun any_files s (if b then StoresNotification i (store_of st) ∷ [] else []) s
    by_reach s st true mapped is = (s, is.0 mapped, refl)
    by_reach s st false mapped is = refl

    by_store : (s : RunState) (st : Option NotificationStore) → NotificationIs s i q wanted st →
        LiveRun any_files s (storing i s.places st) s
    by_store s None is = refl
    by_store s (Some st) is = by_reach s st (reach s.places Write st.address 2) refl is

pub no_queue_to_notify : (qs : List QueueState) (i : ℕ) (wanted : Bool) → length qs ≤ i
    → (on : List ℕ) (page_size k : ℕ) (ws : List ChainHandle)
    → Drives on page_size ws ws qs qs (call_of k (does.Notify i wanted) gives.NoQueue ∷ [])
no_queue_to_notify qs i wanted past on page_size k ws =
    none_of_queue on page_size k ws qs (does.Notify i wanted) gives.NoQueue
    (λ s os pops pushes. (nowhere qs i past, refl, refl))

pub no_store_of_one : (old new : ChainHandle) (q : QueueState) → new ≡ old
    → (page_size i : ℕ) (wanted : Bool)
    → DrivesOne page_size old new q q (does.Notify i wanted) gives.NotOfOne
no_store_of_one old new q same page_size i wanted =
    refuses page_size old new q (does.Notify i wanted) gives.NotOfOne (same_held old new same)
    (λ n k d d' u pop. (refl, (same, refl, pop)))
