-- A driver of several handles: a call of one of them leaves the others theirs.
use Rattle.std.proofs.Common.{inl, inr, ◌≡◌, ◌⊎◌, ◌≤◌, ◌^◌, ℕ, Bool, true, false, List, [], ◌∷◌, ◌++◌, Option, Some, None, slice_get, refl}
use Rattle.std.proofs.Common.{if◌then◌else◌, length, subst, suc, sym, ap, ◌∙◌, eqb-true, ◌==◌, append-nil, append_assoc}
use Rattle.std.specs.List.{AllByRecursion}
use Rattle.vm_memory.specs.Memory.{Memory}
use Rattle.live_machine.specs.Live.{InFlightChain, Phase, LiveEvent, PoppedFaulty}
use Rattle.plain_machine.specs.Step.{Exchange}
use Rattle.fs_chain.specs.Queues.{SameEventIndex}
use Rattle.fs_queue.specs.Returning.{stores_after_reply}
use Rattle.live_machine.specs.Several.{returning}
use Rattle.live_machine.proofs.Moved.{joined}
use Rattle.live_machine.proofs.Queues.{apart_of, same_some, there_other, there_same}
use Rattle.server_phases.specs.declared.session.Session.{Session}
use Rattle.fs_chain.specs.Holds.{HoldsInFlight, IsHeldIn, IsRunQueue, RunState, Pop, any_files, live_of}
use Rattle.fs_chain.specs.Orders.{is_out}
use Rattle.fs_driven.specs.Drivers.{PushUnderWay, Driver, Driven, FitsRun, In, IsItsOwn, CanBePushed, IsUnderWay, MayPop, driver, lost, own}
use Rattle.fs_driven.specs.Drivers.{HasInFlight, number_of, with_pop, with_push, with_queue}
use Rattle.fs_driven.specs.Events.{Called, Drives, EventsOfAll, Unseen, seen_of}
use Rattle.fs_chain.specs.Together.{HasNone, IsHeldBy, IsNot, Owned, Together, with_handle}
use Rattle.fs_chain.specs.declared.chain_handle.ChainHandle.{ChainHandle}
use Rattle.fs_chain.specs.declared.queue.QueueState.{QueueState}
use Rattle.fs_chain.specs.declared.state.ChainState as state
use Rattle.fs_chain.specs.declared.state.ChainState.TheVariants as at
use Rattle.fs_chain.proofs.Together.{all_still, amid, chains_of, finds_own, joins_others, keeps_others, leaves_others}
use Rattle.fs_driven.proofs.Among.{among, among_on, another, by_number, here, not_lost, others_apart, put, same_chain}
use Rattle.fs_driven.proofs.Among.{same_number, split, the_new}
use Rattle.fs_driven.proofs.Counts.{CountsLess, CountsMore, CountsSame, number_one, number_other, number_same}
use Rattle.fs_driven.proofs.QueuePlaces.{DrivenAt, QueuePlace, push_apart, push_here}

-- ---- a call

-- a call of handle k leaves the pushes of the others as they are
abbrev pub OthersReady : (page_size k : ℕ) → (q q' : QueueState) → (push push' : Option PushUnderWay) → Type 0
OthersReady page_size k q q' push push' =
    (j : ℕ) (c : InFlightChain) (st : state.ChainState) → (k ≡ j → ⊥) → CanBePushed page_size j q push c st →
    CanBePushed page_size j q' push' c st

-- the next push is stored at the same places
abbrev pub SamePlaces : (q q' : QueueState) → Type 0
SamePlaces q q' =
    (head len : ℕ) →
    stores_after_reply (returning (live_of q')) head len ≡ stores_after_reply (returning (live_of q)) head len

under_way_on : (k : ℕ) (q q' : QueueState) (c : InFlightChain) (x : Exchange) (push : Option PushUnderWay) →
    SamePlaces q q' → IsUnderWay k q c x push → IsUnderWay k q' c x push
under_way_on k q q' c x None same is = absurd is
under_way_on k q q' c x (Some b) same is =
    (is.0, (is.1.0 ∙ sym (same c.head (length x.reply)), is.1.1, is.1.2))

ready_on : (page_size k : ℕ) (q q' : QueueState) (push : Option PushUnderWay) (c : InFlightChain)
    (st : state.ChainState) → SamePlaces q q' → CanBePushed page_size k q push c st →
    CanBePushed page_size k q' push c st
ready_on page_size k q q' push c (at.Pushing out) same is =
    (is.0, is.1, under_way_on k q q' c is.0 push same is.2)
ready_on page_size k q q' push c (at.Replied out kept) same is = is
ready_on page_size k q q' push c (at.Listing out listing) same is = is
ready_on page_size k q q' push c _ same is = tt

pub others_same : (page_size k : ℕ) (q q' : QueueState) (push : Option PushUnderWay) → SamePlaces q q' →
    OthersReady page_size k q q' push push
others_same page_size k q q' push same j c st apart is = ready_on page_size j q q' push c st same is

-- the push under way is handle k's
abbrev pub IsOnlyOf : ℕ → Option PushUnderWay → Type 0
IsOnlyOf k None = Unit {0}
IsOnlyOf k (Some b) = b.handle ≡ k

pub others_none : (page_size k : ℕ) (q q' : QueueState) (push push' : Option PushUnderWay) → IsOnlyOf k push →
    OthersReady page_size k q q' push push'
others_none page_size k q q' push push' only j c st apart is = by_state st is
  where
    not_theirs : (x : Exchange) (p : Option PushUnderWay) → IsOnlyOf k p → IsUnderWay j q c x p → ⊥
    not_theirs x None only is = is
    not_theirs x (Some b) only is = apart (sym only ∙ is.0)

    by_state : (st : state.ChainState) → CanBePushed page_size j q push c st → CanBePushed page_size j q' push' c st
    by_state (at.Pushing out) is = absurd (not_theirs is.0 push only is.2)
    by_state (at.Replied out kept) is = is
    by_state (at.Listing out listing) is = is
    by_state _ is = tt

-- what each event here keeps of the run, and each call of its handle
pub record MovesRun (s after : RunState) (i : QueuePlace) (page_size k : ℕ) (q q' : QueueState) (p : Pop)
    (push push' : Option PushUnderWay) (new : ChainHandle) : Type 0 where
  pub page : after.page_size ≡ s.page_size
  pub limit : after.limit ≡ s.limit
  pub places : after.places ≡ s.places
  pub queue : IsRunQueue after i.number q'
  pub apart : (j : ℕ) → (i.number ≡ j → ⊥) → slice_get after.queues j ≡ slice_get s.queues j
  pub event : SameEventIndex q' q
  pub fits : FitsRun s.places s.limit q p new
  pub others : OthersReady page_size k q q' push push'
  pub still : q'.pushing ≡ false → push' ≡ None

may_pop : (limit : ℕ) (q q' : QueueState) (p : Pop) (w : ChainHandle) (st : state.ChainState) → SameEventIndex q' q
    → MayPop limit q p w st → MayPop limit q' p w st
may_pop limit q q' p w (at.Popping course pop_id walk) same may = (may.0, may.1 ∙ sym same)
may_pop limit q q' p w st same may = tt

-- a handle's pop may carry on at a queue with the same event index
pub fits_queue : (places : Memory) (limit : ℕ) (q q' : QueueState) (p : Pop) (w : ChainHandle) → SameEventIndex q' q
    → FitsRun places limit q p w → FitsRun places limit q' p w
fits_queue places limit q q' p w same fits = (fits.0, fits.1, may_pop limit q q' p w w.state same fits.2)

-- so it may in a run with the same mappings
fits_run : (s after : RunState) (q : QueueState) (p : Pop) (w : ChainHandle) → after.limit ≡ s.limit →
    after.places ≡ s.places → FitsRun s.places s.limit q p w → FitsRun after.places after.limit q p w
fits_run s after q p w limit places fits =
    subst (λ (n : ℕ). FitsRun after.places n q p w) (sym limit)
    (subst (λ (m : Memory). FitsRun m s.limit q p w) (sym places) fits)

-- what holds of queue i as it is now, and of each other one, holds of each
pub each_queue : (qs : List QueueState) (i : ℕ) (q q' : QueueState) (P : ℕ → QueueState → Type 0)
    → slice_get qs i ≡ Some q → P i q'
    → ((j : ℕ) (r : QueueState) → (i ≡ j → ⊥) → slice_get qs j ≡ Some r → P j r)
    → (j : ℕ) (r : QueueState) → slice_get (with_queue qs i q') j ≡ Some r → P j r
each_queue qs i q q' P there here others j r now = by_case (by_number i j)
  where
    by_case : (i ≡ j) ⊎ (i ≡ j → ⊥) → P j r
    by_case (inl same) =
        subst (λ (n : ℕ). P n r) same
        (subst (λ (x : QueueState). P i x) (the_new qs i j q q' r same there now) here)
    by_case (inr apart) = others j r apart (another qs i j q' r apart now)

-- a queue that was there is there
still_there : (qs : List QueueState) (i j : ℕ) (q q' r : QueueState) → slice_get qs i ≡ Some q →
    slice_get qs j ≡ Some r →
    (x : QueueState) × (slice_get (with_queue qs i q') j ≡ Some x)
still_there qs i j q q' r there is = by_case (by_number i j)
  where
    by_case : (i ≡ j) ⊎ (i ≡ j → ⊥) → (x : QueueState) × (slice_get (with_queue qs i q') j ≡ Some x)
    by_case (inl same) =
        (q', there_same qs i j (λ _. q') q same (ap (λ (n : ℕ). slice_get qs n) (sym same) ∙ there))
    by_case (inr apart) = (r, there_other qs i j (λ _. q') apart ∙ is)

abbrev pub MineIn :
    QueuePlace → (page_size k : ℕ) → QueueState → Option PushUnderWay → InFlightChain → ChainHandle → Type 0
MineIn i page_size k q push c w = (c.queue ≡ i.number) × CanBePushed page_size k q push c w.state

-- the chains after a call of handle k, which may have one of queue i then
record ChangesChains (i k : ℕ) (os os' : List Owned) (Mine : InFlightChain → Type 0) : Type 0 where
  pub from : (j : ℕ) (d : InFlightChain) → In (own j d) os' →
      ((k ≡ j) × Mine d) ⊎ ((k ≡ j → ⊥) × In (own j d) os)
  pub into : (j : ℕ) (d : InFlightChain) → (k ≡ j → ⊥) → In (own j d) os → In (own j d) os'
  pub lost : (d : InFlightChain) → In (lost d) os' → In (lost d) os
  pub numbers : (j : ℕ) → (i ≡ j → ⊥) → number_of j os' ≡ number_of j os

turns : (s after : RunState) (i : QueuePlace) (page_size : ℕ) (q q' : QueueState) (ws : List ChainHandle)
    (os os' : List Owned) (k : ℕ) (w new : ChainHandle) (p : Pop) (pops : ℕ → Pop) (push push' : Option PushUnderWay)
    → DrivenAt s i page_size k q ws os pops push → slice_get ws k ≡ Some w
    → MovesRun s after i page_size k q q' p push push' new
    → Together after (with_handle ws k new) os'
    → ChangesChains i.number k os os' (λ d. MineIn i page_size k q' push' d new)
    → (is_out new.state ≡ true → (c : InFlightChain) × In (own k c) os')
    → HasInFlight (live_of q') (number_of i.number os')
    → Driven after i.on page_size (with_queue i.queues i.number q') (with_handle ws k new) os' (with_pop pops k p)
    (with_push i.pushes i.number push')
turns s after i page_size q q' ws os os' k w new p pops push push' all there moves together change out counts =
    let was = all.whole in
    record {
      all = together;
      queues = each_queue i.queues i.number q q' (λ j r. IsRunQueue after j r) all.there moves.queue
          (λ j r apart is. moves.apart j apart ∙ was.queues j r is);
      page = moves.page ∙ was.page;
      small = subst (λ (n : ℕ). n ≤ 2 ^ 31) (sym moves.limit) was.small;
      mine = λ j v d now m. its_own j v d now (change.from j d m);
      outs = λ j v now is_out. its_out j v now is_out (by_number k j);
      fits = λ j v n r now on is. its_fit j v n now on r is;
      left = λ d m.
          let l = was.left d (change.lost d m) in
          let r = still_there i.queues i.number d.queue q q' l.0 all.there l.1 in (r.0, r.1, l.2, l.3);
      still = each_queue i.queues i.number q q'
          (λ j r. r.pushing ≡ false → with_push i.pushes i.number push' j ≡ None) all.there
          (λ none. push_here i.pushes i.number push' ∙ moves.still none)
          (λ j r apart is none. push_apart i.pushes i.number j push' apart ∙ was.still j r is none);
      counts = each_queue i.queues i.number q q' (λ j r. HasInFlight (live_of r) (number_of j os')) all.there counts
          (λ j r apart is. subst (λ (n : ℕ). HasInFlight (live_of r) n) (sym (change.numbers j apart))
          (was.counts j r is));
    }
  where
    ItsOwn : (j : ℕ) → InFlightChain → state.ChainState → Type 0
    ItsOwn j d st =
        IsItsOwn i.on page_size (with_queue i.queues i.number q') (with_push i.pushes i.number push') j d st

    here : (d : InFlightChain) (n : ℕ) → i.number ≡ n → CanBePushed page_size k q' push' d new.state →
        (slice_get i.on k ≡ Some n) × (r : QueueState)
        × (slice_get (with_queue i.queues i.number q') n ≡ Some r)
        × CanBePushed page_size k r (with_push i.pushes i.number push' n) d new.state
    here d n same ready = (
      all.number ∙ ap (λ (m : ℕ). Some m) same,
      q',
      there_same i.queues i.number n (λ _. q') q same
          (ap (λ (m : ℕ). slice_get i.queues m) (sym same) ∙ all.there),
      subst (λ (m : ℕ). CanBePushed page_size k q' (with_push i.pushes i.number push' m) d new.state) same
          (subst (λ (b : Option PushUnderWay). CanBePushed page_size k q' b d new.state)
          (sym (push_here i.pushes i.number push')) ready),
    )

    theirs : (j : ℕ) (v : ChainHandle) (d : InFlightChain) → (k ≡ j → ⊥) →
        IsItsOwn i.on page_size i.queues i.pushes j d v.state →
        (i.number ≡ d.queue) ⊎ (i.number ≡ d.queue → ⊥) → ItsOwn j d v.state
    theirs j v d apart its (inl same) =
        let r_is : its.1 ≡ q =
        same_some its.1 q (sym its.2 ∙ ap (λ (m : ℕ). slice_get i.queues m) (sym same) ∙ all.there) in
        let push_is : i.pushes d.queue ≡ push = ap i.pushes (sym same) ∙ all.under in
        let ready : CanBePushed page_size j q push d v.state =
        subst (λ (b : Option PushUnderWay). CanBePushed page_size j q b d v.state) push_is
        (subst (λ (r : QueueState). CanBePushed page_size j r (i.pushes d.queue) d v.state) r_is its.3) in (
          its.0,
          q',
          there_same i.queues i.number d.queue (λ _. q') q same
              (ap (λ (m : ℕ). slice_get i.queues m) (sym same) ∙ all.there),
          subst (λ (m : ℕ). CanBePushed page_size j q' (with_push i.pushes i.number push' m) d v.state) same
              (subst (λ (b : Option PushUnderWay). CanBePushed page_size j q' b d v.state)
              (sym (push_here i.pushes i.number push')) (moves.others j d v.state apart ready)),
        )
    theirs j v d apart its (inr other) = (
      its.0,
      its.1,
      there_other i.queues i.number d.queue (λ _. q') other ∙ its.2,
      subst (λ (b : Option PushUnderWay). CanBePushed page_size j its.1 b d v.state)
          (sym (push_apart i.pushes i.number d.queue push' other)) its.3,
    )

    its_own : (j : ℕ) (v : ChainHandle) (d : InFlightChain) → slice_get (with_handle ws k new) j ≡ Some v
        → ((k ≡ j) × MineIn i page_size k q' push' d new) ⊎ ((k ≡ j → ⊥) × In (own j d) os)
        → ItsOwn j d v.state
    its_own j v d now (inl mine) =
        subst (λ (n : ℕ). ItsOwn n d v.state) mine.0
        (subst (λ (x : ChainHandle). ItsOwn k d x.state) (the_new ws k j w new v mine.0 there now)
        (here d d.queue (sym mine.1.0) mine.1.1))
    its_own j v d now (inr other) =
        theirs j v d other.0 (all.whole.mine j v d (another ws k j new v other.0 now) other.1)
        (by_number i.number d.queue)

    its_out : (j : ℕ) (v : ChainHandle) → slice_get (with_handle ws k new) j ≡ Some v → is_out v.state ≡ true
        → (k ≡ j) ⊎ (k ≡ j → ⊥) → (e : InFlightChain) × In (own j e) os'
    its_out j v now is (inl same) =
        subst (λ (n : ℕ). (e : InFlightChain) × In (own n e) os') same
        (out (ap (λ (x : ChainHandle). is_out x.state) (the_new ws k j w new v same there now) ∙ is))
    its_out j v now is (inr apart) =
        let was = all.whole.outs j v (another ws k j new v apart now) is in
        (was.0, change.into j was.0 apart was.1)

    -- handle j may carry on at queue n
    Fit : (j : ℕ) (v : ChainHandle) → QueueState → Type 0
    Fit j v r = FitsRun after.places after.limit r (with_pop pops k p j) v

    its_fit : (j : ℕ) (v : ChainHandle) (n : ℕ) → slice_get (with_handle ws k new) j ≡ Some v →
        slice_get i.on j ≡ Some n → (r : QueueState) →
        slice_get (with_queue i.queues i.number q') n ≡ Some r → Fit j v r
    its_fit j v n now on r is = by_test (k == j) refl
      where
        by_test : (b : Bool) → (k == j) ≡ b → Fit j v r
        by_test true same =
            let pop : p ≡ with_pop pops k p j = sym (ap (λ (b : Bool). if b then p else pops j) same) in
            let k_is : k ≡ j = eqb-true k j same in
            let n_is : i.number ≡ n =
            same_some i.number n (sym all.number ∙ ap (λ (m : ℕ). slice_get i.on m) k_is ∙ on) in
            subst (λ (x : Pop). FitsRun after.places after.limit r x v) pop
            (fits_run s after r p v moves.limit moves.places
            (subst (λ (x : QueueState). FitsRun s.places s.limit x p v)
            (the_new i.queues i.number n q q' r n_is all.there is)
            (subst (λ (x : ChainHandle). FitsRun s.places s.limit q' p x)
            (the_new ws k j w new v k_is there now)
            (fits_queue s.places s.limit q q' p new moves.event moves.fits))))
        by_test false other =
            let pop : pops j ≡ with_pop pops k p j = sym (ap (λ (b : Bool). if b then p else pops j) other) in
            let before : slice_get ws j ≡ Some v = another ws k j new v (apart_of k j other) now in
            subst (λ (x : Pop). FitsRun after.places after.limit r x v) pop
            (fits_run s after r (pops j) v moves.limit moves.places
            (each_queue i.queues i.number q q'
            (λ m x. n ≡ m → FitsRun s.places s.limit x (pops j) v) all.there
            (λ same. fits_queue s.places s.limit q q' (pops j) v moves.event
            (all.whole.fits j v i.number q before (on ∙ ap (λ (m : ℕ). Some m) same) all.there))
            (λ m x apart at_m same.
            all.whole.fits j v m x before (on ∙ ap (λ (a : ℕ). Some a) same) at_m)
            n r is refl))

-- handle k has its chain in another phase
pub keeps : (s after : RunState) (i : QueuePlace) (page_size : ℕ) (q q' : QueueState) (ws : List ChainHandle)
    (ob oh : List Owned) (k : ℕ) (w new : ChainHandle) (c c' : InFlightChain) (p : Pop) (pops : ℕ → Pop)
    (push push' : Option PushUnderWay)
    → DrivenAt s i page_size k q ws (ob ++ own k c ∷ oh) pops push → slice_get ws k ≡ Some w →
    MovesRun s after i page_size k q q' p push push' new → CountsSame (live_of q) (live_of q')
    → after.chains ≡ chains_of ob ++ c' ∷ chains_of oh → HoldsInFlight s.page_size c' new →
    MineIn i page_size k q' push' c' new
    → Driven after i.on page_size (with_queue i.queues i.number q') (with_handle ws k new) (ob ++ own k c' ∷ oh)
    (with_pop pops k p) (with_push i.pushes i.number push')
keeps s after i page_size q q' ws ob oh k w new c c' p pops push push' all there moves counts chains holds mine =
    let none = amid k c ob oh all.all.once in
    let same : c.queue ≡ c'.queue = (all.mine w c there (here ob oh (own k c))).0 ∙ sym mine.0 in
    turns s after i page_size q q' ws (ob ++ own k c ∷ oh) (ob ++ own k c' ∷ oh) k w new p pops push push' all there
    moves (keeps_others s after ws ob oh k w new c c' all.all there moves.page chains holds)
    (record {
      from = λ j d m. its j d none (among ob oh (own k c') (own j d) m);
      into = λ j d apart m. others j d apart (among ob oh (own k c) (own j d) m);
      lost = λ d m. still_lost d (among ob oh (own k c') (lost d) m);
      numbers = λ j apart. sym (number_other j ob oh (own k c) (own k c') same);
    })
    (λ out. (c', here ob oh (own k c')))
    (counts (number_of i.number (ob ++ own k c' ∷ oh))
    (subst (λ (n : ℕ). HasInFlight (live_of q) n) (number_other i.number ob oh (own k c) (own k c') same)
    (all.whole.counts i.number q all.there)))
  where
    its : (j : ℕ) (d : InFlightChain) → HasNone k ob × HasNone k oh →
        (own j d ≡ own k c') ⊎ In (own j d) (ob ++ oh) →
        ((k ≡ j) × MineIn i page_size k q' push' d new) ⊎ ((k ≡ j → ⊥) × In (own j d) (ob ++ own k c ∷ oh))
    its j d none (inl e) =
        inl (
          sym (same_number j k d c' e),
          subst (λ (x : InFlightChain). MineIn i page_size k q' push' x new) (sym (same_chain j k d c' e)) mine,
        )
    its j d none (inr m) =
        inr (λ same. others_apart j k d c ob oh none m (sym same), put ob oh (own k c) (own j d) m)

    others : (j : ℕ) (d : InFlightChain) → (k ≡ j → ⊥) → (own j d ≡ own k c) ⊎ In (own j d) (ob ++ oh) →
        In (own j d) (ob ++ own k c' ∷ oh)
    others j d apart (inl e) = absurd (apart (sym (same_number j k d c e)))
    others j d apart (inr m) = put ob oh (own k c') (own j d) m

    still_lost : (d : InFlightChain) → (lost d ≡ own k c') ⊎ In (lost d) (ob ++ oh) →
        In (lost d) (ob ++ own k c ∷ oh)
    still_lost d (inl e) = absurd (not_lost k d c' e)
    still_lost d (inr m) = put ob oh (own k c) (lost d) m

pub not_free : (b : Bool) → b ≡ true → b ≡ false → ⊥
not_free b t f = cc

-- handle k has none anymore
pub leaves : (s after : RunState) (i : QueuePlace) (page_size : ℕ) (q q' : QueueState) (ws : List ChainHandle)
    (ob oh : List Owned) (k : ℕ) (w new : ChainHandle) (c : InFlightChain) (p : Pop) (pops : ℕ → Pop)
    (push push' : Option PushUnderWay)
    → DrivenAt s i page_size k q ws (ob ++ own k c ∷ oh) pops push → slice_get ws k ≡ Some w →
    MovesRun s after i page_size k q q' p push push' new → CountsLess (live_of q) (live_of q')
    → after.chains ≡ chains_of ob ++ chains_of oh → is_out new.state ≡ false
    → Driven after i.on page_size (with_queue i.queues i.number q') (with_handle ws k new) (ob ++ oh)
    (with_pop pops k p) (with_push i.pushes i.number push')
leaves s after i page_size q q' ws ob oh k w new c p pops push push' all there moves counts chains free =
    let none = amid k c ob oh all.all.once in
    let queue : c.queue ≡ i.number = (all.mine w c there (here ob oh (own k c))).0 in
    turns s after i page_size q q' ws (ob ++ own k c ∷ oh) (ob ++ oh) k w new p pops push push' all there
    moves (leaves_others s after ws ob oh k new c all.all moves.page chains)
    (record {
      from = λ j d m.
          inr (λ same. others_apart j k d c ob oh none m (sym same), put ob oh (own k c) (own j d) m);
      into = λ j d apart m. others j d apart (among ob oh (own k c) (own j d) m);
      lost = λ d m. put ob oh (own k c) (lost d) m;
      numbers = λ j apart. sym (number_same j ob oh (own k c) (λ is. apart (sym queue ∙ is)));
    })
    (λ out. absurd (not_free (is_out new.state) out free))
    (counts (number_of i.number (ob ++ oh))
    (subst (λ (n : ℕ). HasInFlight (live_of q) n) (number_one i.number ob oh (own k c) queue)
    (all.whole.counts i.number q all.there)))
  where
    others : (j : ℕ) (d : InFlightChain) → (k ≡ j → ⊥) → (own j d ≡ own k c) ⊎ In (own j d) (ob ++ oh) →
        In (own j d) (ob ++ oh)
    others j d apart (inl e) = absurd (apart (sym (same_number j k d c e)))
    others j d apart (inr m) = m

-- ---- calls one behind another

abbrev pub CallsSeen : Type 0
CallsSeen = Called × Unseen

pub none_some : {A : Type 0} (x : A) (xs : List A) → [] ≡ x ∷ xs → ⊥
none_some x xs e = cc

pub same_first : {A : Type 0} (x y : A) (xs ys : List A) → x ∷ xs ≡ y ∷ ys → x ≡ y
same_first x y xs ys e = cc

pub same_rest : {A : Type 0} (x y : A) (xs ys : List A) → x ∷ xs ≡ y ∷ ys → xs ≡ ys
same_rest x y xs ys e = cc

-- calls are those of both parts
record Parted (zs : List CallsSeen) (calls more : List Called) : Type 0 where
  pub front : List CallsSeen
  pub behind : List CallsSeen
  pub all : zs ≡ front ++ behind
  pub first : seen_of front ≡ calls
  pub later : seen_of behind ≡ more

parted : (zs : List CallsSeen) (calls more : List Called) → seen_of zs ≡ calls ++ more → Parted zs calls more
parted zs [] more is = record { front = []; behind = zs; all = refl; first = refl; later = is }
parted [] (c ∷ calls) more is = absurd (none_some c (calls ++ more) is)
parted (z ∷ zs) (c ∷ calls) more is =
    let one : z.0 ≡ c = same_first z.0 c (seen_of zs) (calls ++ more) is in
    let r = parted zs calls more (same_rest z.0 c (seen_of zs) (calls ++ more) is) in
    record {
      front = z ∷ r.front;
      behind = r.behind;
      all = ap (λ (l : List CallsSeen). z ∷ l) r.all;
      first = ap (λ (x : Called). x ∷ seen_of r.front) one ∙ ap (λ (l : List Called). c ∷ l) r.first;
      later = r.later;
    }

reports_both : (on : List ℕ) (page_size : ℕ) (d mid end : Driver) (xs ys : List CallsSeen) (es later : List LiveEvent)
    → EventsOfAll on page_size d xs es mid → EventsOfAll on page_size mid ys later end
    → EventsOfAll on page_size d (xs ++ ys) (es ++ later) end
reports_both on page_size d mid end [] ys es later first more =
    subst (λ (k : Driver). EventsOfAll on page_size k ys (es ++ later) end) first.1
    (subst (λ (l : List LiveEvent). EventsOfAll on page_size mid ys (l ++ later) end) (sym first.0) more)
reports_both on page_size d mid end (x ∷ xs) ys es later first more = (
  first.0,
  first.1 ++ later,
  first.2,
  ap (λ (l : List LiveEvent). l ++ later) first.3 ∙ append_assoc first.0 first.1 later,
  first.4,
  first.5,
  reports_both on page_size first.2 mid end xs ys first.1 later first.6 more,
)

pub carries_on : (on : List ℕ) (page_size : ℕ) (one two three : List ChainHandle) (q q' q'' : List QueueState)
    (calls more : List Called) → Drives on page_size one two q q' calls
    →
    Drives on page_size two three q' q'' more → Drives on page_size one three q q'' (calls ++ more)
unfolding Drives
carries_on on page_size one two three q q' q'' calls more first later zs is s os pops pushes all =
    let p = parted zs calls more is in
    let a = first p.front p.first s os pops pushes all in
    let b = later p.behind p.later a.1 a.2 a.3 a.4 a.6 in
    let d : Driver = driver s one q os pops pushes in
    let mid : Driver = driver a.1 two q' a.2 a.3 a.4 in
    let end : Driver = driver b.1 three q'' b.2 b.3 b.4 in (
      a.0 ++ b.0,
      b.1,
      b.2,
      b.3,
      b.4,
      joined any_files s a.1 b.1 a.0 b.0 a.5 b.5,
      b.6,
      subst (λ (l : List CallsSeen). EventsOfAll on page_size d l (a.0 ++ b.0) end) (sym p.all)
          (reports_both on page_size d mid end p.front p.behind a.0 b.0 a.7 b.7),
    )

-- ---- a handle without a chain

pub held_out : (page_size : ℕ) (c : InFlightChain) (p : Phase) (st : state.ChainState) (session : Session) →
    IsHeldIn page_size c p st session →
    is_out st ≡ true
held_out page_size c (PoppedFaulty why) at.Free session held = absurd held
held_out page_size c p (at.Popped out) session held = refl
held_out page_size c p (at.Decoded out w) session held = refl
held_out page_size c p (at.Listing out l) session held = refl
held_out page_size c p (at.Replied out kept) session held = refl
held_out page_size c p (at.Pushing out) session held = refl
held_out page_size c _ _ session held = absurd held

-- what a handle has is its chain of the run
pub record HasItsChain (s : RunState) (i : QueuePlace) (page_size : ℕ) (q : QueueState) (ws : List ChainHandle)
    (os : List Owned) (k : ℕ) (w : ChainHandle) (pops : ℕ → Pop) (push : Option PushUnderWay) : Type 0 where
  pub c : InFlightChain
  pub is_in : In (own k c) os
  pub mine : (c.queue ≡ i.number) × CanBePushed page_size k q push c w.state
  pub ob : List Owned
  pub oh : List Owned
  pub driven : DrivenAt s i page_size k q ws (ob ++ own k c ∷ oh) pops push
  pub chains : s.chains ≡ chains_of ob ++ c ∷ chains_of oh
  pub holds : HoldsInFlight s.page_size c w

pub has_own : (s : RunState) (i : QueuePlace) (page_size : ℕ) (q : QueueState) (ws : List ChainHandle)
    (os : List Owned) (k : ℕ) (w : ChainHandle) (pops : ℕ → Pop) (push : Option PushUnderWay)
    → DrivenAt s i page_size k q ws os pops push → slice_get ws k ≡ Some w → (c : InFlightChain) × In (own k c) os →
    HasItsChain s i page_size q ws os k w pops push
has_own s i page_size q ws os k w pops push all there (c, is) =
    let r = split os (own k c) is in
    let driven : DrivenAt s i page_size k q ws (r.0 ++ own k c ∷ r.1) pops push =
    subst (λ (l : List Owned). DrivenAt s i page_size k q ws l pops push) r.2 all in
    let finds = finds_own s ws r.0 r.1 k w c driven.all there in
    record {
      c = c;
      is_in = is;
      mine = all.mine w c there is;
      ob = r.0;
      oh = r.1;
      driven = driven;
      chains = finds.0;
      holds = finds.1;
    }

none_of : (k : ℕ) (os : List Owned) → ((c : InFlightChain) → In (own k c) os → ⊥) → HasNone k os
none_of k [] none = tt
none_of k (o ∷ os) none = (isnt k o os none o.handle refl, none_of k os (λ c m. none c (inr m)))
  where
    isnt : (k : ℕ) (o : Owned) (os : List Owned) → ((c : InFlightChain) → In (own k c) (o ∷ os) → ⊥) →
        (h : Option ℕ) → o.handle ≡ h →
        IsNot k h
    isnt k o os none None is = tt
    isnt k o os none (Some j) is =
        λ same. none o.chain
        (inl (ap (λ (h : Option ℕ). record { handle = h; chain = o.chain })
        (sym (ap (λ (n : ℕ). Some n) same) ∙ sym is)))

has_none : (s : RunState) (i : QueuePlace) (page_size : ℕ) (q : QueueState) (ws : List ChainHandle) (os : List Owned)
    (k : ℕ) (w : ChainHandle) (pops : ℕ → Pop) (push : Option PushUnderWay)
    → DrivenAt s i page_size k q ws os pops push → slice_get ws k ≡ Some w → is_out w.state ≡ false →
    (c : InFlightChain) →
    In (own k c) os → ⊥
has_none s i page_size q ws os k w pops push all there free c is =
    let has = has_own s i page_size q ws os k w pops push all there (c, is) in
    not_free (is_out w.state) (held_out s.page_size has.c has.c.phase w.state w.session has.holds) free

-- handle k has no chain, before and after
pub idles : (s after : RunState) (i : QueuePlace) (page_size : ℕ) (q q' : QueueState) (ws : List ChainHandle)
    (os : List Owned) (k : ℕ) (w new : ChainHandle) (p : Pop) (pops : ℕ → Pop) (push push' : Option PushUnderWay)
    → DrivenAt s i page_size k q ws os pops push → slice_get ws k ≡ Some w →
    MovesRun s after i page_size k q q' p push push' new → CountsSame (live_of q) (live_of q') →
    after.chains ≡ s.chains
    → is_out w.state ≡ false → is_out new.state ≡ false →
    Driven after i.on page_size (with_queue i.queues i.number q') (with_handle ws k new) os (with_pop pops k p)
    (with_push i.pushes i.number push')
idles s after i page_size q q' ws os k w new p pops push push' all there moves counts chains free still =
    let none = has_none s i page_size q ws os k w pops push all there free in
    let held = all_still s.page_size ws k new os (none_of k os none) all.all.held in
    turns s after i page_size q q' ws os os k w new p pops push push' all there moves
    (record {
      chains = chains ∙ all.all.chains;
      held = subst
          (λ (n : ℕ). AllByRecursion (λ (o : Owned). IsHeldBy n (with_handle ws k new) o.handle o.chain) os)
          (sym moves.page) held;
      once = all.all.once;
    })
    (record {
      from = λ j d m. inr (λ same. none d (subst (λ (n : ℕ). In (own n d) os) (sym same) m), m);
      into = λ j d apart m. m;
      lost = λ d m. m;
      numbers = λ j apart. refl;
    })
    (λ out. absurd (not_free (is_out new.state) out still))
    (counts (number_of i.number os) (all.whole.counts i.number q all.there))

-- handle k gets a chain
in_last : (os : List Owned) (x y : Owned) → In y (os ++ x ∷ []) → (y ≡ x) ⊎ In y os
in_last [] x y (inl e) = inl e
in_last [] x y (inr m) = absurd m
in_last (o ∷ os) x y (inl e) = inr (inl e)
in_last (o ∷ os) x y (inr m) = among_on o x y os (in_last os x y m)

in_front : (os : List Owned) (x y : Owned) → In y os → In y (os ++ x ∷ [])
in_front [] x y m = absurd m
in_front (o ∷ os) x y (inl e) = inl e
in_front (o ∷ os) x y (inr m) = inr (in_front os x y m)

pub joins : (s after : RunState) (i : QueuePlace) (page_size : ℕ) (q q' : QueueState) (ws : List ChainHandle)
    (os : List Owned) (k : ℕ) (w new : ChainHandle) (c : InFlightChain) (p : Pop) (pops : ℕ → Pop)
    (push push' : Option PushUnderWay)
    → DrivenAt s i page_size k q ws os pops push → slice_get ws k ≡ Some w →
    MovesRun s after i page_size k q q' p push push' new → CountsMore (live_of q) (live_of q') →
    after.chains ≡ s.chains ++ c ∷ []
    → is_out w.state ≡ false → HoldsInFlight s.page_size c new → MineIn i page_size k q' push' c new
    → Driven after i.on page_size (with_queue i.queues i.number q') (with_handle ws k new) (os ++ own k c ∷ [])
    (with_pop pops k p) (with_push i.pushes i.number push')
joins s after i page_size q q' ws os k w new c p pops push push' all there moves counts chains free holds mine =
    let none = has_none s i page_size q ws os k w pops push all there free in
    turns s after i page_size q q' ws os (os ++ own k c ∷ []) k w new p pops push push' all there moves
    (joins_others s after ws os k w new c all.all (none_of k os none) there moves.page chains holds)
    (record {
      from = λ j d m. its j d none (in_last os (own k c) (own j d) m);
      into = λ j d apart m. in_front os (own k c) (own j d) m;
      lost = λ d m. still_lost d (in_last os (own k c) (lost d) m);
      numbers = λ j apart.
          number_same j os [] (own k c) (λ is. apart (sym mine.0 ∙ is))
          ∙ ap (number_of j) (append-nil os);
    })
    (λ out. (c, here os [] (own k c)))
    (subst (λ (n : ℕ). HasInFlight (live_of q') n)
    (sym (number_one i.number os [] (own k c) mine.0 ∙ ap (λ (l : List Owned). suc (number_of i.number l)) (append-nil os)))
    (counts (number_of i.number os) (all.whole.counts i.number q all.there)))
  where
    its : (j : ℕ) (d : InFlightChain) → ((e : InFlightChain) → In (own k e) os → ⊥) →
        (own j d ≡ own k c) ⊎ In (own j d) os →
        ((k ≡ j) × MineIn i page_size k q' push' d new) ⊎ ((k ≡ j → ⊥) × In (own j d) os)
    its j d none (inl e) =
        inl (
          sym (same_number j k d c e),
          subst (λ (x : InFlightChain). MineIn i page_size k q' push' x new) (sym (same_chain j k d c e)) mine,
        )
    its j d none (inr m) = inr (λ same. none d (subst (λ (n : ℕ). In (own n d) os) (sym same) m), m)

    still_lost : (d : InFlightChain) → (lost d ≡ own k c) ⊎ In (lost d) os → In (lost d) os
    still_lost d (inl e) = absurd (not_lost k d c e)
    still_lost d (inr m) = m
