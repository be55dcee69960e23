-- A call of a handle among others that is refused, or changes nothing of the run.
use Rattle.std.proofs.Common.{◌≡◌, ℕ, Bool, true, false, List, [], ◌∷◌, ◌++◌, length, Option, Some, None, slice_get, refl, subst, sym, ap}
use Rattle.std.proofs.Common.{inl, ◌∙◌, zero, suc}
use Rattle.vm_memory.specs.Memory.{Memory}
use Rattle.fs_chain.specs.Holds.{IsPopOf, HoldsInFlight, IsRepliedWith, HoldsPop, IsHeldIn, IsOutAs, IsRunQueue, RunState, Pop, live_of}
use Rattle.fs_chain.specs.Holds.{queue_with, IsUnanswered}
use Rattle.fs_chain.specs.Queues.{SameEventIndex}
use Rattle.fs_chain.proofs.HoldsQueues.{same_index}
use Rattle.fs_queue.specs.Chain.{Descriptor}
use Rattle.fs_queue.specs.Returning.{stores_after_reply}
use Rattle.fs_regions.specs.Places.{places_in}
use Rattle.fs_regions.specs.Walks.{IsLongestStretch, IsThere, IsWalkAt, queue_of}
use Rattle.server_meanings.specs.Grammar.{Meaning}
use Rattle.server_meanings.specs.Serving.{Setting}
use Rattle.plain_machine.specs.Step.{Calls, calls_alone, served_exchange}
use Rattle.server_phases.specs.declared.session.Session.{Session}
use Rattle.live_machine.specs.Several.{returning}
use Rattle.live_machine.specs.Live.{Abandoned, Asked, Fetched, InFlightChain, LoadsAreMapped, LiveEvent, Own, Phase, PoppedFaulty}
use Rattle.live_machine.specs.Live.{asked_chain, pop_refusal, room_of, serving}
use Rattle.fuse_values.specs.declared.call.FileCall as made_call
use Rattle.fs_chain.specs.Decoding.{KeepsCall, KeepsReply}
use Rattle.fs_driven.specs.Drivers.{PushUnderWay, Driver, FitsRun, CanBePushed, MayPop, own, with_pop}
use Rattle.fs_driven.specs.Events.{DrivesOne, EventsOf, Unseen, exactly, transition}
use Rattle.fs_driven.specs.Kept.{IsSameHeld, KeepsMemory}
use Rattle.fs_chain.specs.Loads.{IsSame}
use Rattle.fs_chain.specs.Orders.{is_out}
use Rattle.fs_chain.specs.Rings.{ring_of}
use Rattle.fs_chain.specs.Together.{Owned, with_handle}
use Rattle.fs_chain.specs.declared.chain_handle.ChainHandle.{ChainHandle}
use Rattle.fs_driven.specs.declared.commands.DriverCall.{DriverCall}
use Rattle.fs_driven.specs.declared.commands.Results.{Results}
use Rattle.fs_chain.specs.declared.queue.QueueState.{QueueState}
use Rattle.fs_chain.specs.declared.state.ChainState as state
use Rattle.fs_chain.specs.declared.state.ChainState.TheVariants as at
use Rattle.fs_chain.specs.declared.state.InFlight.{InFlight}
use Rattle.fs_driven.proofs.Counts.{same_count}
use Rattle.fs_driven.proofs.QueuePlaces.{DrivenAt, DrivesAt, HasRunAt, QueuePlace, driver_after, driver_before, drives_one, with_pop_same}
use Rattle.fs_driven.proofs.Handles.{MovesRun, SamePlaces, has_own, idles, keeps, not_free, others_same}

-- ---- a call that is refused

holds_same : (page_size : ℕ) (c : InFlightChain) (old new : ChainHandle) → IsSameHeld old new →
    HoldsInFlight page_size c old →
    HoldsInFlight page_size c new
holds_same page_size c old new same held =
    subst (λ (st : state.ChainState). IsHeldIn page_size c c.phase st new.session) (sym same.0)
    (subst (λ (x : Session). IsHeldIn page_size c c.phase old.state x) (sym same.1) held)

pop_same : (limit : ℕ) (p : Pop) (old new : ChainHandle) → IsSameHeld old new → HoldsPop limit p old →
    HoldsPop limit p new
pop_same limit p old new same h =
    let places : places_in old.regions ≡ places_in new.regions = ap places_in (sym same.2) in
    record {
      course = h.course;
      pop_id = h.pop_id;
      walk = h.walk;
      state = same.0 ∙ h.state;
      ring = subst (λ (m : Memory). h.pop_id.ring ≡ ring_of m h.course.layout.used) places h.ring;
      limit_is = h.limit_is;
      comes = subst (λ (m : Memory). IsWalkAt m (queue_of h.course) p.loaded new.descriptors.items h.walk)
          places (subst (λ (ds : List Descriptor). IsWalkAt (places_in old.regions) (queue_of h.course)
          p.loaded ds h.walk) (sym same.4) h.comes);
      there = subst (λ (m : Memory). IsThere m h.walk) places h.there;
      longest = subst (λ (m : Memory). IsLongestStretch m (queue_of h.course) new.descriptors.items h.walk)
          places (subst (λ (ds : List Descriptor). IsLongestStretch (places_in old.regions)
          (queue_of h.course) ds h.walk) (sym same.4) h.longest);
      mapped = subst (λ (m : Memory). LoadsAreMapped m (queue_of h.course) p.loaded) places h.mapped;
      events = subst (λ (m : Memory). pop_refusal m (queue_with (queue_of h.course) p) ≡ None)
          places h.events;
    }

may_same : (limit : ℕ) (q : QueueState) (p : Pop) (old new : ChainHandle) (st : state.ChainState) →
    IsSameHeld old new →
    MayPop limit q p old st
    → MayPop limit q p new st
may_same limit q p old new (at.Popping course pop_id walk) same may =
    (pop_same limit p old new same may.0, may.1)
may_same limit q p old new _ same may = tt

fits_same : (places : Memory) (limit : ℕ) (q : QueueState) (p : Pop) (old new : ChainHandle) → IsSameHeld old new
    → FitsRun places limit q p old → FitsRun places limit q p new
fits_same places limit q p old new same fits = (
  fits.0 ∙ ap places_in (sym same.2),
  fits.1 ∙ sym same.3,
  subst (λ (st : state.ChainState). MayPop limit q p new st) (sym same.0)
      (may_same limit q p old new old.state same fits.2),
)

may_out : (limit : ℕ) (q : QueueState) (p : Pop) (w : ChainHandle) (st : state.ChainState) → is_out st ≡ true →
    MayPop limit q p w st
may_out limit q p w (at.Popping course pop_id walk) out = absurd (not_free false out refl)
may_out limit q p w _ out = tt

pub fits_out : (places : Memory) (limit : ℕ) (q : QueueState) (p r : Pop) (old new : ChainHandle) →
    KeepsMemory old new → is_out new.state ≡ true
    → FitsRun places limit q p old → FitsRun places limit q r new
fits_out places limit q p r old new same out fits =
    (fits.0 ∙ ap places_in (sym same.0), fits.1 ∙ sym same.1, may_out limit q r new new.state out)

-- nothing happens, but the queue may be in a push
pub stays_put : (s : RunState) (i : QueuePlace) (page_size k : ℕ) (q q' : QueueState) (p : Pop) (push : Option PushUnderWay)
    (new : ChainHandle) → IsRunQueue s i.number q' → SameEventIndex q' q → SamePlaces q q' →
    q'.pushing ≡ q.pushing → (q.pushing ≡ false → push ≡ None)
    → FitsRun s.places s.limit q p new → MovesRun s s i page_size k q q' p push push new
stays_put s i page_size k q q' p push new there event same pushing still fits =
    record {
      page = refl;
      limit = refl;
      places = refl;
      queue = there;
      apart = λ j other. refl;
      event = event;
      fits = fits;
      others = others_same page_size k q q' push same;
      still = λ none. still (sym pushing ∙ none);
    }

-- T tells of no events, whatever the handles hold, as long as handle k has this pop
abbrev pub ReportsNone : RunState → QueuePlace → QueueState → List ChainHandle → Option PushUnderWay → (k : ℕ) → Pop →
    (T : List LiveEvent → Driver → Type 0) → Type 0
ReportsNone s i q ws push k p T =
    (os : List Owned) (pops : ℕ → Pop) → pops k ≡ p → T [] (driver_after s i ws q os pops push)

pub stays : (s : RunState) (i : QueuePlace) (page_size k : ℕ) (q : QueueState) (ws : List ChainHandle) (os : List Owned)
    (pops : ℕ → Pop) (push : Option PushUnderWay) (old new : ChainHandle) (T : List LiveEvent → Driver → Type 0)
    → DrivenAt s i page_size k q ws os pops push → slice_get ws k ≡ Some old → IsSameHeld old new
    → ReportsNone s i q (with_handle ws k new) push k (pops k) T
    → HasRunAt s i page_size k pops q (with_handle ws k new) T
stays s i page_size k q ws os pops push old new T all there same reports = by_out (is_out old.state) refl
  where
    moves : MovesRun s s i page_size k q q (pops k) push push new
    moves =
        stays_put s i page_size k q q (pops k) push new all.queue refl (λ head len. refl) refl all.still
        (fits_same s.places s.limit q (pops k) old new same (all.fits old there))

    by_out : (b : Bool) → is_out old.state ≡ b → HasRunAt s i page_size k pops q (with_handle ws k new) T
    by_out true out =
        let has = has_own s i page_size q ws os k old pops push all there (all.outs old there out) in
        let c = has.c in
        let holds = holds_same s.page_size c old new same has.holds in
        let ready : CanBePushed page_size k q push c new.state =
        subst (λ (st : state.ChainState). CanBePushed page_size k q push c st) (sym same.0) has.mine.1 in (
          [],
          s,
          has.ob ++ own k c ∷ has.oh,
          pops k,
          push,
          refl,
          keeps s s i page_size q q ws has.ob has.oh k old new c c (pops k) pops push push has.driven there
              moves (λ n counts. counts) has.chains holds (has.mine.0, ready),
          (λ b is. inl (sym all.under ∙ is)),
          reports (has.ob ++ own k c ∷ has.oh) (with_pop pops k (pops k)) (with_pop_same pops k (pops k)),
        )
    by_out false free = (
      [],
      s,
      os,
      pops k,
      push,
      refl,
      idles s s i page_size q q ws os k old new (pops k) pops push push all there moves (λ n counts. counts) refl free
          (ap is_out same.0 ∙ free),
      (λ b is. inl (sym all.under ∙ is)),
      reports os (with_pop pops k (pops k)) (with_pop_same pops k (pops k)),
    )

-- a call that is refused, or not made
pub refuses : (page_size : ℕ) (old new : ChainHandle) (q : QueueState) (command : DriverCall)
    (returned : Results)
    → IsSameHeld old new
    → ((i k : ℕ) (d d' : Driver) (u : Unseen) → d'.pops k ≡ d.pops k →
    EventsOf (transition i page_size k d d' old new q q) command u returned [])
    → DrivesOne page_size old new q q command returned
refuses page_size old new q command returned same reports = drives_one command returned at_spot
  where
    at_spot : DrivesAt page_size old new q q command returned
    at_spot ws k there u s i os pops push all =
        stays s i page_size k q ws os pops push old new
        (λ es d. EventsOf (transition i.number page_size k (driver_before s i ws os pops) d old new q q) command u returned es)
        all there same
        (λ after loads' pop. reports i.number k (driver_before s i ws os pops)
        (driver_after s i (with_handle ws k new) q after loads' push) u pop)

pub same_held : (old new : ChainHandle) → new ≡ old → IsSameHeld old new
same_held old new same = (
  ap (λ (w : ChainHandle). w.state) same,
  ap (λ (w : ChainHandle). w.session) same,
  ap (λ (w : ChainHandle). w.regions) same,
  ap (λ (w : ChainHandle). w.limit) same,
  ap (λ (w : ChainHandle). w.descriptors.items) same,
)

-- nothing of the handle changed
pub same_all : (old new : ChainHandle) → new ≡ old → IsSame old new
same_all old new same =
    subst (λ (w : ChainHandle). IsSame old w) (sym same) ((refl, refl, refl, refl), refl, refl, refl, refl)

-- ---- decode

abbrev pub OutOf : InFlightChain → Phase → InFlight → Type 0
OutOf c p out = (p ≡ Fetched) × IsOutAs c out

pub taken_out : (page_size : ℕ) (c : InFlightChain) (p : Phase) (st : state.ChainState) (session : Session)
    (out : InFlight) →
    st ≡ at.Popped out →
    IsHeldIn page_size c p st session → OutOf c p out
taken_out page_size c p st session out is held =
    by_phase page_size c p session out (subst (λ (x : state.ChainState). IsHeldIn page_size c p x session) is
    held)
  where
    by_phase : (page_size : ℕ) (c : InFlightChain) (p : Phase) (session : Session) (out : InFlight) →
        IsHeldIn page_size c p (at.Popped out) session
        → OutOf c p out
    by_phase page_size c Fetched session out held = (refl, held)
    by_phase page_size c (PoppedFaulty why) session out held = absurd held
    by_phase page_size c (Asked request options calls) session out held = absurd held
    by_phase page_size c (Own request reply) session out held = absurd held
    by_phase page_size c (Abandoned fault) session out held = absurd held

-- a chain that isn't decoded yet is in a handle without a reply
pub fetched_ready : (page_size n k : ℕ) (q : QueueState) (push : Option PushUnderWay) (c : InFlightChain) (p : Phase)
    (st : state.ChainState) (session : Session) → p ≡ Fetched →
    IsHeldIn n c p st session → CanBePushed page_size k q push c st
fetched_ready page_size n k q push c p st session is held =
    by_state page_size n c st session (subst (λ (x : Phase). IsHeldIn n c x st session) is held)
  where
    by_state : (page_size n : ℕ) (c : InFlightChain) (st : state.ChainState) (session : Session) →
        IsHeldIn n c Fetched st session
        → CanBePushed page_size k q push c st
    by_state page_size n c (at.Replied out kept) session held = absurd held
    by_state page_size n c (at.Pushing out) session held = absurd held
    by_state page_size n c at.Free session held = tt
    by_state page_size n c (at.Popping course pop_id walk) session held = tt
    by_state page_size n c (at.Popped out) session held = tt
    by_state page_size n c (at.Decoded out w) session held = tt
    by_state page_size n c (at.Listing out l) session held = absurd held

-- ---- a handle that pushes nothing, and lists nothing

abbrev pub HasNoPush : state.ChainState → Type 0
HasNoPush (at.Pushing out) = ⊥
HasNoPush (at.Listing out listing) = ⊥
HasNoPush _ = Unit {0}

pub reply_no_push : (s : Setting) (m : Meaning) (bytes : List ℕ) (out : InFlight) (st : state.ChainState) →
    KeepsReply s m bytes out st → HasNoPush st
reply_no_push s m bytes out (at.Pushing o) keeps = absurd keeps
reply_no_push s m bytes out (at.Listing o l) keeps = absurd keeps
reply_no_push s m bytes out _ keeps = tt

pub replied_no_push : (reply bytes : List ℕ) (st : state.ChainState) → IsRepliedWith reply bytes st → HasNoPush st
replied_no_push reply bytes (at.Pushing o) is = absurd is
replied_no_push reply bytes (at.Listing o l) is = absurd is
replied_no_push reply bytes _ is = tt

-- a chain without a pending call can be pushed
pub done_ready : (page_size k : ℕ) (q : QueueState) (push : Option PushUnderWay) (c : InFlightChain)
    (request : List ℕ) (options : ℕ) (calls : Calls) (st : state.ChainState)
    → (serving page_size options options request (room_of (asked_chain c request options calls))
    calls).calls ≡ calls_alone calls
    → HasNoPush st → CanBePushed page_size k q push (asked_chain c request options calls) st
done_ready page_size k q push c request options calls (at.Replied out kept) done quiet = (
  served_exchange c.head request
      (serving page_size options options request (room_of (asked_chain c request options calls)) calls),
  (done, refl),
)
done_ready page_size k q push c request options calls (at.Pushing out) done quiet = absurd quiet
done_ready page_size k q push c request options calls (at.Listing out l) done quiet = absurd quiet
done_ready page_size k q push c request options calls _ done quiet = tt

pub call_waits : (page_size k : ℕ) (q : QueueState) (push : Option PushUnderWay) (c : InFlightChain) (request : List ℕ)
    (options : ℕ) (s : Setting) (m : Meaning) (bytes : List ℕ) (made : made_call.FileCall) (out : InFlight)
    (st : state.ChainState) → KeepsCall s m bytes made out st → IsUnanswered (Asked request options []) st
    → CanBePushed page_size k q push (asked_chain c request options []) st
call_waits page_size k q push c request options s m bytes made out (at.Replied o kept) keeps fresh = absurd keeps
call_waits page_size k q push c request options s m bytes made out (at.Pushing o) keeps fresh = absurd keeps
call_waits page_size k q push c request options s m bytes made out (at.Listing o l) keeps fresh = fresh
call_waits page_size k q push c request options s m bytes made out _ keeps fresh = tt

-- ---- small lemmas

pub length_exactly : (n : ℕ) (bytes : List ℕ) → length (exactly n bytes) ≡ n
length_exactly zero bytes = refl
length_exactly (suc n) [] = ap suc (length_exactly n [])
length_exactly (suc n) (b ∷ bytes) = ap suc (length_exactly n bytes)

pub no_error : {A : Type 0} (x : A) → Some x ≡ None → ⊥
no_error x e = cc

-- a pop that asks for more, or got a part of a load
pub still : (s : RunState) (i : QueuePlace) (page_size k : ℕ) (q q' : QueueState) (ws : List ChainHandle) (os : List Owned)
    (pops : ℕ → Pop) (push : Option PushUnderWay) (old new : ChainHandle) (p : Pop)
    (T : List LiveEvent → Driver → Type 0)
    → DrivenAt s i page_size k q ws os pops push → slice_get ws k ≡ Some old → is_out old.state ≡ false →
    KeepsMemory old new
    → IsPopOf q p
    → HoldsPop s.limit p new × (q' ≡ q)
    → T [] (driver_after s i (with_handle ws k new) q' os (with_pop pops k p) push)
    → HasRunAt s i page_size k pops q' (with_handle ws k new) T
still s i page_size k q q' ws os pops push old new p T all there free same event is reports =
    let was = all.fits old there in
    let may : MayPop s.limit q p new new.state =
    subst (λ (st : state.ChainState). MayPop s.limit q p new st) (sym is.0.state)
    (is.0, event) in (
      [],
      s,
      os,
      p,
      push,
      refl,
      idles s s i page_size q q' ws os k old new p pops push push all there
          (stays_put s i page_size k q q' p push new
          (subst (λ (r : QueueState). IsRunQueue s i.number r) (sym is.1) all.queue)
          (same_index q' _ is.1)
          (λ head len. ap (λ (r : QueueState). stores_after_reply (returning (live_of r)) head len) is.1)
          (ap (λ (r : QueueState). r.pushing) is.1) all.still
          (was.0 ∙ ap places_in (sym same.0), was.1 ∙ sym same.1, may))
          (same_count (live_of q) (live_of q') (ap live_of is.1)) refl free (ap is_out is.0.state),
      (λ b is. inl (sym all.under ∙ is)),
      reports,
    )
