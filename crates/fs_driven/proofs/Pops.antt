-- A pop of a handle drives the run.
use Rattle.std.proofs.Common.{inl, inr, ◌≡◌, ℕ, Bool, false, List, [], ◌∷◌, ◌++◌, length, Option, Some, None, slice_get, refl, subst, suc}
use Rattle.std.proofs.Common.{Result, Ok, Err, IfErr, IfOk, IsTrue, OnErr, if◌then◌else◌, ◌+◌, ◌<◌, sym, ap, ◌∙◌, true, ◌⊎◌, arith}
use Rattle.std.specs.Borrow.{Bor}
use Rattle.fs_chain.specs.Holds.{IsPopOf, pop_of, BeginsAPop, ContinuesAPop, EndsBy, HoldsPopped, PopIs, PopsBy, RefusedBy, IsHeldIn}
use Rattle.fs_chain.specs.Holds.{IsRunQueue}
use Rattle.fs_chain.specs.Holds.{RunState, Pop, any_files, live_of}
use Rattle.fs_chain.proofs.HoldsQueues.{live_index, same_index}
use Rattle.fs_chain.specs.declared.error.ChainError.{ChainError}
use Rattle.fs_chain.specs.Events.{event_fault, event_miss}
use Rattle.vm_iotlb.specs.declared.iova.IovaRange.{IovaRange}
use Rattle.vm_iotlb.specs.declared.permissions.Permissions.{Permissions}
use Rattle.fs_queue.specs.declared.fault.QueueError.{QueueError}
use Rattle.fs_chain.specs.Loads.{ProceedsSo, IsSame, RefusesAPop, came, whole}
use Rattle.fs_chain.specs.Orders.{load_len, is_out}
use Rattle.fs_chain.specs.Walks.{BeginsUnless, BeginsWhere, ContinuesUnless, KeepsStep, LacksEvents, WalksFrom, course_of}
use Rattle.fs_chain.specs.Walks.{queue_after, state_after, outcome_of}
use Rattle.fs_chain.specs.Queues.{pop_id_of}
use Rattle.fs_queue.specs.Chain.{Descriptor}
use Rattle.fs_chain.specs.Pops.{AddsSo}
use Rattle.vm_memory_core.specs.Host.{changed_at}
use Rattle.fs_queue.specs.declared.fault.ChainFault.{ChainFault}
use Rattle.fs_queue.specs.Queue.{with_stop}
use Rattle.fs_queue.specs.Returning.{stores_after_reply}
use Rattle.fs_queue.specs.Taking.{after_refusal, stops_queue}
use Rattle.fs_regions.specs.Walks.{Loaded, nothing}
use Rattle.fs_regions.specs.declared.course.Course.{Course}
use Rattle.fs_regions.specs.declared.step.CourseStep as comes
use Rattle.fs_regions.specs.declared.step.CourseStep.TheVariants as step
use Rattle.fs_regions.specs.declared.walk.QueueWalk.{QueueWalk}
use Rattle.plain_machine.specs.Step.{faulty}
use Rattle.live_machine.specs.Several as several
use Rattle.live_machine.specs.Live.{EndsPop, RefusesPop, after_pop, new_chain, phase_by, with_live, EndsPopIn, InFlightChain, LiveEvent}
use Rattle.live_machine.specs.Live.{Phase, PushedWith, Happens}
use Rattle.live_machine.proofs.Queues.{same_some, there_other, there_same}
use Rattle.fs_chain.specs.declared.loads.LoadOutcome as outcome
use Rattle.fs_chain.specs.declared.loads.LoadOutcome.TheVariants as outcomes
use Rattle.fs_chain.specs.declared.popping.PopOutcome as walked
use Rattle.fs_chain.specs.declared.popping.PopOutcome.TheVariants as shows
use Rattle.fs_chain.specs.declared.state.PopId.{PopId}
use Rattle.vm_memory.specs.Memory.{Memory}
use Rattle.fs_regions.specs.Places.{places_in}
use Rattle.server_phases.specs.declared.session.Session.{Session}
use Rattle.live_machine.specs.Several.{LiveQueue, may_take, returning}
use Rattle.fs_driven.specs.Drivers.{PushUnderWay, Driver, FitsRun, CanBePushed, MayPop, no_pop, own, with_pop}
use Rattle.fs_driven.specs.Events.{DrivesOne, IsLoadedBy, PopEvents, EventsOf, Transition, transition}
use Rattle.fs_driven.specs.Kept.{KeepsMemory}
use Rattle.fs_chain.specs.Together.{Owned, with_handle}
use Rattle.fs_chain.specs.declared.chain_handle.ChainHandle.{ChainHandle}
use Rattle.fs_driven.specs.declared.commands.DriverCall.TheVariants as does
use Rattle.fs_driven.specs.declared.commands.Results.TheVariants as gives
use Rattle.fs_chain.specs.declared.queue.QueueState.{QueueState}
use Rattle.fs_chain.specs.declared.state.ChainState as state
use Rattle.fs_chain.specs.declared.state.ChainState.TheVariants as at
use Rattle.fs_driven.proofs.Counts.{refused_counts, same_count, took_counts}
use Rattle.fs_driven.proofs.Handles.{MovesRun, SamePlaces, held_out, idles, joins, others_same}
use Rattle.fs_driven.proofs.Calls.{HasNoPush, fetched_ready, fits_out, refuses, stays_put, still}
use Rattle.fs_driven.proofs.QueuePlaces.{DrivenAt, DrivesAt, HasRunAt, QueuePlace, driver_after, driver_before, drives_one, with_pop_same}

pub idle_may : (limit : ℕ) (q : QueueState) (p : Pop) (w : ChainHandle) → w.state ≡ at.Free →
    MayPop limit q p w w.state
idle_may limit q p w free =
    subst (λ (st : state.ChainState). MayPop limit q p w st) (sym free) tt

fits_free : (places : Memory) (limit : ℕ) (q : QueueState) (p r : Pop) (old new : ChainHandle) →
    KeepsMemory old new →
    new.state ≡ at.Free
    → FitsRun places limit q p old → FitsRun places limit q r new
fits_free places limit q p r old new same free fits =
    (fits.0 ∙ ap places_in (sym same.0), fits.1 ∙ sym same.1, idle_may limit q r new free)

-- the queue that a pop leaves
queue_now : (s : RunState) (i : ℕ) (q q' : QueueState) (v : LiveQueue) → IsRunQueue s i q →
    slice_get (changed_at s.queues i (λ _. v)) i ≡ Some (live_of q')
    → live_of q' ≡ v
queue_now s i q q' v there now =
    sym (same_some v (live_of q') (sym (there_same s.queues i i (λ _. v) (live_of q) refl there) ∙ now))

-- its next push is at the same places
places_of : (q q' : QueueState) (v : LiveQueue) → live_of q' ≡ v
    → ((head len : ℕ) → stores_after_reply (returning v) head len
    ≡ stores_after_reply (returning (live_of q)) head len)
    → SamePlaces q q'
places_of q q' v is same head len =
    ap (λ (w : LiveQueue). stores_after_reply (returning w) head len) is ∙ same head len

refused_places : (w : LiveQueue) (e : QueueError) (head len : ℕ) →
    stores_after_reply (returning (record w { queue = after_refusal w.queue e })) head len
    ≡ stores_after_reply (returning w) head len
refused_places w e head len = by_stop (stops_queue e)
  where
    by_stop : (b : Bool) →
        stores_after_reply (returning (record w { queue = if b then with_stop w.queue else w.queue })) head len
        ≡ stores_after_reply (returning w) head len
    by_stop true = refl
    by_stop false = refl

popped_ready : (page_size n k : ℕ) (q : QueueState) (push : Option PushUnderWay) (c : InFlightChain)
    (fault : Option ChainFault) (st : state.ChainState) (session : Session)
    → c.phase ≡ phase_by fault → HasNoPush st → IsHeldIn n c c.phase st session →
    CanBePushed page_size k q push c st
popped_ready page_size n k q push c None st session is quiet held =
    fetched_ready page_size n k q push c c.phase st session is held
popped_ready page_size n k q push c (Some why) (at.Replied out kept) session is quiet held =
    (faulty c.head why, subst (λ (p : Phase). PushedWith page_size c p (faulty c.head why)) (sym is) refl)
popped_ready page_size n k q push c (Some why) (at.Pushing out) session is quiet held = absurd quiet
popped_ready page_size n k q push c (Some why) (at.Listing out l) session is quiet held = absurd quiet
popped_ready page_size n k q push c (Some why) _ session is quiet held = tt

-- what a pop keeps
pub record Popping (old new : ChainHandle) (q q' : QueueState) : Type 0 where
  pub memory : KeepsMemory old new
  pub pushing : q'.pushing ≡ q.pushing
  pub quiet : HasNoPush new.state

-- T tells of a pop's events
abbrev PoppedReports : QueuePlace → QueueState → List ChainHandle → Option PushUnderWay → List LiveEvent →
    (T : List LiveEvent → Driver → Type 0) → Type 0
PoppedReports i q' ws push es T =
    (after : RunState) (os : List Owned) (pops : ℕ → Pop) → T es (driver_after after i ws q' os pops push)

still_of : (q q' : QueueState) (push : Option PushUnderWay) → q'.pushing ≡ q.pushing →
    (q.pushing ≡ false → push ≡ None) → q'.pushing ≡ false → push ≡ None
still_of q q' push same still none = still (sym same ∙ none)

-- a pop that ended by itself
ended : (s : RunState) (i : QueuePlace) (page_size k : ℕ) (q q' : QueueState) (ws : List ChainHandle) (os : List Owned)
    (pops : ℕ → Pop) (push : Option PushUnderWay) (old new : ChainHandle) (loaded : Loaded) (came : comes.CourseStep)
    (T : List LiveEvent → Driver → Type 0)
    → DrivenAt s i page_size k q ws os pops push → slice_get ws k ≡ Some old → is_out old.state ≡ false →
    Popping old new q q'
    → Happens any_files s (EndsPop i.number loaded new.descriptors.items came)
    (after_pop s i.number (live_of q) loaded new.descriptors.items came)
    → IsRunQueue (after_pop s i.number (live_of q) loaded new.descriptors.items came) i.number q'
    → HoldsPopped s i.number (live_of q) loaded came new
    → PoppedReports i q' (with_handle ws k new) push (EndsPop i.number loaded new.descriptors.items came ∷ []) T
    → HasRunAt s i page_size k pops q' (with_handle ws k new) T
ended s i page_size k q q' ws os pops push old new loaded step.Idle T all there free same happens queue has
    reports =
    let now : live_of q' ≡ live_of q = sym (same_some (live_of q) (live_of q') (sym all.queue ∙ queue)) in (
      EndsPop i.number loaded new.descriptors.items step.Idle ∷ [],
      s,
      os,
      no_pop,
      push,
      (s, happens, refl),
      idles s s i page_size q q' ws os k old new no_pop pops push push all there
          (stays_put s i page_size k q q' no_pop push new queue
          (live_index q' _ now)
          (places_of q q' (live_of q) now (λ head len. refl)) same.pushing all.still
          (fits_free s.places s.limit q (pops k) no_pop old new same.memory has
          (all.fits old there)))
          (same_count (live_of q) (live_of q') now) refl free (ap is_out has),
      (λ b is. inl (sym all.under ∙ is)),
      reports s os (with_pop pops k no_pop),
    )
ended s i page_size k q q' ws os pops push old new loaded (step.Refused e) T all there free same happens queue
    has reports =
    let after : RunState = after_pop s i.number (live_of q) loaded new.descriptors.items (step.Refused e) in
    let v : LiveQueue = record (live_of q) { queue = after_refusal (live_of q).queue e } in
    let now : live_of q' ≡ v = queue_now s i.number q q' v all.queue queue in
    let moves : MovesRun s after i page_size k q q' no_pop push push new = record {
      page = refl;
      limit = refl;
      places = refl;
      queue = queue;
      apart = λ j other. there_other s.queues i.number j (λ _. v) other;
      event = live_index q' _ now;
      fits = fits_free s.places s.limit q (pops k) no_pop old new same.memory has
          (all.fits old there);
      others = others_same page_size k q q' push (places_of q q' v now (refused_places (live_of q) e));
      still = still_of q q' push same.pushing all.still;
    } in (
      EndsPop i.number loaded new.descriptors.items (step.Refused e) ∷ [],
      after,
      os,
      no_pop,
      push,
      (after, happens, refl),
      idles s after i page_size q q' ws os k old new no_pop pops push push all there moves
          (λ n counts. same_count v (live_of q') now n (refused_counts (live_of q) e n counts)) refl free (ap is_out has),
      (λ b is. inl (sym all.under ∙ is)),
      reports after os (with_pop pops k no_pop),
    )
ended s i page_size k q q' ws os pops push old new loaded (step.Chain head fault) T all there free same happens
    queue has reports =
    let after : RunState = after_pop s i.number (live_of q) loaded new.descriptors.items (step.Chain head fault) in
    let c : InFlightChain = new_chain s i.number (live_of q) loaded new.descriptors.items head fault in
    let v : LiveQueue = several.took (live_of q) in
    let now : live_of q' ≡ v = queue_now s i.number q q' v all.queue queue in
    let room : IsTrue (may_take (live_of q)) =
    subst (λ (w : LiveQueue). IsTrue (may_take w)) (same_some happens.w (live_of q) (sym happens.there ∙ all.queue))
    happens.room in
    let moves : MovesRun s after i page_size k q q' no_pop push push new = record {
      page = refl;
      limit = refl;
      places = refl;
      queue = queue;
      apart = λ j other. there_other s.queues i.number j (λ _. v) other;
      event = live_index q' _ now;
      fits = fits_out s.places s.limit q (pops k) no_pop old new same.memory
          (held_out s.page_size c c.phase new.state new.session has) (all.fits old there);
      others = others_same page_size k q q' push (places_of q q' v now (λ head len. refl));
      still = still_of q q' push same.pushing all.still;
    } in (
      EndsPop i.number loaded new.descriptors.items (step.Chain head fault) ∷ [],
      after,
      os ++ own k c ∷ [],
      no_pop,
      push,
      (after, happens, refl),
      joins s after i page_size q q' ws os k old new c no_pop pops push push all there moves
          (λ n counts. same_count v (live_of q') now (suc n) (took_counts (live_of q) room n counts)) refl free has
          (refl, popped_ready page_size s.page_size k q' push c fault new.state new.session refl same.quiet has),
      (λ b is. inl (sym all.under ∙ is)),
      reports after (os ++ own k c ∷ []) (with_pop pops k no_pop),
    )
ended s i page_size k q q' ws os pops push old new loaded _ T all there free same happens queue has reports = absurd happens.ends

refused : (s : RunState) (i : QueuePlace) (page_size k : ℕ) (q q' : QueueState) (ws : List ChainHandle) (os : List Owned)
    (pops : ℕ → Pop) (push : Option PushUnderWay) (old new : ChainHandle) (result : walked.PopOutcome)
    (T : List LiveEvent → Driver → Type 0)
    → DrivenAt s i page_size k q ws os pops push → slice_get ws k ≡ Some old → is_out old.state ≡ false →
    Popping old new q q'
    → (r : RefusedBy s i.number q q' new result)
    → PoppedReports i q' (with_handle ws k new) push (RefusesPop i.number r.error ∷ []) T
    → HasRunAt s i page_size k pops q' (with_handle ws k new) T
refused s i page_size k q q' ws os pops push old new result T all there free same r reports =
    let h = r.happens in
    let v : LiveQueue = record (h.w) { queue = after_refusal h.w.queue r.error } in
    let w_is : h.w ≡ live_of q = same_some h.w (live_of q) (sym h.there ∙ all.queue) in
    let after : RunState = with_live s i.number v in
    let queue : IsRunQueue after i.number q' = subst (λ (m : RunState). IsRunQueue m i.number q') h.state r.queue in
    let now : live_of q' ≡ v = queue_now s i.number q q' v all.queue queue in
    let moves : MovesRun s after i page_size k q q' no_pop push push new = record {
      page = refl;
      limit = refl;
      places = refl;
      queue = queue;
      apart = λ j other. there_other s.queues i.number j (λ _. v) other;
      event = live_index q' (record (live_of q) { queue = after_refusal (live_of q).queue r.error })
          (now ∙ ap (λ (l : LiveQueue). record l { queue = after_refusal l.queue r.error }) w_is);
      fits = fits_free s.places s.limit q (pops k) no_pop old new same.memory r.free
          (all.fits old there);
      others = others_same page_size k q q' push (places_of q q' v now
          (λ head len. refused_places h.w r.error head len
          ∙ ap (λ (l : LiveQueue). stores_after_reply (returning l) head len) w_is));
      still = still_of q q' push same.pushing all.still;
    } in (
      RefusesPop i.number r.error ∷ [],
      after,
      os,
      no_pop,
      push,
      (r.after, h, sym h.state),
      idles s after i page_size q q' ws os k old new no_pop pops push push all there moves
          (λ n counts. same_count v (live_of q') now n (refused_counts h.w r.error n
          (same_count (live_of q) h.w w_is n counts))) refl free (ap is_out r.free),
      (λ b is. inl (sym all.under ∙ is)),
      reports after os (with_pop pops k no_pop),
    )

-- the event of a pop that ended by itself is told by its result
ends_tell : (t : Transition) (s after : RunState) (q : LiveQueue) (loaded : Loaded) (came : comes.CourseStep)
    (result : walked.PopOutcome) → result ≡ outcome_of t.now.descriptors.items came
    → EndsPopIn s t.queue q loaded t.now.descriptors.items came after
    → PopEvents t loaded result (EndsPop t.queue loaded t.now.descriptors.items came ∷ [])
ends_tell t s after q loaded step.Idle result is ends =
    subst (λ (x : walked.PopOutcome). PopEvents t loaded x
    (EndsPop t.queue loaded t.now.descriptors.items step.Idle ∷ [])) (sym is) refl
ends_tell t s after q loaded (step.Refused e) result is ends =
    subst (λ (x : walked.PopOutcome). PopEvents t loaded x
    (EndsPop t.queue loaded t.now.descriptors.items (step.Refused e) ∷ [])) (sym is) (inl refl)
ends_tell t s after q loaded (step.Chain head None) result is ends =
    subst (λ (x : walked.PopOutcome). PopEvents t loaded x
    (EndsPop t.queue loaded t.now.descriptors.items (step.Chain head None) ∷ [])) (sym is) (refl, refl, refl)
ends_tell t s after q loaded (step.Chain head (Some fault)) result is ends =
    subst (λ (x : walked.PopOutcome). PopEvents t loaded x
    (EndsPop t.queue loaded t.now.descriptors.items (step.Chain head (Some fault)) ∷ [])) (sym is) refl
ends_tell t s after q loaded _ result is ends = absurd ends

-- T tells of what a pop tells
abbrev GivesPop : QueuePlace → (page_size k : ℕ) → Driver → (q q' : QueueState) → Option PushUnderWay →
    (old new : ChainHandle) → Loaded → walked.PopOutcome → (T : List LiveEvent → Driver → Type 0) → Type 0
GivesPop i page_size k d q q' push old new loaded result T =
    (after : RunState) (os : List Owned) (pops : ℕ → Pop) (es : List LiveEvent) →
    let d' : Driver = driver_after after i (with_handle d.handles k new) q' os pops push in
    PopEvents (transition i.number page_size k d d' old new q q') loaded result es → T es d'

ends_or_refused : (s : RunState) (i : QueuePlace) (page_size k : ℕ) (q q' : QueueState) (ws : List ChainHandle)
    (os : List Owned) (pops : ℕ → Pop) (push : Option PushUnderWay) (old new : ChainHandle) (loaded : Loaded)
    (result : walked.PopOutcome) (T : List LiveEvent → Driver → Type 0)
    → DrivenAt s i page_size k q ws os pops push → slice_get ws k ≡ Some old → is_out old.state ≡ false →
    Popping old new q q'
    → GivesPop i page_size k (driver_before s i ws os pops) q q' push old new loaded result T
    → EndsBy s i.number q q' loaded new result ⊎ RefusedBy s i.number q q' new result
    → HasRunAt s i page_size k pops q' (with_handle ws k new) T
ends_or_refused s i page_size k q q' ws os pops push old new loaded result T all there free same give (inl e) =
    ended s i page_size k q q' ws os pops push old new loaded e.came T all there free same e.happens e.queue
    e.has
    (λ after os' loads'. give after os' loads' (EndsPop i.number loaded new.descriptors.items e.came ∷ [])
    (ends_tell (transition i.number page_size k (driver_before s i ws os pops)
    (driver_after after i (with_handle ws k new) q' os' loads' push) old new q q') s
    (after_pop s i.number (live_of q) loaded new.descriptors.items e.came) e.happens.w loaded e.came result e.outcome_is
    e.happens.ends))
ends_or_refused s i page_size k q q' ws os pops push old new loaded result T all there free same give (inr r) =
    refused s i page_size k q q' ws os pops push old new result T all there free same r
    (λ after os' loads'. give after os' loads' (RefusesPop i.number r.error ∷ [])
    (subst (λ (x : walked.PopOutcome). PopEvents (transition i.number page_size k (driver_before s i ws os pops)
    (driver_after after i (with_handle ws k new) q' os' loads' push) old new q q') loaded x (RefusesPop i.number r.error ∷ []))
    (sym r.outcome_is) (inr refl)))

pub popped : (s : RunState) (i : QueuePlace) (page_size k : ℕ) (q q' : QueueState) (ws : List ChainHandle) (os : List Owned)
    (pops : ℕ → Pop) (push : Option PushUnderWay) (old new : ChainHandle) (p : Pop) (result : walked.PopOutcome)
    (T : List LiveEvent → Driver → Type 0)
    → DrivenAt s i page_size k q ws os pops push → slice_get ws k ≡ Some old → is_out old.state ≡ false →
    Popping old new q q'
    → IsPopOf q p
    → GivesPop i page_size k (driver_before s i ws os pops) q q' push old new p.loaded result T
    → PopIs s i.number q q' p new result
    → HasRunAt s i page_size k pops q' (with_handle ws k new) T
popped s i page_size k q q' ws os pops push old new p (shows.Load n) T all there free same event give is =
    still s i page_size k q q' ws os pops push old new p T all there free same.memory event is
    (give s os (with_pop pops k p) [] (refl, ap (λ (x : Pop). x.loaded) (with_pop_same pops k p)))
popped s i page_size k q q' ws os pops push old new p (shows.Missing range access) T all there free same event
    give is =
    let was = all.fits old there in (
      [],
      s,
      os,
      no_pop,
      push,
      refl,
      idles s s i page_size q q' ws os k old new no_pop pops push push all there
          (stays_put s i page_size k q q' no_pop push new
          (subst (λ (r : QueueState). IsRunQueue s i.number r) (sym is.1) all.queue)
          (same_index q' _ is.1)
          (λ head len. ap (λ (r : QueueState). stores_after_reply (returning (live_of r)) head len) is.1)
          same.pushing all.still
          (fits_free s.places s.limit q (pops k) no_pop old new same.memory is.0 was))
          (same_count (live_of q) (live_of q') (ap live_of is.1)) refl free (ap is_out is.0),
      (λ b is. inl (sym all.under ∙ is)),
      give s os (with_pop pops k no_pop) [] refl,
    )
popped s i page_size k q q' ws os pops push old new p result T all there free same event give is =
    ends_or_refused s i page_size k q q' ws os pops push old new p.loaded result T all there free same give
    is

abbrev PopReturned : (page_size : ℕ) → (old new : ChainHandle) → (q q' : QueueState) → Bor (List ℕ) →
    outcome.LoadOutcome → Type 0
PopReturned page_size old new q q' bytes result =
    DrivesAt page_size old new q q' (does.Pop bytes) (gives.Popped (Ok result))

begins : (page_size : ℕ) (old new : ChainHandle) (q q' : QueueState) (bytes : Bor (List ℕ))
    (result : outcome.LoadOutcome) → old.state ≡ at.Free
    → ProceedsSo old q bytes.now result new q'
    → BeginsAPop old new q q' result → Popping old new q q' → PopReturned page_size old new q q' bytes result
unfolding BeginsAPop
begins page_size old new q q' bytes outcomes.Part free proceeds begin same ws k there u s i os pops push all =
    absurd begin
begins page_size old new q q' bytes (outcomes.On result) free proceeds begin same ws k there u s i os pops push all =
    let was = all.fits old there in
    let loads : (after : Driver) → IsLoadedBy old.state
    (transition i.number page_size k (driver_before s i ws os pops) after old new q q') bytes.now result nothing =
    λ after. subst (λ (st : state.ChainState). IsLoadedBy st
    (transition i.number page_size k (driver_before s i ws os pops) after old new q q') bytes.now result nothing) (sym free) refl in
    popped s i page_size k q q' ws os pops push old new
    (pop_of q nothing) result
    (λ es d. EventsOf (transition i.number page_size k (driver_before s i ws os pops) d old new q q') (does.Pop bytes) u
    (gives.Popped (Ok (outcomes.On result))) es)
    all there (ap is_out free) same refl
    (λ after os' loads' es reports.
    (proceeds, nothing, loads (driver_after after i (with_handle ws k new) q' os' loads' push), reports))
    (begin s i.number all.queue was.0 was.1 all.small)

continues : (page_size : ℕ) (old new : ChainHandle) (q q' : QueueState) (bytes : Bor (List ℕ))
    (result : outcome.LoadOutcome) (course : Course) (pop_id : PopId) (walk : QueueWalk) →
    old.state ≡ at.Popping course pop_id walk
    → ProceedsSo old q bytes.now result new q'
    → ContinuesAPop old new q q' bytes.now result → Popping old new q q' →
    PopReturned page_size old new q q' bytes result
unfolding ContinuesAPop
continues page_size old new q q' bytes outcomes.Part course pop_id walk is proceeds go same ws k there u s i os pops
    push all =
    let was = all.fits old there in
    let may = subst (λ (st : state.ChainState). MayPop s.limit q (pops k) old st) is was.2 in
    still s i page_size k q q' ws os pops push old new (pops k)
    (λ es d. EventsOf (transition i.number page_size k (driver_before s i ws os pops) d old new q q') (does.Pop bytes) u
    (gives.Popped (Ok outcomes.Part)) es)
    all there (ap is_out is) same.memory may.1
    (go s i.number (pops k) may.0 all.queue was.0 may.1 all.small)
    (refl, with_pop_same pops k (pops k), proceeds)
continues page_size old new q q' bytes (outcomes.On result) course pop_id walk is proceeds go same ws k there u s i os
    pops push all =
    let was = all.fits old there in
    let may = subst (λ (st : state.ChainState). MayPop s.limit q (pops k) old st) is was.2 in
    let on = go s i.number (pops k) may.0 all.queue was.0 may.1 all.small in
    let adds : q.stopped ≡ None → AddsSo (at.Popping course pop_id walk) (outcomes.On result) new.descriptors.items
    (pops k).loaded (whole old bytes.now) on.0 =
    λ carries_on. subst (λ (st : state.ChainState). AddsSo st (outcomes.On result) new.descriptors.items
    (pops k).loaded (whole old bytes.now) on.0) is (on.1 carries_on) in
    let loads : (after : Driver) → IsLoadedBy old.state
    (transition i.number page_size k (driver_before s i ws os pops) after old new q q') bytes.now result on.0 =
    λ after. subst (λ (st : state.ChainState). IsLoadedBy st
    (transition i.number page_size k (driver_before s i ws os pops) after old new q q') bytes.now result on.0) (sym is) adds in
    popped s i page_size k q q' ws os pops push old new (record (pops k) { loaded = on.0 }) result
    (λ es d. EventsOf (transition i.number page_size k (driver_before s i ws os pops) d old new q q') (does.Pop bytes) u
    (gives.Popped (Ok (outcomes.On result))) es)
    all there (ap is_out is) same may.1
    (λ after os' loads' es reports.
    (proceeds, on.0, loads (driver_after after i (with_handle ws k new) q' os' loads' push), reports))
    on.2

-- ---- what a pop keeps

-- the state after a pop's step isn't a push
step_quiet : (course : Course) (pop_id : PopId) (ds : List Descriptor) (came : comes.CourseStep) →
    HasNoPush (state_after course pop_id ds came)
step_quiet course pop_id ds (step.Chain head None) = tt
step_quiet course pop_id ds _ = tt

step_pushing : (q : QueueState) (came : comes.CourseStep) → (queue_after q came).pushing ≡ q.pushing
step_pushing q (step.Load walk) = refl
step_pushing q _ = refl

kept_step : (course : Course) (pop_id : PopId) (came : comes.CourseStep) (old new : ChainHandle)
    (q q' : QueueState) (result : walked.PopOutcome) → KeepsStep course pop_id came old new q q' result →
    Popping old new q q'
kept_step course pop_id came old new q q' result kept =
    record {
      memory = (kept.4.0, kept.4.1);
      pushing = ap (λ (r : QueueState). r.pushing) kept.2 ∙ step_pushing q came;
      quiet = subst (λ (st : state.ChainState). HasNoPush st) (sym kept.1)
          (step_quiet course pop_id new.descriptors.items came);
    }

-- a free handle
free_quiet : (new : ChainHandle) → new.state ≡ at.Free → HasNoPush new.state
free_quiet new is = subst (λ (st : state.ChainState). HasNoPush st) (sym is) tt

pub begun_keeps : (old new : ChainHandle) (q q' : QueueState) (result : walked.PopOutcome)
    (stopped : Option QueueError) → old.state ≡ at.Free →
    BeginsUnless stopped old new q q' result
    → Popping old new q q'
begun_keeps old new q q' result (Some why) free by =
    record { memory = (by.1.0.0, by.1.0.1); pushing = ap (λ (r : QueueState). r.pushing) by.2; quiet = free_quiet new (by.1.3 ∙ free) }
begun_keeps old new q q' result None free by =
    by_fault old new q q' result (event_fault (places_in old.regions) q) free by
  where
    by_miss : (old new : ChainHandle) (q q' : QueueState) (result : walked.PopOutcome) (e : QueueError)
        (miss : Option (IovaRange × Permissions)) → old.state ≡ at.Free
        → LacksEvents e miss old new q q' result → Popping old new q q'
    by_miss old new q q' result e (Some miss) free by =
        record {
          memory = (by.1.0.0.0, by.1.0.0.1);
          pushing = ap (λ (r : QueueState). r.pushing) by.2;
          quiet = free_quiet new (by.1.0.3 ∙ free);
        }
    by_miss old new q q' result e None free by =
        record {
          memory = (by.1.0.0.0, by.1.0.0.1);
          pushing = ap (λ (r : QueueState). r.pushing) by.2;
          quiet = free_quiet new (by.1.0.3 ∙ free);
        }

    by_fault : (old new : ChainHandle) (q q' : QueueState) (result : walked.PopOutcome)
        (fault : Option QueueError) → old.state ≡ at.Free →
        BeginsWhere fault old new q q' result
        → Popping old new q q'
    by_fault old new q q' result (Some e) free by =
        by_miss old new q q' result e (event_miss (places_in old.regions) q) free by
    by_fault old new q q' result None free by =
        kept_step (course_of q old.limit) (pop_id_of old.regions q) by.0 old new q q' result by.1

pub gone_keeps : (old new : ChainHandle) (q q' : QueueState) (bytes : List ℕ) (result : walked.PopOutcome)
    (course : Course) (pop_id : PopId) (walk : QueueWalk) (stopped : Option QueueError) →
    ContinuesUnless stopped course pop_id walk bytes old new q q' result → Popping old new q q'
gone_keeps old new q q' bytes result course pop_id walk (Some why) by =
    record { memory = (by.1.0.0, by.1.0.1); pushing = ap (λ (r : QueueState). r.pushing) by.2; quiet = free_quiet new by.1.3 }
gone_keeps old new q q' bytes result course pop_id walk None by =
    kept_step course pop_id by.0 old new q q' result by.1

pub no_part : (old : ChainHandle) (bytes : List ℕ) → came old + length bytes < load_len old.state →
    load_len old.state ≡ 0 → ⊥
no_part old bytes less zero_is = omega arith

pub part_keeps : (old new : ChainHandle) (q q' : QueueState) (bytes : List ℕ) (course : Course) (pop_id : PopId)
    (walk : QueueWalk) → old.state ≡ at.Popping course pop_id walk → ProceedsSo old q bytes outcomes.Part new q' →
    Popping old new q q'
part_keeps old new q q' bytes course pop_id walk is proceeds =
    record {
      memory = (proceeds.3.0.0, proceeds.3.0.1);
      pushing = ap (λ (r : QueueState). r.pushing) proceeds.5;
      quiet = subst (λ (st : state.ChainState). HasNoPush st) (sym (proceeds.3.3 ∙ is)) tt;
    }

pop_at : (page_size : ℕ) (old new : ChainHandle) (q q' : QueueState) (bytes : Bor (List ℕ))
    (result : outcome.LoadOutcome) (st : state.ChainState) →
    old.state ≡ st
    → ProceedsSo old q bytes.now result new q' → PopsBy st old new q q' bytes.now result →
    DrivesOne page_size old new q q' (does.Pop bytes) (gives.Popped (Ok result))
pop_at page_size old new q q' bytes (outcomes.On result) at.Free is proceeds by =
    let on = subst (λ (st : state.ChainState). WalksFrom st (whole old bytes.now) old new q q' result) is proceeds.4
    in
    drives_one _ _ (begins page_size old new q q' bytes (outcomes.On result) is proceeds by
    (begun_keeps old new q q' result q.stopped is on))
pop_at page_size old new q q' bytes outcomes.Part (at.Popping course pop_id walk) is proceeds by =
    drives_one _ _ (continues page_size old new q q' bytes outcomes.Part course pop_id walk is proceeds by
    (part_keeps old new q q' bytes.now course pop_id walk is proceeds))
pop_at page_size old new q q' bytes (outcomes.On result) (at.Popping course pop_id walk) is proceeds by =
    let on = subst (λ (st : state.ChainState). WalksFrom st (whole old bytes.now) old new q q' result) is proceeds.4
    in
    drives_one _ _ (continues page_size old new q q' bytes (outcomes.On result) course pop_id walk is proceeds by
    (gone_keeps old new q q' (whole old bytes.now) result course pop_id walk q.stopped on))
pop_at page_size old new q q' bytes (outcomes.On result) _ is proceeds by =
    absurd (subst (λ (st : state.ChainState). WalksFrom st (whole old bytes.now) old new q q' result) is proceeds.4)
pop_at page_size old new q q' bytes outcomes.Part _ is proceeds by = absurd (no_part old bytes.now proceeds.1 (ap load_len is))

pub pop_result : (old new : ChainHandle) (q q' : QueueState) (bytes : Bor (List ℕ))
    (result : Result outcome.LoadOutcome ChainError)
    → IfOk result (λ returned. ProceedsSo old q bytes.now returned new q')
    → IfErr result (RefusesAPop old q bytes.now)
    → OnErr result (IsSame old new × (q' ≡ q))
    → IfOk result (λ returned. PopsBy old.state old new q q' bytes.now returned)
    → (page_size : ℕ) → DrivesOne page_size old new q q' (does.Pop bytes) (gives.Popped result)
pop_result old new q q' bytes (Ok returned) proceeds err same step page_size =
    pop_at page_size old new q q' bytes returned old.state refl proceeds step
pop_result old new q q' bytes (Err e) proceeds err same step page_size =
    subst (λ (r : QueueState). DrivesOne page_size old new q r (does.Pop bytes) (gives.Popped (Err e)))
    (sym same.1)
    (refuses page_size old new q (does.Pop bytes) (gives.Popped (Err e))
    (same.0.1, same.0.4, same.0.0.0, same.0.0.1, same.0.2)
    (λ i k d d' u pop. (refl, (same.0, refl, pop), err)))
