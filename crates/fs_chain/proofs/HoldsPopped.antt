-- The calls of a pop, each as it finds its queue.
use Rattle.std.proofs.Common.{arith, inl, inr, ◌≡◌, ◌≤◌, ◌^◌, ℕ, Bool, true, List, [], length, Option, Some, None}
use Rattle.std.proofs.Common.{refl, subst, sym, ap, ◌∙◌}
use Rattle.fs_chain.specs.declared.error.ChainError.{ChainError}
use Rattle.std.specs.Prelude.{IfOk, Result, Ok, Err, false, is_some, if◌then◌else◌, not, unwrap_or}
use Rattle.std.proofs.lemmas.Bool.{true≢false}
use Rattle.vm_iotlb.specs.declared.iova.IovaRange.{IovaRange}
use Rattle.vm_iotlb.specs.declared.permissions.Permissions.{Permissions}
use Rattle.vm_memory.specs.Memory.{Memory}
use Rattle.fs_queue.specs.Chain.{Descriptor}
use Rattle.fs_queue.specs.Queue.{Queue, with_stop}
use Rattle.fs_queue.specs.Taking.{Refuses, addresses_of, after_refusal, readable, stops_queue, total_len, writable}
use Rattle.fs_queue.specs.WalkingView.{at_position}
use Rattle.fs_queue.specs.declared.fault.QueueError.{QueueError}
use Rattle.fs_queue.specs.declared.fault.QueueError.TheVariants as stop
use Rattle.fs_regions.specs.Places.{Mapped, places_in}
use Rattle.fs_regions.specs.Walks.{ComesBy, IsCourseStep, IsLongestStretch, IsThere, IsWalkAt, Loaded, OffersBy, asked_len, nothing}
use Rattle.fs_regions.specs.Walks.{queue_of}
use Rattle.fs_regions.specs.declared.course.Course.{Course}
use Rattle.fs_regions.specs.declared.step.CourseStep as comes
use Rattle.fs_regions.specs.declared.step.CourseStep.TheVariants as step
use Rattle.live_machine.specs.Several.{LiveQueue, event_miss_of}
use Rattle.live_machine.specs.Several as several
use Rattle.live_machine.specs.Live.{EndsPopIn, LoadsAreMapped, after_pop, new_chain, pop_refusal, with_live}
use Rattle.live_machine.proofs.MappedLoads.{more_mapped, none_mapped}
use Rattle.live_machine.proofs.Queues.{none_some, there_same}
use Rattle.live_machine.proofs.Refusals.{refusal_stops}
use Rattle.fs_chain.specs.Events.{event_fault, event_miss}
use Rattle.fs_chain.specs.Holds.{BeginsAPop, ContinuesAPop, EndsBy, HoldsPopped, HoldsPop, IsOutAs, IsRunQueue, KeepsReplyOf, RunState, Pop}
use Rattle.fs_chain.specs.Holds.{MissesUnless, PopIs, IsHeldIn, IsPopOf, PopContinues, PopsBy, RefusedBy, live_of, pop_of, queue_with}
use Rattle.fs_chain.specs.Loads.{ProceedsSo, whole}
use Rattle.fs_chain.specs.Orders.{begin_error, give_error, load_len, walk_error}
use Rattle.fs_chain.specs.Queues.{may_take, pop_id_of}
use Rattle.fs_chain.specs.Rings.{ring_of}
use Rattle.fs_chain.specs.Walks.{BeginsOn, BeginsPop, BeginsUnless, BeginsWhere, ContinuesUnless, KeepsStep, LacksEvents, WalksFrom}
use Rattle.fs_chain.specs.Walks.{course_of, faulty_out, no_reply, out_of, outcome_of}
use Rattle.fs_chain.specs.Pops.{AddsSo}
use Rattle.fs_chain.specs.declared.chain_handle.ChainHandle.{ChainHandle}
use Rattle.fs_chain.specs.declared.loads.LoadOutcome as outcome
use Rattle.fs_chain.specs.declared.loads.LoadOutcome.TheVariants as outcomes
use Rattle.fs_chain.specs.declared.popping.PopOutcome as walked
use Rattle.fs_chain.specs.declared.popping.PopOutcome.TheVariants as shows
use Rattle.fs_chain.specs.declared.queue.QueueState.{QueueState}
use Rattle.fs_chain.specs.declared.state.ChainState as state
use Rattle.fs_chain.specs.declared.state.ChainState.TheVariants as at
use Rattle.fs_chain.specs.declared.state.InFlight.{InFlight}
use Rattle.fs_chain.specs.declared.state.PopId.{PopId}
use Rattle.fs_chain.proofs.HoldsQueues.{begun_room, proceeds_at, same_pop}
use Rattle.fs_chain.proofs.Lengths.{fits_limit}

-- ---- refusals

stopped_by : (q after : QueueState) (e : QueueError) → stops_queue e ≡ true → after ≡ record q { stopped = Some e }
    → Some (record (live_of q) { queue = after_refusal (live_of q).queue e }) ≡ Some (live_of after)
stopped_by q after e stops left =
    ap (λ (b : Bool). Some (record (live_of q) { queue = if b then with_stop (live_of q).queue else (live_of q).queue })) stops
    ∙ ap (λ (k : QueueState). Some (live_of k)) (sym left)

-- the queue is stopped
refused_stopped : (s : RunState) (i : ℕ) (q q' : QueueState) (p : Pop) (new : ChainHandle) (result : walked.PopOutcome) (why : QueueError)
    → IsRunQueue s i q → may_take q ≡ true → q.stopped ≡ Some why → result ≡ shows.Refused stop.Stopped → new.state ≡ at.Free → q' ≡ q
    → PopIs s i q q' p new result
refused_stopped s i q q' p new result why there may stopped outcome_is free left =
    let v : LiveQueue = record (live_of q) { queue = after_refusal (live_of q).queue stop.Stopped } in
    let declined : pop_refusal s.places (live_of q) ≡ Some stop.Stopped =
    ap (λ (x : Option QueueError). if is_some x then Some stop.Stopped else event_fault s.places q) stopped in
    let by : RefusedBy s i q q' new (shows.Refused stop.Stopped) = record {
      error = stop.Stopped;
      outcome_is = refl;
      after = with_live s i v;
      happens = record {
        w = live_of q;
        there = there;
        room = may;
        why = declined;
        no_miss = λ proceeds. absurd (true≢false (sym (ap (λ (x : Option QueueError). is_some x) stopped) ∙ proceeds));
        state = refl;
      };
      queue = there_same s.queues i i (λ _. v) (live_of q) refl there ∙ ap (λ (k : QueueState). Some (live_of k)) (sym left);
      free = free;
    } in
    subst (λ (t : walked.PopOutcome). PopIs s i q q' p new t) (sym outcome_is) (inr by)

-- its event index isn't mapped
lacks_stop : (index used avail : Bool) (e : QueueError)
    → (if not index then None else if not used then Some stop.AvailFlagsUnreachable else if not avail then Some stop.UsedUnreachable
    else None) ≡ Some e → stops_queue e ≡ true
lacks_stop true false avail e is = ap (λ (x : Option QueueError). stops_queue (unwrap_or x stop.UsedUnreachable)) (sym is)
lacks_stop true true false e is = ap (λ (x : Option QueueError). stops_queue (unwrap_or x stop.UsedUnreachable)) (sym is)
lacks_stop _ _ _ e is = absurd (none_some e is)

declined_by : (s : RunState) (q : QueueState) (e : QueueError) (old : ChainHandle) → s.places ≡ places_in old.regions
    → q.stopped ≡ None → event_fault (places_in old.regions) q ≡ Some e → pop_refusal s.places (live_of q) ≡ Some e
declined_by s q e old places proceeds fault =
    ap (λ (x : Option QueueError). if is_some x then Some stop.Stopped else event_fault s.places q) proceeds
    ∙ ap (λ (k : Memory). event_fault k q) places ∙ fault

refused_event : (s : RunState) (i : ℕ) (q q' : QueueState) (p : Pop) (old new : ChainHandle) (result : walked.PopOutcome) (e : QueueError)
    → IsRunQueue s i q → may_take q ≡ true → q.stopped ≡ None → s.places ≡ places_in old.regions
    → event_fault (places_in old.regions) q ≡ Some e → event_miss (places_in old.regions) q ≡ None
    → result ≡ shows.Refused e → new.state ≡ at.Free → q' ≡ record q { stopped = Some e }
    → PopIs s i q q' p new result
refused_event s i q q' p old new result e there may proceeds places fault none outcome_is free left =
    let m = places_in old.regions in
    let v : LiveQueue = record (live_of q) { queue = after_refusal (live_of q).queue e } in
    let stops = lacks_stop _ _ _ e fault in
    let declined = declined_by s q e old places proceeds fault in
    let by : RefusedBy s i q q' new (shows.Refused e) = record {
      error = e;
      outcome_is = refl;
      after = with_live s i v;
      happens = record {
        w = live_of q;
        there = there;
        room = may;
        why = declined;
        no_miss = λ proceeds. ap (λ (k : Memory). event_miss_of k (live_of q)) places ∙ none;
        state = refl;
      };
      queue = there_same s.queues i i (λ _. v) (live_of q) refl there ∙ stopped_by q q' e stops left;
      free = free;
    } in
    subst (λ (t : walked.PopOutcome). PopIs s i q q' p new t) (sym outcome_is) (inr by)

-- ---- where a call came to

low : 0 ≤ 2 ^ 31
low = omega arith

-- a pop of a queue in a run, and the step that it came to
record PopCameTo (s : RunState) (i : ℕ) (q q' : QueueState) (course : Course) (pop_id : PopId) (p : Pop) (came : comes.CourseStep)
    (new : ChainHandle) (result : walked.PopOutcome) : Type 0 where
  there : IsRunQueue s i q
  places : s.places ≡ places_in new.regions
  limit : s.limit ≡ course.limit
  small : s.limit ≤ 2 ^ 31
  laid : (live_of q).queue ≡ queue_of course
  room : may_take q ≡ true
  index : IsPopOf q p
  events : pop_refusal (places_in new.regions) (queue_with (queue_of course) p) ≡ None
  ring : pop_id.ring ≡ ring_of (places_in new.regions) course.layout.used
  keeps : KeepsStep course pop_id came new new q q' result
  is : IsCourseStep (places_in new.regions) course.limit (queue_of course) p.loaded new.descriptors.items came
  mapped : LoadsAreMapped (places_in new.regions) (queue_of course) p.loaded

-- how the machine's pop ends, and its queue
abbrev EndsHere : (s : RunState) (i : ℕ) (q q' : QueueState) (loaded : Loaded) (new : ChainHandle) → comes.CourseStep → Type 0
EndsHere s i q q' loaded new came =
    let ds = new.descriptors.items in
    EndsPopIn s i (live_of q) loaded ds came (after_pop s i (live_of q) loaded ds came)
    × IsRunQueue (after_pop s i (live_of q) loaded ds came) i q'
    × HoldsPopped s i (live_of q) loaded came new

-- used_event and avail_event are mapped, in the run
events_there : (s : RunState) (i : ℕ) (q q' : QueueState) (course : Course) (pop_id : PopId) (p : Pop) (came : comes.CourseStep)
    (new : ChainHandle) (result : walked.PopOutcome) → PopCameTo s i q q' course pop_id p came new result
    → pop_refusal s.places (live_of q) ≡ None
events_there s i q q' course pop_id p came new result c =
    let m = places_in new.regions in
    let f : Memory → Queue → Pop → Option QueueError = λ m k r. pop_refusal m (queue_with k r) in
    let mine : Pop = pop_of q p.loaded in
    ap (λ (k : Memory). f k (live_of q).queue mine) c.places ∙ ap (λ (k : Queue). f m k mine) c.laid
    ∙ ap (λ (r : Pop). f m (queue_of course) r) (same_pop q p c.index) ∙ c.events

-- the event of a pop that ended
ends_by : (s : RunState) (i : ℕ) (q q' : QueueState) (course : Course) (pop_id : PopId) (p : Pop) (came : comes.CourseStep)
    (new : ChainHandle) (result : walked.PopOutcome) (c : PopCameTo s i q q' course pop_id p came new result)
    → EndsHere s i q q' p.loaded new came → EndsBy s i q q' p.loaded new (outcome_of new.descriptors.items came)
ends_by s i q q' course pop_id p came new result c ends =
    let m = places_in new.regions in
    let proceeds = events_there s i q q' course pop_id p came new result c in
    let mapped : LoadsAreMapped s.places (live_of q).queue p.loaded =
    subst (λ (k : Memory). LoadsAreMapped k (live_of q).queue p.loaded) (sym c.places)
    (subst (λ (k : Queue). LoadsAreMapped m k p.loaded) (sym c.laid) c.mapped) in
    record {
      came = came;
      outcome_is = refl;
      happens = record { w = live_of q; there = c.there; room = c.room; proceeds = proceeds; mapped = mapped; ends = ends.0 };
      queue = ends.1;
      has = ends.2;
    }

-- its step, in the run
run_step : (s : RunState) (i : ℕ) (q q' : QueueState) (course : Course) (pop_id : PopId) (p : Pop) (came : comes.CourseStep)
    (new : ChainHandle) (result : walked.PopOutcome) → PopCameTo s i q q' course pop_id p came new result
    → IsCourseStep s.places s.limit (live_of q).queue p.loaded new.descriptors.items came
run_step s i q q' course pop_id p came new result c =
    let ds = new.descriptors.items in
    subst (λ (k : Memory). IsCourseStep k s.limit (live_of q).queue p.loaded ds came) (sym c.places)
    (subst (λ (n : ℕ). IsCourseStep (places_in new.regions) n (live_of q).queue p.loaded ds came) (sym c.limit)
    (subst (λ (k : Queue). IsCourseStep (places_in new.regions) course.limit k p.loaded ds came) (sym c.laid) c.is))

-- where the queue's rings are, in the run
ring_there : (s : RunState) (i : ℕ) (q q' : QueueState) (course : Course) (pop_id : PopId) (p : Pop) (came : comes.CourseStep)
    (new : ChainHandle) (result : walked.PopOutcome) → PopCameTo s i q q' course pop_id p came new result
    → pop_id.ring ≡ ring_of s.places (live_of q).queue.used
ring_there s i q q' course pop_id p came new result c =
    c.ring ∙ ap (λ (n : ℕ). ring_of (places_in new.regions) n) (sym (ap (λ (k : Queue). k.used) c.laid))
    ∙ ap (λ (m : Memory). ring_of m (live_of q).queue.used) (sym c.places)

comes_to : (s : RunState) (i : ℕ) (q q' : QueueState) (course : Course) (pop_id : PopId) (p : Pop) (came : comes.CourseStep)
    (new : ChainHandle) (result : walked.PopOutcome) → PopCameTo s i q q' course pop_id p came new result
    → PopIs s i q q' p new (outcome_of new.descriptors.items came)
comes_to s i q q' course pop_id p (step.Load walk) new result c = (
  record {
    course = course;
    pop_id = pop_id;
    walk = walk;
    state = c.keeps.1;
    ring = c.ring;
    limit_is = sym c.limit;
    comes = c.is.0;
    there = c.is.1;
    longest = c.is.2;
    mapped = c.mapped;
    events = c.events;
  },
  c.keeps.2,
)
comes_to s i q q' course pop_id p (step.Missing range access) new result c =
    let came : comes.CourseStep = step.Missing range access in (
      c.keeps.1,
      c.keeps.2,
      subst (λ (fault : Option QueueError). MissesUnless fault s (live_of q) p.loaded new.descriptors.items range access)
          (sym (events_there s i q q' course pop_id p came new result c)) (run_step s i q q' course pop_id p came new result c),
    )
comes_to s i q q' course pop_id p step.Idle new result c =
    let here : EndsHere s i q q' p.loaded new step.Idle = (
      (run_step s i q q' course pop_id p step.Idle new result c, refl),
      c.there ∙ ap (λ (k : QueueState). Some (live_of k)) (sym c.keeps.2),
      c.keeps.1,
    ) in inl (ends_by s i q q' course pop_id p step.Idle new result c here)
comes_to s i q q' course pop_id p (step.Refused e) new result c =
    let by = run_step s i q q' course pop_id p (step.Refused e) new result c in
    let v : LiveQueue = record (live_of q) { queue = after_refusal (live_of q).queue e } in
    let stops = refusal_stops s.places s.limit course p.loaded e
    (subst (λ (k : Queue). OffersBy s.places s.limit k p.loaded [] (Refuses e)) c.laid by.0) in
    let here : EndsHere s i q q' p.loaded new (step.Refused e) = (
      (by.0, refl, by.1),
      there_same s.queues i i (λ _. v) (live_of q) refl c.there ∙ stopped_by q q' e stops c.keeps.2,
      c.keeps.1,
    ) in inl (ends_by s i q q' course pop_id p (step.Refused e) new result c here)
comes_to s i q q' course pop_id p (step.Chain head None) new result c =
    let ds = new.descriptors.items in
    let by = run_step s i q q' course pop_id p (step.Chain head None) new result c in
    let chain = new_chain s i (live_of q) p.loaded ds head None in
    let fits = fits_limit s.places s.limit (live_of q).queue p.loaded ds head c.small by.0.1 in
    let is_out : IsOutAs chain (out_of course pop_id head ds) =
    record {
      taken = c.laid;
      ring = ring_there s i q q' course pop_id p (step.Chain head None) new result c;
      head = refl;
      request_len = fits.0;
      room_len = fits.1;
      small = fits.2;
    } in
    let here : EndsHere s i q q' p.loaded new (step.Chain head None) = (
      (by.0, refl, by.1),
      there_same s.queues i i (λ _. several.took (live_of q)) (live_of q) refl c.there
          ∙ ap (λ (k : QueueState). Some (live_of k)) (sym c.keeps.2),
      subst (λ (st : state.ChainState). IsHeldIn s.page_size chain chain.phase st new.session) (sym c.keeps.1) is_out,
    ) in inl (ends_by s i q q' course pop_id p (step.Chain head None) new result c here)
comes_to s i q q' course pop_id p (step.Chain head (Some fault)) new result c =
    let ds = new.descriptors.items in
    let by = run_step s i q q' course pop_id p (step.Chain head (Some fault)) new result c in
    let chain = new_chain s i (live_of q) p.loaded ds head (Some fault) in
    let out : InFlight = faulty_out course pop_id head in
    let is_out : IsOutAs chain out = record {
      taken = c.laid;
      ring = ring_there s i q q' course pop_id p (step.Chain head (Some fault)) new result c;
      head = refl;
      request_len = sym (ap (λ (l : List Descriptor). total_len (readable l)) c.keeps.3);
      room_len = ap (λ (l : List Descriptor). length (addresses_of (writable l))) c.keeps.3;
      small = low;
    } in
    let keeps : KeepsReplyOf [] out no_reply = record { behind = []; bytes = refl; len = refl } in
    let here : EndsHere s i q q' p.loaded new (step.Chain head (Some fault)) = (
      (by.0, refl, by.1),
      there_same s.queues i i (λ _. several.took (live_of q)) (live_of q) refl c.there
          ∙ ap (λ (k : QueueState). Some (live_of k)) (sym c.keeps.2),
      subst (λ (st : state.ChainState). IsHeldIn s.page_size chain chain.phase st new.session) (sym c.keeps.1) (is_out, keeps),
    ) in inl (ends_by s i q q' course pop_id p (step.Chain head (Some fault)) new result c here)

-- as it is told
is_outcome : (s : RunState) (i : ℕ) (q q' : QueueState) (course : Course) (pop_id : PopId) (p : Pop) (came : comes.CourseStep)
    (new : ChainHandle) (result : walked.PopOutcome) → PopCameTo s i q q' course pop_id p came new result → PopIs s i q q' p new result
is_outcome s i q q' course pop_id p came new result c =
    subst (λ (t : walked.PopOutcome). PopIs s i q q' p new t) (sym c.keeps.0) (comes_to s i q q' course pop_id p came new result c)

-- of the handle before the call, whose regions are the same
in_new : (old new : ChainHandle) (course : Course) (pop_id : PopId) (came : comes.CourseStep) (q q' : QueueState)
    (result : walked.PopOutcome)
    → KeepsStep course pop_id came old new q q' result → KeepsStep course pop_id came new new q q' result
in_new old new course pop_id came q q' result k = (k.0, k.1, k.2, k.3, (refl, refl, refl, refl))

-- ---- a pop that begins

pub begins_none : (old : ChainHandle) (q : QueueState) (bytes : List ℕ) (new : ChainHandle) (q' : QueueState) → old.state ≡ at.Free →
    ProceedsSo old q bytes outcomes.Part new q' → ⊥
begins_none old q bytes new q' free call =
    let none : load_len old.state ≡ 0 = ap load_len free in
    let few = call.1 in
    omega (arith, none, few)

begun_on : (s : RunState) (i : ℕ) (old new : ChainHandle) (q q' : QueueState) (result : walked.PopOutcome)
    → IsRunQueue s i q → s.places ≡ places_in old.regions → s.limit ≡ old.limit → s.limit ≤ 2 ^ 31 → may_take q ≡ true → q.stopped ≡ None
    → event_fault (places_in old.regions) q ≡ None
    → BeginsOn (course_of q old.limit) (pop_id_of old.regions q) old new q q' result
    → PopIs s i q q' (pop_of q nothing) new result
begun_on s i old new q q' result there places limit small may proceeds events by =
    let course = course_of q old.limit in
    let same : new.regions ≡ old.regions = by.1.4.0 in
    let R : Mapped → Type 0 = λ r. IsCourseStep (places_in r) course.limit (queue_of course) nothing new.descriptors.items by.0 in
    let E : Mapped → Type 0 = λ r. pop_refusal (places_in r) (queue_with (queue_of course) (pop_of q nothing)) ≡ None in
    is_outcome s i q q' course (pop_id_of old.regions q) (pop_of q nothing) by.0 new result
    (record {
      there = there;
      places = places ∙ sym (ap places_in same);
      limit = limit;
      small = small;
      laid = ap (λ (x : Option QueueError). record (at_position q.layout q.next_avail) { stopped = is_some x }) proceeds;
      room = may;
      index = refl;
      events = subst E (sym same) events;
      ring = ap (λ (r : Mapped). ring_of (places_in r) course.layout.used) (sym same);
      keeps = in_new old new course (pop_id_of old.regions q) by.0 q q' result by.1;
      is = subst R (sym same) by.2;
      mapped = none_mapped (places_in new.regions) (queue_of course);
    })

begun_where : (s : RunState) (i : ℕ) (old new : ChainHandle) (q q' : QueueState) (result : walked.PopOutcome) (fault : Option QueueError)
    → IsRunQueue s i q → s.places ≡ places_in old.regions → s.limit ≡ old.limit → s.limit ≤ 2 ^ 31 → may_take q ≡ true → q.stopped ≡ None
    → old.state ≡ at.Free → event_fault (places_in old.regions) q ≡ fault → BeginsWhere fault old new q q' result
    → PopIs s i q q' (pop_of q nothing) new result
begun_where s i old new q q' result None there places limit small may proceeds free is by =
    begun_on s i old new q q' result there places limit small may proceeds is by
begun_where s i old new q q' result (Some e) there places limit small may proceeds free is by =
    by_miss (event_miss (places_in old.regions) q) refl by
  where
    by_miss : (miss : Option (IovaRange × Permissions)) → event_miss (places_in old.regions) q ≡ miss →
        LacksEvents e miss old new q q' result → PopIs s i q q' (pop_of q nothing) new result
    by_miss None none lacks =
        refused_event s i q q' (pop_of q nothing) old new result e there may proceeds places is
        none
        lacks.0 (lacks.1.0.3 ∙ free) lacks.2
    by_miss (Some (range, access)) some lacks =
        let declined = declined_by s q e old places proceeds is in
        let miss : event_miss_of s.places (live_of q) ≡ Some (range, access) =
        ap (λ (k : Memory). event_miss_of k (live_of q)) places ∙ some in
        let ds = new.descriptors.items in
        let misses : MissesUnless (pop_refusal s.places (live_of q)) s (live_of q) nothing ds range access =
        subst (λ (fault : Option QueueError). MissesUnless fault s (live_of q) nothing ds range access) (sym declined)
        (miss, refl, lacks.1.1) in
        subst (λ (t : walked.PopOutcome). PopIs s i q q' (pop_of q nothing) new t) (sym lacks.0)
        (lacks.1.0.3 ∙ free, lacks.2, misses)

begun_unless : (s : RunState) (i : ℕ) (old new : ChainHandle) (q q' : QueueState) (result : walked.PopOutcome)
    (stopped : Option QueueError)
    → IsRunQueue s i q → s.places ≡ places_in old.regions → s.limit ≡ old.limit → s.limit ≤ 2 ^ 31 → may_take q ≡ true → q.stopped ≡ stopped
    → old.state ≡ at.Free → BeginsUnless stopped old new q q' result
    → PopIs s i q q' (pop_of q nothing) new result
begun_unless s i old new q q' result (Some why) there places limit small may is free by =
    refused_stopped s i q q' (pop_of q nothing) new result why there may is by.0 (by.1.3 ∙ free)
    by.2
begun_unless s i old new q q' result None there places limit small may is free by =
    begun_where s i old new q q' result (event_fault (places_in old.regions) q) there places limit small may is free refl by

begins : (old new : ChainHandle) (q q' : QueueState) (bytes : List ℕ) (result : outcome.LoadOutcome) → old.state ≡ at.Free
    → ProceedsSo old q bytes result new q' → BeginsAPop old new q q' result
unfolding BeginsAPop
begins old new q q' bytes outcomes.Part free call = begins_none old q bytes new q' free call
begins old new q q' bytes (outcomes.On result) free call = λ s i there places limit small.
    let clear : begin_error q (length (whole old bytes)) ≡ None =
    subst (λ (st : state.ChainState). walk_error st q (length (whole old bytes)) ≡ None) free call.3 in
    let by : BeginsPop old new q q' result =
    subst (λ (st : state.ChainState). WalksFrom st (whole old bytes) old new q q' result) free call.4 in
    begun_unless s i old new q q' result q.stopped there places limit small (begun_room q (length (whole old bytes)) clear) refl free by

-- ---- a pop that continues

kept_items : (w new : ChainHandle) → new.descriptors ≡ w.descriptors → w.descriptors.items ≡ new.descriptors.items
kept_items w new same = cc

on_unless : (s : RunState) (i : ℕ) (p : Pop) (bytes : List ℕ) (old new : ChainHandle) (q q' : QueueState) (result : walked.PopOutcome)
    (stopped : Option QueueError) (from : HoldsPop s.limit p old)
    → IsRunQueue s i q → s.places ≡ places_in old.regions → IsPopOf q p → s.limit ≤ 2 ^ 31 → q.stopped ≡ stopped
    → (at_position q.layout q.next_avail ≡ queue_of from.course) × (may_take q ≡ true) × (length (whole old bytes) ≡ asked_len from.walk)
    → ContinuesUnless stopped from.course from.pop_id from.walk (whole old bytes) old new q q' result
    → PopContinues s i q q' p old new bytes (outcomes.On result)
on_unless s i p bytes old new q q' result (Some why) from there places index small is finds on = (
  p.loaded,
  λ none. absurd (none_some why (sym none ∙ is)),
  refused_stopped s i q q' p new result why there finds.1 is on.0 on.1.3 on.2,
)
on_unless s i p bytes old new q q' result None from there places index small is finds on =
    let course = from.course in
    let all = whole old bytes in
    let by : ComesBy (places_in old.regions) course.limit (queue_of course) p.loaded from.walk all new.descriptors.items on.0 =
    on.2 p.loaded from.comes in
    let same : new.regions ≡ old.regions = on.1.4.0 in
    let next : Pop = record p { loaded = by.after } in
    let adds : AddsSo old.state (outcomes.On result) new.descriptors.items p.loaded all by.after =
    subst (λ (st : state.ChainState). AddsSo st (outcomes.On result) new.descriptors.items p.loaded all by.after) (sym from.state)
    (on.0, on.1.0, by.adds) in
    let mapped : LoadsAreMapped (places_in old.regions) (queue_of course) by.after =
    more_mapped (places_in old.regions) (queue_of course) p.loaded by.after old.descriptors.items from.walk all on.0 from.comes from.there
    finds.2 by.adds from.mapped in
    let M : Mapped → Type 0 = λ r. LoadsAreMapped (places_in r) (queue_of course) by.after in
    let R : Mapped → Type 0 = λ r. IsCourseStep (places_in r) course.limit (queue_of course) by.after new.descriptors.items on.0 in
    let E : Mapped → Type 0 = λ r. pop_refusal (places_in r) (queue_with (queue_of course) p) ≡ None in (
      by.after,
      λ none. adds,
      is_outcome s i q q' course from.pop_id next on.0 new result (record {
        there = there;
        places = places ∙ sym (ap places_in same);
        limit = sym from.limit_is;
        small = small;
        laid = ap (λ (x : Option QueueError). record (at_position q.layout q.next_avail) { stopped = is_some x }) is ∙ finds.0;
        room = finds.1;
        index = index;
        events = subst E (sym same) from.events;
        ring = from.ring ∙ ap (λ (r : Mapped). ring_of (places_in r) course.layout.used) (sym same);
        keeps = in_new old new course from.pop_id on.0 q q' result on.1;
        is = subst R (sym same) by.comes;
        mapped = subst M (sym same) mapped;
      }),
    )

continues : (old new : ChainHandle) (q q' : QueueState) (bytes : List ℕ) (result : outcome.LoadOutcome)
    → ProceedsSo old q bytes result new q' → ContinuesAPop old new q q' bytes result
unfolding ContinuesAPop
continues old new q q' bytes outcomes.Part call s i p from there places index small =
    let same : new.regions ≡ old.regions = call.3.0.0 in
    let C : Mapped → Type 0 = λ r. IsWalkAt (places_in r) (queue_of from.course) p.loaded new.descriptors.items from.walk in
    let T : Mapped → Type 0 = λ r. IsThere (places_in r) from.walk in
    let L : Mapped → Type 0 = λ r. IsLongestStretch (places_in r) (queue_of from.course) new.descriptors.items from.walk in
    let M : Mapped → Type 0 = λ r. LoadsAreMapped (places_in r) (queue_of from.course) p.loaded in
    let E : Mapped → Type 0 = λ r. pop_refusal (places_in r) (queue_with (queue_of from.course) p) ≡ None in
    let D : List Descriptor → Type 0 = λ ds. IsWalkAt (places_in old.regions) (queue_of from.course) p.loaded ds from.walk in
    let S : List Descriptor → Type 0 = λ ds. IsLongestStretch (places_in old.regions) (queue_of from.course) ds from.walk in (
      record {
        course = from.course;
        pop_id = from.pop_id;
        walk = from.walk;
        state = call.3.3 ∙ from.state;
        ring = from.ring ∙ ap (λ (r : Mapped). ring_of (places_in r) from.course.layout.used) (sym same);
        limit_is = from.limit_is;
        comes = subst C (sym same) (subst D (kept_items old new call.3.2) from.comes);
        there = subst T (sym same) from.there;
        longest = subst L (sym same) (subst S (kept_items old new call.3.2) from.longest);
        mapped = subst M (sym same) from.mapped;
        events = subst E (sym same) from.events;
      },
      call.5,
    )
continues old new q q' bytes (outcomes.On result) call s i p from there places index small =
    let unless : ContinuesUnless q.stopped from.course from.pop_id from.walk (whole old bytes) old new q q' result =
    subst (λ (st : state.ChainState). WalksFrom st (whole old bytes) old new q q' result) from.state call.4 in
    let clear : give_error q from.course from.pop_id (asked_len from.walk) (length (whole old bytes)) ≡ None =
    subst (λ (st : state.ChainState). walk_error st q (length (whole old bytes)) ≡ None) from.state call.3 in
    on_unless s i p bytes old new q q' result q.stopped from there places index small refl
    (proceeds_at q from.course from.pop_id (asked_len from.walk) (length (whole old bytes)) clear) unless

by_state : (st : state.ChainState) (old new : ChainHandle) (q q' : QueueState) (bytes : List ℕ) (result : outcome.LoadOutcome)
    → old.state ≡ st
    → ProceedsSo old q bytes result new q' → PopsBy st old new q q' bytes result
by_state at.Free old new q q' bytes result is call = begins old new q q' bytes result is call
by_state st old new q q' bytes result is call = continues old new q q' bytes result call

pub pops : (old new : ChainHandle) (q q' : QueueState) (bytes : List ℕ) (result : outcome.LoadOutcome)
    → ProceedsSo old q bytes result new q' → PopsBy old.state old new q q' bytes result
pops old new q q' bytes result call = by_state old.state old new q q' bytes result refl call

-- by its result
pub pops_from : (old new : ChainHandle) (q q' : QueueState) (bytes : List ℕ) (r : Result outcome.LoadOutcome ChainError)
    → IfOk r (λ result. ProceedsSo old q bytes result new q') → IfOk r (λ result. PopsBy old.state old new q q' bytes result)
pops_from old new q q' bytes (Ok result) call = pops old new q q' bytes result call
pops_from old new q q' bytes (Err e) call = tt
