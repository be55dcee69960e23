-- The chains that a driver's calls pop, by what the calls returned.
use Rattle.std.proofs.Common.{inl, inr, ◌≡◌, ◌∙◌, ◌+◌, ◌==◌, ◌++◌, ℕ, Bool, true, false, List, [], ◌∷◌, length, Option, Some, None}
use Rattle.std.proofs.Common.{arith, if◌then◌else◌, refl, slice_get, subst, sym, ap}
use Rattle.std.specs.Prelude.{Ok, Err, map}
use Rattle.vm_memory.specs.Memory.{Memory}
use Rattle.fs_queue.specs.Returning.{Store}
use Rattle.fs_regions.specs.Places.{places_in, untranslated}
use Rattle.fs_regions.specs.Walks.{Loaded}
use Rattle.fs_regions.specs.declared.step.CourseStep as comes
use Rattle.fs_regions.specs.declared.step.CourseStep.TheVariants as step
use Rattle.fuse_fs.specs.Calls.{FileAnswer, FileCall}
use Rattle.fuse_fs.specs.declared.answers.Context.{Context}
use Rattle.fuse_values.specs.Answers.{answer_of}
use Rattle.plain_machine.specs.Step.{Calls}
use Rattle.server_phases.specs.declared.session.Session.{Session}
use Rattle.live_machine.specs.Live.{DecodesRequest, EndsPop, GivesUpChain, InFlightChain, LiveEvent, LiveRun, MovesDevice}
use Rattle.live_machine.specs.Live.{PushesChain, ReceivesAnswer, Remaps, SetsOptions, StoresNotification, asked_chain}
use Rattle.live_machine.specs.Runs.{events_on}
use Rattle.live_machine.specs.Several.{DropsLast, InFlightId, LiveQueue, PopsOne, PushesOne, QueueEvent}
use Rattle.live_machine.proofs.Moved.{joined}
use Rattle.live_machine.proofs.Queues.{same_some}
use Rattle.fs_chain.specs.Holds.{any_files, live_of}
use Rattle.fs_chain.specs.declared.decoding.Decoded.{Decoded}
use Rattle.fs_chain.specs.declared.decoding.Decoded.TheVariants as asks
use Rattle.fs_chain.specs.declared.loads.LoadOutcome.TheVariants as outcomes
use Rattle.fs_chain.specs.declared.popping.PopOutcome as walked
use Rattle.fs_chain.specs.declared.popping.PopOutcome.TheVariants as shows
use Rattle.fs_chain.specs.declared.notifications.NotificationStore.{NotificationStore}
use Rattle.fs_chain.specs.Orders.{is_out}
use Rattle.fs_driven.specs.Drivers.{Driver, Driven, In, own}
use Rattle.fs_driven.specs.Entries.{answers_of}
use Rattle.fs_driven.specs.Moving.{moving, resetting}
use Rattle.fs_driven.specs.Events.{AbandonEvents, Called, DecodeEvents, GiveUpEvents, PopEvents, EventsOf}
use Rattle.fs_driven.specs.Events.{EventsOfAll, EventsOfCall, EventsOfQueue, Transition, Unseen, data_of, forgetting, storing, transition}
use Rattle.fs_driven.specs.Served.{DriverServes, is_chain, is_of, is_push, pops_on, pushes_on, returned_on}
use Rattle.fs_driven.specs.declared.commands.DriverCall.{DriverCall}
use Rattle.fs_driven.specs.declared.commands.DriverCall.TheVariants as does
use Rattle.fs_driven.specs.declared.commands.Results.{Results}
use Rattle.fs_driven.specs.declared.commands.Results.TheVariants as gives
use Rattle.fs_driven.proofs.Served.{each_is_served, taken_all, taken_in}

abbrev chained : comes.CourseStep → ℕ
chained (step.Chain head fault) = 1
chained _ = 0

-- ---- events that neither pop nor push

module _ (i : ℕ) where
  abbrev Quiet : List LiveEvent → Type 0
  Quiet es = (pops_on chained i es ≡ 0) × (pushes_on i es ≡ 0)

  quiet_by : (es fs : List LiveEvent) → es ≡ fs → Quiet fs → Quiet es
  quiet_by es fs same quiet = subst (λ (l : List LiveEvent). Quiet l) (sym same) quiet

  none_quiet : (es : List LiveEvent) → es ≡ [] → Quiet es
  none_quiet es none = quiet_by es [] none (refl, refl)

  setting_quiet : (b : Bool) (options : ℕ) (c : InFlightChain) (request : List ℕ) (calls : List FileCall)
      → Quiet ((if b then [] else SetsOptions options ∷ []) ++ DecodesRequest c request calls ∷ [])
  setting_quiet true options c request calls = (refl, refl)
  setting_quiet false options c request calls = (refl, refl)

  decode_quiet : (t : Transition) (session : Session) (request : List ℕ) (result : Decoded) (es : List LiveEvent)
      → DecodeEvents t session request result es → Quiet es
  decode_quiet t session request (asks.More n) es r = none_quiet es r
  decode_quiet t session request _ es r = quiet_by es _ r.2 (setting_quiet _ session.options.0 r.0 request _)

  forgetting_quiet : (c c' : InFlightChain) (call : FileCall) (answer : FileAnswer) (owed : Option (Context × ℕ))
      → Quiet (ReceivesAnswer c call answer ∷ forgetting c' owed)
  forgetting_quiet c c' call answer None = (refl, refl)
  forgetting_quiet c c' call answer (Some node) = (refl, refl)

  answers_quiet : (calls earlier : Calls) (c : InFlightChain) (request : List ℕ) (options : ℕ)
      → Quiet (answers_of c request options earlier calls)
  answers_quiet [] earlier c request options = (refl, refl)
  answers_quiet (one ∷ calls) earlier c request options = answers_quiet calls (earlier ++ one ∷ []) c request options

  answer_quiet : (c : InFlightChain) (call : FileCall) (given : FileAnswer) (request : List ℕ) (options : ℕ)
      (owed : Option (Context × ℕ)) (es : List LiveEvent)
      → es ≡ ReceivesAnswer c call given ∷ forgetting (asked_chain c request options ((call, given) ∷ [])) owed → Quiet es
  answer_quiet c call given request options owed es is =
      quiet_by es _ is (forgetting_quiet c (asked_chain c request options ((call, given) ∷ [])) call given owed)

  gathered_quiet : (calls : Calls) (c : InFlightChain) (request : List ℕ) (options : ℕ) (es : List LiveEvent)
      → es ≡ answers_of c request options [] calls → Quiet es
  gathered_quiet calls c request options es is = quiet_by es _ is (answers_quiet calls [] c request options)

  give_up_quiet : (t : Transition) (b : Bool) (es : List LiveEvent) → GiveUpEvents t b es → Quiet es
  give_up_quiet t false es r = none_quiet es r
  give_up_quiet t true es r = quiet_by es _ r.2 (refl, refl)

  abandon_quiet : (t : Transition) (b : Bool) (es : List LiveEvent) → AbandonEvents t b es → Quiet es
  abandon_quiet t false es r = none_quiet es r
  abandon_quiet t true es r = quiet_by es _ r.2 (refl, refl)

  stored_quiet : (b : Bool) (j : ℕ) (store : Store) → Quiet (if b then StoresNotification j store ∷ [] else [])
  stored_quiet true j store = (refl, refl)
  stored_quiet false j store = (refl, refl)

  storing_quiet : (j : ℕ) (m : Memory) (store : Option NotificationStore) → Quiet (storing j m store)
  storing_quiet j m None = (refl, refl)
  storing_quiet j m (Some store) = stored_quiet _ j _

  resetting_quiet : (j : ℕ) (vs : List LiveQueue) (m : Memory) → Quiet (resetting j vs ++ Remaps m ∷ [])
  resetting_quiet j [] m = (refl, refl)
  resetting_quiet j (v ∷ vs) m = resetting_quiet _ vs m

  moved_quiet : (b : Bool) (vs : List LiveQueue) (m : Memory) → Quiet (if b then MovesDevice m vs ∷ [] else resetting 0 vs ++ Remaps m ∷ [])
  moved_quiet true vs m = (refl, refl)
  moved_quiet false vs m = resetting_quiet 0 vs m

  moving_quiet : (queues vs : List LiveQueue) (m : Memory) → Quiet (moving queues vs m)
  moving_quiet queues vs m = moved_quiet (length queues == length vs) vs m

  -- ---- a call

  abbrev Counted : Bool → Results → List LiveEvent → Type 0
  Counted b returned es =
      (pops_on chained i es ≡ (if b then is_chain returned else 0)) × (pushes_on i es ≡ (if b then is_push returned else 0))

  same_if : (b : Bool) (n : ℕ) → n ≡ (if b then n else n)
  same_if true n = refl
  same_if false n = refl

  one_more : (b : Bool) (n : ℕ) → (if b then n else 0) + 0 ≡ (if b then n else 0)
  one_more true n = omega arith
  one_more false n = omega arith

  -- a call that returned neither
  quiet_counted : (b : Bool) (returned : Results) (es : List LiveEvent) → is_chain returned ≡ 0 → is_push returned ≡ 0 → Quiet es →
      Counted b returned es
  quiet_counted b returned es no_chain no_push quiet = (
    quiet.0 ∙ same_if b 0 ∙ ap (λ (n : ℕ). if b then n else 0) (sym no_chain),
    quiet.1 ∙ same_if b 0 ∙ ap (λ (n : ℕ). if b then n else 0) (sym no_push),
  )

  abbrev by_outcome : walked.PopOutcome → ℕ
  by_outcome (shows.Chain head request_len room_len) = 1
  by_outcome (shows.Faulty head fault) = 1
  by_outcome _ = 0

  as_popped : (result : walked.PopOutcome) → by_outcome result ≡ is_chain (gives.Popped (Ok (outcomes.On result)))
  as_popped (shows.Chain head request_len room_len) = refl
  as_popped (shows.Faulty head fault) = refl
  as_popped _ = refl

  as_ahead : (result : walked.PopOutcome) → by_outcome result ≡ is_chain (gives.PoppedAhead (Ok result))
  as_ahead (shows.Chain head request_len room_len) = refl
  as_ahead (shows.Faulty head fault) = refl
  as_ahead _ = refl

  abbrev PopCounted : Transition → walked.PopOutcome → List LiveEvent → Type 0
  PopCounted t result es = (pops_on chained i es ≡ (if t.queue == i then by_outcome result else 0)) × (pushes_on i es ≡ 0)

  pop_quiet : (t : Transition) (es : List LiveEvent) → Quiet es
      → (pops_on chained i es ≡ (if t.queue == i then 0 else 0)) × (pushes_on i es ≡ 0)
  pop_quiet t es quiet = (quiet.0 ∙ same_if (t.queue == i) 0, quiet.1)

  pop_counted : (t : Transition) (loaded : Loaded) (result : walked.PopOutcome) (es : List LiveEvent) → PopEvents t loaded result es →
      PopCounted t result es
  pop_counted t loaded (shows.Load n) es r = pop_quiet t es (none_quiet es r.0)
  pop_counted t loaded (shows.Missing range access) es r = pop_quiet t es (none_quiet es r)
  pop_counted t loaded shows.Idle es r =
      (ap (λ (l : List LiveEvent). pops_on chained i l) r ∙ one_more (t.queue == i) 0, ap (λ (l : List LiveEvent). pushes_on i l) r)
  pop_counted t loaded (shows.Refused e) es (inl r) =
      (ap (λ (l : List LiveEvent). pops_on chained i l) r ∙ one_more (t.queue == i) 0, ap (λ (l : List LiveEvent). pushes_on i l) r)
  pop_counted t loaded (shows.Refused e) es (inr r) = pop_quiet t es (quiet_by es _ r (refl, refl))
  pop_counted t loaded (shows.Chain head request_len room_len) es r =
      (ap (λ (l : List LiveEvent). pops_on chained i l) r.0 ∙ one_more (t.queue == i) 1, ap (λ (l : List LiveEvent). pushes_on i l) r.0)
  pop_counted t loaded (shows.Faulty head fault) es r =
      (ap (λ (l : List LiveEvent). pops_on chained i l) r ∙ one_more (t.queue == i) 1, ap (λ (l : List LiveEvent). pushes_on i l) r)

  popped_counted : (t : Transition) (result : walked.PopOutcome) (es : List LiveEvent) → PopCounted t result es →
      Counted (t.queue == i) (gives.Popped (Ok (outcomes.On result))) es
  popped_counted t result es p =
      (p.0 ∙ ap (λ (n : ℕ). if t.queue == i then n else 0) (as_popped result), p.1 ∙ same_if (t.queue == i) 0)

  ahead_counted : (t : Transition) (result : walked.PopOutcome) (es : List LiveEvent) → PopCounted t result es →
      Counted (t.queue == i) (gives.PoppedAhead (Ok result)) es
  ahead_counted t result es p =
      (p.0 ∙ ap (λ (n : ℕ). if t.queue == i then n else 0) (as_ahead result), p.1 ∙ same_if (t.queue == i) 0)

  -- each chain of the handle is its queue's
  abbrev OwnsByQueue : Transition → Type 0
  OwnsByQueue t = (c : InFlightChain) → In (own t.handle c) t.old.owned → c.queue ≡ t.queue

  counted : (t : Transition) (command : DriverCall) (u : Unseen) (returned : Results) (es : List LiveEvent) → OwnsByQueue t →
      EventsOf t command u returned es → Counted (t.queue == i) returned es
  counted t (does.Pop bytes) u (gives.Popped (Err e)) es mine r =
      quiet_counted (t.queue == i) (gives.Popped (Err e)) es refl refl (none_quiet es r.0)
  counted t (does.Pop bytes) u (gives.Popped (Ok outcomes.Part)) es mine r =
      quiet_counted (t.queue == i) (gives.Popped (Ok outcomes.Part)) es refl refl (none_quiet es r.0)
  counted t (does.Pop bytes) u (gives.Popped (Ok (outcomes.On result))) es mine r =
      popped_counted t result es (pop_counted t r.1 result es r.3)
  counted t (does.PopAhead ahead bytes) u (gives.PoppedAhead (Err e)) es mine r =
      quiet_counted (t.queue == i) (gives.PoppedAhead (Err e)) es refl refl (none_quiet es r.0)
  counted t (does.PopAhead ahead bytes) u (gives.PoppedAhead (Ok result)) es mine r =
      ahead_counted t result es (pop_counted t r.1 result es r.3)
  counted t (does.Decode session front) u (gives.Decoded (Err e)) es mine r =
      quiet_counted (t.queue == i) (gives.Decoded (Err e)) es refl refl (none_quiet es r.0)
  counted t (does.Decode session front) u (gives.Decoded (Ok result)) es mine r =
      quiet_counted (t.queue == i) (gives.Decoded (Ok result)) es refl refl (decode_quiet t session _ result es r.5)
  counted t (does.Decode session front) u gives.OtherSession es mine r =
      quiet_counted (t.queue == i) gives.OtherSession es refl refl (none_quiet es r.0)
  counted t (does.Answer ticket answer) u (gives.Answered (Err e)) es mine r =
      quiet_counted (t.queue == i) (gives.Answered (Err e)) es refl refl (none_quiet es r.0)
  counted t (does.Answer ticket answer) u (gives.Answered (Ok result)) es mine r =
      quiet_counted (t.queue == i) (gives.Answered (Ok result)) es refl refl
      (answer_quiet r.4 r.5 (answer_of (data_of answer u) answer) r.6 r.7 result.forget es r.10)
  counted t (does.Reply ticket len) u (gives.Replied (Err e)) es mine r =
      quiet_counted (t.queue == i) (gives.Replied (Err e)) es refl refl (none_quiet es r.0)
  counted t (does.Reply ticket len) u (gives.Replied (Ok done)) es mine r =
      quiet_counted (t.queue == i) (gives.Replied (Ok done)) es refl refl (quiet_by es _ r.5 (refl, refl))
  counted t (does.EndListing ticket) u (gives.Listed (Err e)) es mine r =
      quiet_counted (t.queue == i) (gives.Listed (Err e)) es refl refl (none_quiet es r.0)
  counted t (does.EndListing ticket) u (gives.Listed (Ok len)) es mine r =
      quiet_counted (t.queue == i) (gives.Listed (Ok len)) es refl refl (quiet_by es _ r.7 (refl, refl))
  counted t (does.FailListing ticket errno) u (gives.Listed (Err e)) es mine r =
      quiet_counted (t.queue == i) (gives.Listed (Err e)) es refl refl (none_quiet es r.0)
  counted t (does.FailListing ticket errno) u (gives.Listed (Ok len)) es mine r =
      quiet_counted (t.queue == i) (gives.Listed (Ok len)) es refl refl (quiet_by es _ r.7 (refl, refl))
  counted t (does.Gather ticket entries names failure) u (gives.Gathered added last (Err e) list) es mine r =
      quiet_counted (t.queue == i) (gives.Gathered added last (Err e) list) es refl refl (none_quiet es r.0)
  counted t (does.Gather ticket entries names failure) u (gives.Gathered added last (Ok len) list) es mine r =
      quiet_counted (t.queue == i) (gives.Gathered added last (Ok len) list) es refl refl
      (gathered_quiet _ r.5 r.6 r.7 es r.16.0)
  counted t does.Push u (gives.Began (Err e) front) es mine r =
      quiet_counted (t.queue == i) (gives.Began (Err e) front) es refl refl (none_quiet es r.0)
  counted t does.Push u (gives.Began (Ok stores) front) es mine r =
      quiet_counted (t.queue == i) (gives.Began (Ok stores) front) es refl refl (none_quiet es r.0)
  counted t (does.Pushed seen) u (gives.Ended (Err e)) es mine r =
      quiet_counted (t.queue == i) (gives.Ended (Err e)) es refl refl (none_quiet es r.0)
  counted t (does.Pushed seen) u (gives.Ended (Ok notice)) es mine r = (
    ap (λ (l : List LiveEvent). pops_on chained i l) r.7 ∙ same_if (t.queue == i) 0,
    ap (λ (l : List LiveEvent). pushes_on i l) r.7 ∙ one_more (r.0.queue == i) 1
        ∙ ap (λ (n : ℕ). if n == i then 1 else 0) (mine r.0 r.3),
  )
  counted t does.GiveUp u (gives.GaveUp (Err e)) es mine r =
      quiet_counted (t.queue == i) (gives.GaveUp (Err e)) es refl refl (none_quiet es r.0)
  counted t does.GiveUp u (gives.GaveUp (Ok done)) es mine r =
      quiet_counted (t.queue == i) (gives.GaveUp (Ok done)) es refl refl (give_up_quiet t (is_out t.was.state) es r.3)
  counted t does.Abandon u gives.Abandoned es mine r =
      quiet_counted (t.queue == i) gives.Abandoned es refl refl (abandon_quiet t (is_out t.was.state) es r.2)
  counted t (does.Reset j layout position) u gives.NotOfOne es mine r =
      quiet_counted (t.queue == i) gives.NotOfOne es refl refl (none_quiet es r.0)
  counted t (does.Notify j wanted) u gives.NotOfOne es mine r =
      quiet_counted (t.queue == i) gives.NotOfOne es refl refl (none_quiet es r.0)
  counted t (does.Remap alloc regions) u gives.NotOfOne es mine r =
      quiet_counted (t.queue == i) gives.NotOfOne es refl refl (none_quiet es r.0)
  counted t (does.Move alloc regions) u gives.NotOfOne es mine r =
      quiet_counted (t.queue == i) gives.NotOfOne es refl refl (none_quiet es r.0)
  counted t _ u _ es mine r = absurd r

  -- a call of a queue, or of all
  queue_counted : (b : Bool) (on : List ℕ) (d d' : Driver) (command : DriverCall) (returned : Results) (es : List LiveEvent)
      → EventsOfQueue on d d' command returned es → Counted b returned es
  queue_counted b on d d' (does.Reset j layout position) (gives.Reset true) es r =
      quiet_counted b (gives.Reset true) es refl refl (quiet_by es _ r.2.0 (refl, refl))
  queue_counted b on d d' (does.Reset j layout position) (gives.Reset false) es r =
      quiet_counted b (gives.Reset false) es refl refl (none_quiet es r.2.0)
  queue_counted b on d d' (does.Reset j layout position) gives.NoQueue es r =
      quiet_counted b gives.NoQueue es refl refl (none_quiet es r.1)
  queue_counted b on d d' (does.Notify j wanted) (gives.Store store) es r =
      quiet_counted b (gives.Store store) es refl refl (quiet_by es _ r.3 (storing_quiet j d.run.places store))
  queue_counted b on d d' (does.Notify j wanted) gives.NoQueue es r =
      quiet_counted b gives.NoQueue es refl refl (none_quiet es r.1)
  queue_counted b on d d' (does.Remap alloc regions) (gives.Remapped (Ok done)) es r =
      quiet_counted b (gives.Remapped (Ok done)) es refl refl (quiet_by es _ r.0 (refl, refl))
  queue_counted b on d d' (does.Remap alloc regions) (gives.Remapped (Err e)) es r =
      quiet_counted b (gives.Remapped (Err e)) es refl refl (none_quiet es r.0)
  queue_counted b on d d' (does.Move alloc regions) (gives.Moved (Ok done)) es r =
      quiet_counted b (gives.Moved (Ok done)) es refl refl (quiet_by es _ r.0
      (moving_quiet d.run.queues (map live_of d'.queues) (places_in (untranslated regions.now))))
  queue_counted b on d d' (does.Move alloc regions) (gives.Moved (Err e)) es r =
      quiet_counted b (gives.Moved (Err e)) es refl refl (none_quiet es r.0)
  queue_counted b on d d' _ _ es r = absurd r

  call_counted : (on : List ℕ) (page_size : ℕ) (d d' : Driver) (call : Called) (u : Unseen) (es : List LiveEvent)
      → Driven d.run on page_size d.queues d.handles d.owned d.pops d.pushes → EventsOfCall on page_size d d' call u es
      → Counted (is_of i (slice_get on call.place)) call.returned es
  call_counted on page_size d d' call u es all (inl (is, k)) =
      subst (λ (b : Bool). Counted b call.returned es) (sym (ap (is_of i) k.number))
      (counted (transition k.queue page_size call.place d d' k.was k.now k.before k.after) call.command u call.returned es
      (λ c has. same_some c.queue k.queue (sym (all.mine call.place k.was c k.handle has).0 ∙ k.number)) k.reports)
  call_counted on page_size d d' call u es all (inr (inl (is, missing, returned, none, same))) =
      subst (λ (r : Results). Counted (is_of i (slice_get on call.place)) r es) (sym returned)
      (quiet_counted (is_of i (slice_get on call.place)) gives.NoHandle es refl refl (none_quiet es none))
  call_counted on page_size d d' call u es all (inr (inr r)) =
      queue_counted (is_of i (slice_get on call.place)) on d d' call.command call.returned es r

  -- ---- calls one after another

  pops_append : (xs ys : List LiveEvent) → pops_on chained i (xs ++ ys) ≡ pops_on chained i xs + pops_on chained i ys
  pops_append [] ys = omega arith
  pops_append (EndsPop j loaded ds came ∷ xs) ys = let rest = pops_append xs ys in omega (arith, rest)
  pops_append (_ ∷ xs) ys = pops_append xs ys

  pushes_append : (xs ys : List LiveEvent) → pushes_on i (xs ++ ys) ≡ pushes_on i xs + pushes_on i ys
  pushes_append [] ys = omega arith
  pushes_append (PushesChain c x notice last used seen ∷ xs) ys = let rest = pushes_append xs ys in omega (arith, rest)
  pushes_append (_ ∷ xs) ys = pushes_append xs ys

  -- a driver's calls are a run, with as many pops and pushes as they returned
  record IsRunOf (on : List ℕ) (d d' : Driver) (zs : List (Called × Unseen)) (es : List LiveEvent) : Type 0 where
    run : LiveRun any_files d.run es d'.run
    pops : pops_on chained i es ≡ returned_on on is_chain i zs
    pushes : pushes_on i es ≡ returned_on on is_push i zs

  run_of : (on : List ℕ) (page_size : ℕ) (d d' : Driver) (zs : List (Called × Unseen)) (es : List LiveEvent)
      → Driven d.run on page_size d.queues d.handles d.owned d.pops d.pushes → EventsOfAll on page_size d zs es d'
      → IsRunOf on d d' zs es
  run_of on page_size d d' [] es all (none, same) = record {
    run = subst (λ (l : List LiveEvent). LiveRun any_files d.run l d'.run) (sym none) (ap (λ (k : Driver). k.run) same);
    pops = ap (λ (l : List LiveEvent). pops_on chained i l) none;
    pushes = ap (λ (l : List LiveEvent). pushes_on i l) none;
  }
  run_of on page_size d d' (z ∷ zs) es all (first, later, mid, both, leads, call, rest) =
      let one = call_counted on page_size d mid z.0 z.1 first all call in
      let more = run_of on page_size mid d' zs later leads.1 rest in
      let pops = pops_append first later in
      let pushes = pushes_append first later in
      let one_pops = one.0 in
      let one_pushes = one.1 in
      let more_pops = more.pops in
      let more_pushes = more.pushes in
      let all_pops : pops_on chained i es ≡ pops_on chained i (first ++ later) = ap (λ (l : List LiveEvent). pops_on chained i l) both in
      let all_pushes : pushes_on i es ≡ pushes_on i (first ++ later) = ap (λ (l : List LiveEvent). pushes_on i l) both in
      record {
        run = subst (λ (l : List LiveEvent). LiveRun any_files d.run l d'.run) (sym both)
            (joined any_files d.run mid.run d'.run first later leads.0 more.run);
        pops = omega (arith, pops, one_pops, more_pops, all_pops);
        pushes = omega (arith, pushes, one_pushes, more_pushes, all_pushes);
      }

  -- ---- the chains that were popped

  chain_taken : (b : Bool) (head n : ℕ) (es : List QueueEvent) → n ≡ taken_in es →
      (if b then 1 else 0) + n ≡ taken_in ((if b then PopsOne head ∷ [] else []) ++ es)
  chain_taken true head n es is = omega (arith, is)
  chain_taken false head n es is = omega (arith, is)

  no_chain : (b : Bool) (n : ℕ) → (if b then 0 else 0) + n ≡ n
  no_chain true n = omega arith
  no_chain false n = omega arith

  push_none : (b : Bool) (t : InFlightId) (len : ℕ) (used : List Store) (es : List QueueEvent) →
      taken_in es ≡ taken_in ((if b then PushesOne t len used ∷ [] else []) ++ es)
  push_none true t len used es = refl
  push_none false t len used es = refl

  drop_none : (b : Bool) (t : InFlightId) (es : List QueueEvent) → taken_in es ≡ taken_in ((if b then DropsLast t ∷ [] else []) ++ es)
  drop_none true t es = refl
  drop_none false t es = refl

  chains_taken : (es : List LiveEvent) → pops_on chained i es ≡ taken_in (events_on i es)
  chains_taken [] = refl
  chains_taken (EndsPop j loaded ds (step.Chain head fault) ∷ es) =
      chain_taken (j == i) head (pops_on chained i es) (events_on i es) (chains_taken es)
  chains_taken (EndsPop j loaded ds step.Idle ∷ es) = no_chain (j == i) (pops_on chained i es) ∙ chains_taken es
  chains_taken (EndsPop j loaded ds (step.Load walk) ∷ es) = no_chain (j == i) (pops_on chained i es) ∙ chains_taken es
  chains_taken (EndsPop j loaded ds (step.Missing range access) ∷ es) = no_chain (j == i) (pops_on chained i es) ∙ chains_taken es
  chains_taken (EndsPop j loaded ds (step.Refused e) ∷ es) = no_chain (j == i) (pops_on chained i es) ∙ chains_taken es
  chains_taken (PushesChain c x notice last used seen ∷ es) =
      chains_taken es ∙ push_none (c.queue == i) (c.taken.position, c.head) (length x.reply) used (events_on i es)
  chains_taken (GivesUpChain c ∷ es) = chains_taken es ∙ drop_none (c.queue == i) (c.taken.position, c.head) (events_on i es)
  chains_taken (_ ∷ es) = chains_taken es

pub driver_serves : DriverServes
driver_serves on page_size d d' zs es i q all reports there none anew =
    let run = run_of i on page_size d d' zs es all reports in
    let served = each_is_served any_files d.run d'.run es i (live_of q) (all.queues i q there) none anew run.run in
    let taken = taken_all any_files d.run d'.run es i run.run in
    let chains = chains_taken i es in
    let pops = run.pops in
    let pushes = run.pushes in
    omega (arith, served, taken, chains, pops, pushes)
