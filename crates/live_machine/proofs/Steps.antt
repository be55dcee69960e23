-- A pop without a chain is a step by its loads, and a returned chain is one over a memory that has its loads.
use Rattle.std.proofs.Common.{◌≡◌, ℕ, Bool, List, [], ◌∷◌, ◌++◌, length, Option, Some, slice_get, refl, subst, sym, ap, ◌∙◌, append-nil}
use Rattle.std.specs.Prelude.{flat_map}
use Rattle.std.specs.List.{AllByRecursion}
use Rattle.vm_memory.specs.Memory.{Memory, bytes, stored_all}
use Rattle.vm_memory.proofs.Places.{stored_all-append}
use Rattle.fs_queue.specs.Chain.{Descriptor}
use Rattle.fs_queue.specs.Queue.{Queue}
use Rattle.fs_queue.specs.Returning.{Store, stores_after_reply, notifies, wants_notice, writes_of}
use Rattle.fs_queue.specs.Taking.{Offer, Refuses, after_refusal}
use Rattle.fs_queue.specs.Taking as taking
use Rattle.fs_queue.specs.declared.fault.QueueError.{QueueError}
use Rattle.fs_queue.specs.declared.fault.QueueError.TheVariants as stop
use Rattle.fs_queue.proofs.ReadLemmas.{length-bytes}
use Rattle.fs_regions.specs.declared.step.CourseStep as comes
use Rattle.fs_regions.specs.declared.step.CourseStep.TheVariants as step
use Rattle.fs_regions.specs.Walks.{Loaded, OffersBy}
use Rattle.fuse_fs.specs.Calls.{FileRun}
use Rattle.server_meanings.specs.Serving.{May}
use Rattle.plain_machine.specs.declared.error.DeviceError.TheVariants as device
use Rattle.plain_machine.specs.Step.{State, StepEnd, Idle, Refused, Exchange, Exchanged, Step, with_queue}
use Rattle.plain_machine.specs.StepBy.{ActsBy, FindFlags, StepOfBy, after_stores, reply_stores, return_acts, return_stores, stores_among}
use Rattle.live_machine.specs.Live.{InFlightChain, LiveState, LiveEvent, PushesChain, PushedWith, EndsPopIn, Happens, LoadsAreMapped}
use Rattle.live_machine.specs.Live.{calls_in, event_acts, room_of}
use Rattle.live_machine.specs.Runs.{IsBefore, IsServedPhase, after_alone}
use Rattle.live_machine.specs.Several.{LacksEventIndex, LiveQueue, returning, seen_at, wants}
use Rattle.live_machine.specs.Steps.{HasLoadsOf, IsAStepOver, IsBeforePop, IsInOrder, IsPopStep, PopIsStepBy, ReturnedBesideIsStep}
use Rattle.live_machine.specs.Steps.{ReturnedIsStep, RunBeside, StepOfPop, no_effects, pop_loads}
use Rattle.live_machine.proofs.Alone.{AllWalked, Walked, exchange_of, keeps, mapped_over, offers_over, one_walked, step_by_walk}
use Rattle.live_machine.proofs.Alone.{walked_there}
use Rattle.live_machine.proofs.Placed.{laid, laid_there}
use Rattle.live_machine.proofs.Queues.{same_some}
use Rattle.live_machine.proofs.Serial.{step_over}
use Rattle.live_machine.proofs.Within.{is_within}

-- ---- a pop without a chain

-- a refusal that is no want of memory
refused_so : {G : Type 0} (may : May G) (m : State G) (i : ℕ) (q : Queue) (e : QueueError) → (e ≡ stop.OutOfMemory → ⊥)
    → ActsBy may m i q (Refuses e) [] (Refused (device.Queue e)) no_effects (with_queue m i (after_refusal q e))
refused_so may m i q stop.OutOfMemory isnt = absurd (isnt refl)
refused_so may m i q e isnt = (refl, refl, refl, refl)

-- what is offered over the run's mappings is offered over the machine's
offered_there : {F G : Type 0} (s : LiveState F) (i : ℕ) (w : LiveQueue) (m : State G) (loaded : Loaded) (o : Offer)
    → IsBeforePop s i w m → OffersBy s.places s.limit w.queue loaded [] o → OffersBy m.memory m.limit w.queue loaded [] o
offered_there s i w m loaded o first by =
    subst (λ (k : ℕ). OffersBy m.memory k w.queue loaded [] o) (sym first.limit)
    (offers_over m.memory s.places first.places s.limit w.queue loaded [] o by)

step_of : {F G : Type 0} (may : May G) (s : LiveState F) (i : ℕ) (w : LiveQueue) (m : State G) (loaded : Loaded) (o : Offer) (end : StepEnd)
    (after : State G)
    → IsBeforePop s i w m → LoadsAreMapped s.places w.queue loaded → OffersBy m.memory m.limit w.queue loaded [] o
    → ActsBy may m i w.queue o [] end no_effects after → IsPopStep may m i w.queue loaded end after
step_of may s i w m loaded o end after first mapped by acts = record {
  lost = by.1;
  lost_are = by.2;
  ring = by.0;
  mapped = mapped_over m.memory s.places first.places w.queue loaded mapped;
  step = subst (λ (k : Option Queue). StepOfBy may m i k (pop_loads loaded by.1) [] end no_effects after) (sym first.queue) (o, by.3, acts);
}

by_result : {F G : Type 0} (may : May G) (s after : LiveState F) (i : ℕ) (w : LiveQueue) (m : State G) (loaded : Loaded)
    (ds : List Descriptor) (came : comes.CourseStep)
    → IsBeforePop s i w m → LoadsAreMapped s.places w.queue loaded → EndsPopIn s i w loaded ds came after
    → StepOfPop may m i w.queue loaded came
by_result may s after i w m loaded ds step.Idle first mapped ends =
    step_of may s i w m loaded taking.Idle Idle m first mapped (offered_there s i w m loaded taking.Idle first ends.0)
    (refl, record { same = refl; no_call = refl }, refl)
by_result may s after i w m loaded ds (step.Refused e) first mapped ends =
    let by = offered_there s i w m loaded (Refuses e) first ends.0 in
    let isnt = is_within m.memory m.limit w.queue loaded.index loaded.entry (loaded.entries ++ by.1) [] (Refuses e) by.3 in
    step_of may s i w m loaded (Refuses e) (Refused (device.Queue e)) (with_queue m i (after_refusal w.queue e)) first mapped by
    (refused_so may m i w.queue e isnt)
by_result may s after i w m loaded ds came first mapped ends = tt

pub pop_is_step_by : {F G : Type 0} (may : May F) (other : May G) → PopIsStepBy may other
pop_is_step_by {F} {G} may other s after i loaded ds came w m there h first =
    let same : h.w ≡ w = same_some h.w w (sym h.there ∙ there) in
    by_result other s after i w m loaded ds came first
    (subst (λ (k : LiveQueue). LoadsAreMapped s.places k.queue loaded) same h.mapped)
    (subst (λ (k : LiveQueue). EndsPopIn s i k loaded ds came after) same h.ends)

-- ---- the stores of a return, and the two bytes that are loaded behind them

-- the stores are those among its acts
among_return : (stores : List Store) (seen : List ℕ) → stores_among (return_acts stores seen) ≡ stores
among_return [] seen = refl
among_return (store ∷ stores) seen = ap (λ (l : List Store). store ∷ l) (among_return stores seen)

-- one store, and then others
stored_in_turn :
    (m : Memory) (store : Store) (stores : List Store) → after_stores m (store ∷ stores) ≡ after_stores (after_stores m (store ∷ [])) stores
stored_in_turn m store stores =
    stored_all-append (writes_of store) (flat_map writes_of stores) m
    ∙ ap (λ (l : List (ℕ × ℕ)). stored_all (stored_all m l) (flat_map writes_of stores)) (sym (append-nil (writes_of store)))

finds_last : (m : Memory) (q : Queue) (stores : List Store) (seen : List ℕ) → seen ≡ bytes (after_stores m stores) q.avail 2 →
    FindFlags m q (return_acts stores seen)
unfolding stored_all
finds_last m q [] seen is = (is, tt)
finds_last m q (store ∷ stores) seen is =
    finds_last (after_stores m (store ∷ [])) q stores seen (is ∙ ap (λ (k : Memory). bytes k q.avail 2) (stored_in_turn m store stores))

-- a chain that goes back at the position of its walk, to a queue of the same layout
in_order : (w : LiveQueue) (c : InFlightChain) → laid w.queue ≡ laid c.taken → w.next_used ≡ c.taken.position → IsInOrder w c
in_order w c same at =
    ap (λ (q : Queue). record q { position = w.next_used; stopped = c.taken.stopped }) same
    ∙ ap (λ (p : ℕ). record (c.taken) { position = p }) at

used_there : (w : LiveQueue) (c : InFlightChain) (head len : ℕ) → IsInOrder w c →
    stores_after_reply (returning w) head len ≡ stores_after_reply c.taken head len
used_there w c head len order = ap (λ (q : Queue). stores_after_reply q head len) order

-- ---- a chain over a memory

by_flags_noticed : (w : LiveQueue) (m : Memory) (avail : ℕ) (seen : List ℕ) (notice : Bool)
    → notice ≡ wants w seen → w.queue.avail ≡ avail → LacksEventIndex w → seen ≡ bytes m (seen_at w) 2
    → notice ≡ notifies (bytes m avail 2)
by_flags_noticed w m avail seen notice notice_is same no_event found =
    let at : seen_at w ≡ avail = (rw no_event refl) ∙ same in
    let flags : wants w seen ≡ notifies seen = rw no_event refl in
    notice_is ∙ flags ∙ ap notifies (found ∙ ap (λ (a : ℕ). bytes m a 2) at)

-- a chain that was walked and goes back is a step over a memory that has its loads
over_walk : {F G : Type 0} (may : May F) (other : May G) (now after : LiveState F) (c : InFlightChain) (x : Exchange) (notice : Bool)
    (last : ℕ) (used : List Store) (seen : List ℕ) (m : State G) (files : G) (w : LiveQueue)
    → Walked now.limit c → Happens may now (PushesChain c x notice last used seen) after → IsServedPhase c.phase
    → slice_get now.queues c.queue ≡ Some w → IsBefore now c m → FileRun other m.files (calls_in c.phase) files
    → IsInOrder w c → HasLoadsOf m.memory c last
    → IsAStepOver other m files w c x (PushesChain c x notice last used seen) seen notice
over_walk {F} {G} may other now after c x notice last used seen m files w walked h served there first calls order has =
    let so : Walked m.limit c = subst (λ (k : ℕ). Walked k c) (sym first.limit) walked in
    let proceeds : PushedWith m.page_size c c.phase x = subst (λ (k : ℕ). PushedWith k c c.phase x) (sym first.page_size) h.proceeds in
    let stores = return_stores c.taken c.head (room_of c) x.reply last in
    let left = after_stores m.memory stores in
    let flags = bytes left c.taken.avail 2 in
    let made = exchange_of other m files c.places c.queue c.taken c.loaded c.descriptors c.head c.phase x last flags first.places served so
    first.options proceeds (length-bytes left c.taken.avail 2) calls in
    let stepped = step_over other m files c x last flags m.memory made refl first.queue has.loads
    (finds_last m.memory c.taken stores flags refl) has.apart in
    let P : List Store → Type 0 = λ ss. Step other m c.queue (calls_in c.phase)
    (Exchanged x (wants_notice (after_stores m.memory ss) c.taken))
    (record (after_alone m c files) { memory = after_stores m.memory ss }) in
    let by_stores : P stores =
    subst (λ (ss : List Store). Step other m c.queue (calls_in c.phase) (Exchanged x (notifies flags))
    (record (after_alone m c files) { memory = after_stores m.memory ss })) (among_return stores flags) stepped in
    let same : h.w ≡ w = same_some h.w w (sym h.there ∙ there) in
    let used_is : used ≡ stores_after_reply c.taken c.head (length x.reply) =
    h.used_is ∙ ap (λ (k : LiveQueue). stores_after_reply (returning k) c.head (length x.reply)) same
    ∙ used_there w c c.head (length x.reply) order in
    let mine : stores_among (event_acts (PushesChain c x notice last used seen)) ≡ stores =
    among_return (reply_stores (room_of c) x.reply last ++ used) seen
    ∙ ap (λ (u : List Store). reply_stores (room_of c) x.reply last ++ u) used_is in
    let event = PushesChain c x notice last used seen in
    let there_now = after_stores m.memory (stores_among (event_acts event)) in
    record {
      step = subst P (sym mine) by_stores;
      by_flags = λ no_event found. by_flags_noticed w there_now c.taken.avail seen notice
          (h.reported ∙ ap (λ (k : LiveQueue). wants k seen) same) (ap (λ (q : Queue). q.avail) order) no_event found;
    }

pub returned_is_step : {F G : Type 0} (may : May F) (other : May G) → ReturnedIsStep may other
returned_is_step may other s now after es c x notice last used seen m files w none run h served there at first calls has =
    over_walk may other now after c x notice last used seen m files w (walked_there may s now es c h.before h.behind none run h.out) h
    served there first calls (in_order w c (laid_there may s now es c h.before h.behind w none run h.out there) at) has

-- ---- beside handles that aren't of the run

beside_walked : {F : Type 0} (may : May F) (s after : LiveState F) (es : List LiveEvent) → RunBeside may s es after → AllWalked s →
    AllWalked after
beside_walked {F} may s after [] run all = subst (λ (k : LiveState F). AllWalked k) (sym run) all
beside_walked may s after (e ∷ es) run all =
    beside_walked may run.1 after es run.3 (keeps may (record s { queues = run.0 }) run.1 e run.2 all)

pub returned_beside_is_step : {F G : Type 0} (may : May F) (other : May G) → ReturnedBesideIsStep may other
returned_beside_is_step {F} may other s now after es queues c x notice last used seen m files none run h served first calls =
    let start : AllWalked s = subst (AllByRecursion (Walked s.limit)) (sym none) tt in
    let then : LiveState F = record now { queues = queues } in
    let walked = (one_walked now h.before h.behind c h.out (beside_walked may s now es run start)).1 in
    let same : IsBefore then c m =
    record { places = first.places; limit = first.limit; page_size = first.page_size; options = first.options; queue = first.queue } in
    let step = step_by_walk may other then after c x notice last used seen m files walked h served same calls in (
      step.0,
      step.1,
      step.2,
      λ order has.
          over_walk may other then after c x notice last used seen m files step.0 walked h served step.1 same calls order has,
    )
