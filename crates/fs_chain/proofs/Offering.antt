-- What a pop that ended returned is what the memory offers.
use Rattle.std.proofs.Common.{◌≡◌, ℕ, List, [], Bool, false, true, Option, Some, None, refl, sym, subst, arith, if◌then◌else◌, slice_get}
use Rattle.fs_queue.specs.declared.fault.QueueError.{QueueError}
use Rattle.fs_queue.specs.declared.fault.QueueError.TheVariants as stop
use Rattle.vm_memory_core.specs.Host.{Host}
use Rattle.vm_memory.specs.Memory.{Memory}
use Rattle.fs_queue.specs.Chain.{Descriptor}
use Rattle.fs_queue.specs.Queue.{Queue}
use Rattle.fs_queue.specs.Taking.{Offer, offer}
use Rattle.fs_regions.specs.declared.step.CourseStep as comes
use Rattle.fs_regions.specs.declared.step.CourseStep.TheVariants as step
use Rattle.fs_regions.specs.Laws.{HasLoaded, OffersAreTheMemorys}
use Rattle.fs_regions.specs.Places.{Mapped, memory_over, places_in}
use Rattle.fs_regions.specs.Walks.{Loaded, OffersBy}
use Rattle.live_machine.specs.Live.{EndsPopIn, EndsPopSo, after_pop, pop_refusal}
use Rattle.live_machine.specs.Several.{LiveQueue}
use Rattle.fs_chain.specs.Holds.{IsRunQueue, RunState, live_of}
use Rattle.fs_chain.specs.Laws.{IsOfferOf, WalksAreOffers}
use Rattle.fs_chain.specs.Walks.{outcome_of}
use Rattle.fs_chain.specs.declared.popping.PopOutcome as walked
use Rattle.fs_chain.specs.declared.queue.QueueState.{QueueState}

-- ---- the queue of a pop that ended

same_live : (x : Option LiveQueue) (v w : LiveQueue) → x ≡ Some v → x ≡ Some w → w ≡ v
same_live x v w is too = cc

runs_on : (b : Bool) (x : Option QueueError) → (if b then Some stop.Stopped else x) ≡ None → b ≡ false
runs_on false x is = refl
runs_on true x is = cc

-- it is the run's
pub ended_queue : (s : RunState) (i : ℕ) (q : QueueState) (loaded : Loaded) (ds : List Descriptor) (came : comes.CourseStep)
    (after : RunState) → IsRunQueue s i q → (e : EndsPopSo s i loaded ds came after) → e.w ≡ live_of q
ended_queue s i q loaded ds came after there e = same_live (slice_get s.queues i) (live_of q) e.w there e.there

-- and isn't stopped
pub ended_runs : (s : RunState) (i : ℕ) (q : QueueState) (loaded : Loaded) (ds : List Descriptor) (came : comes.CourseStep)
    (after : RunState) → IsRunQueue s i q → EndsPopSo s i loaded ds came after → (live_of q).queue.stopped ≡ false
ended_runs s i q loaded ds came after there e =
    runs_on (live_of q).queue.stopped _ (subst (λ (v : LiveQueue). pop_refusal s.places v ≡ None)
    (ended_queue s i q loaded ds came after there e) e.proceeds)

-- ---- what it was offered

-- without a request nothing is owed of it
unasked : (m : Memory) (q : Queue) (loaded : Loaded) (request : List ℕ) → HasLoaded m q loaded request → HasLoaded m q loaded []
unasked m q loaded request has = record {
  index_is = has.index_is;
  entry_is = has.entry_is;
  entries_are = has.entries_are;
  request_is = λ head waits some. absurd (omega (arith, some));
}

-- how a pop ends is offered, as it is reported
module _ (law : OffersAreTheMemorys) (s : RunState) (i : ℕ) (w : LiveQueue) (h : Host) (regions : Mapped) (loaded : Loaded)
    (ds : List Descriptor) (runs : w.queue.stopped ≡ false) (places : s.places ≡ places_in regions) where
  is_offer : (request : List ℕ) (o : Offer) → OffersBy s.places s.limit w.queue loaded request o
      → HasLoaded (memory_over h regions) w.queue loaded request → offer (memory_over h regions) s.limit w.queue ≡ o
  is_offer request o by has =
      let here = subst (λ (m : Memory). OffersBy m s.limit w.queue loaded request o) places by in
      sym (law h regions s.limit w.queue loaded request o runs here has)

  ends_so : (came : comes.CourseStep) (request : List ℕ) (after : RunState) → EndsPopIn s i w loaded ds came after
      → HasLoaded (memory_over h regions) w.queue loaded request
      → IsOfferOf ds (outcome_of ds came) request (offer (memory_over h regions) s.limit w.queue)
  ends_so step.Idle request after ends has = is_offer [] _ ends.0 (unasked (memory_over h regions) w.queue loaded request has)
  ends_so (step.Refused e) request after ends has = is_offer [] _ ends.0 (unasked (memory_over h regions) w.queue loaded request has)
  ends_so (step.Chain head (Some fault)) request after ends has =
      is_offer [] _ ends.0 (unasked (memory_over h regions) w.queue loaded request has)
  ends_so (step.Chain head None) request after ends has = λ len. is_offer request _ (ends.0.1 request len) has
  ends_so _ request after ends has = absurd ends

pub walks_are_offers : OffersAreTheMemorys → WalksAreOffers
walks_are_offers law s i q q' loaded new result h regions request there ends places has =
    let w = live_of q in
    let ds = new.descriptors.items in
    let e = ends.happens in
    let end = after_pop s i w loaded ds ends.came in
    let runs = ended_runs s i q loaded ds ends.came end there e in
    let so : EndsPopIn s i w loaded ds ends.came end =
    subst (λ (v : LiveQueue). EndsPopIn s i v loaded ds ends.came end) (ended_queue s i q loaded ds ends.came end there e) e.ends in
    subst (λ (t : walked.PopOutcome). IsOfferOf ds t request (offer (memory_over h regions) s.limit w.queue)) (sym ends.outcome_is)
    (ends_so law s i w h regions loaded ds runs places ends.came request end so has)
