-- What a walk came to, by the descriptors that are kept of it.
use Rattle.std.proofs.Common.{◌≡◌, ℕ, List, Option, Some, None, refl, subst, sym}
use Rattle.vm_memory.specs.Memory.{Memory}
use Rattle.fs_queue.specs.declared.fault.QueueError.{QueueError}
use Rattle.fs_queue.specs.Chain.{Descriptor}
use Rattle.fs_queue.specs.Queue.{Queue}
use Rattle.fs_regions.specs.declared.course.Course.{Course}
use Rattle.fs_regions.specs.declared.step.CourseStep as comes
use Rattle.fs_regions.specs.declared.step.CourseStep.TheVariants as step
use Rattle.fs_regions.specs.declared.walk.QueueWalk.{QueueWalk}
use Rattle.fs_regions.specs.Places.{Mapped, places_in}
use Rattle.fs_regions.specs.Walks.{Loaded, ComesBy, IsCourseStep, IsWalkAt, queue_of}
use Rattle.fs_chain.specs.declared.queue.QueueState.{QueueState}
use Rattle.fs_chain.specs.declared.state.ChainState as state
use Rattle.fs_chain.specs.declared.state.ChainState.TheVariants as at
use Rattle.fs_chain.specs.declared.state.PopId.{PopId}
use Rattle.fs_chain.specs.declared.popping.PopOutcome as walked
use Rattle.fs_chain.specs.declared.chain_handle.ChainHandle.{ChainHandle}
use Rattle.fs_chain.specs.Events.{event_fault}
use Rattle.fs_chain.specs.Walks.{BeginsPop, BeginsUnless, BeginsWhere, ContinuesWalk, ContinuesUnless, LeavesNone, WalksFrom, WalksOn}
use Rattle.fs_chain.specs.Walks.{left_of}

-- of a faulty chain none are kept, and none are spoken of
pub comes_left : (m : Memory) (limit : ℕ) (q : Queue) (loaded : Loaded) (ds : List Descriptor) (came : comes.CourseStep)
    → IsCourseStep m limit q loaded ds came → IsCourseStep m limit q loaded (left_of came ds) came
comes_left m limit q loaded ds (step.Chain head None) h = h
comes_left m limit q loaded ds came h = h

pub by_left : (m : Memory) (limit : ℕ) (q : Queue) (loaded : Loaded) (walk : QueueWalk) (bytes : List ℕ) (ds : List Descriptor)
    (came : comes.CourseStep)
    → ComesBy m limit q loaded walk bytes ds came → ComesBy m limit q loaded walk bytes (left_of came ds) came
by_left m limit q loaded walk bytes ds came h =
    record { after = h.after; adds = h.adds; comes = comes_left m limit q h.after ds came h.comes }

pub leaves_none : (came : comes.CourseStep) (ds : List Descriptor) → LeavesNone came (left_of came ds)
leaves_none (step.Chain head (Some fault)) ds = refl
leaves_none came ds = tt

-- a walk comes to the same that was taken out of its place
pub comes_taken : (course : Course) (walk taken : QueueWalk) (bytes : List ℕ) (came : comes.CourseStep) (regions : Mapped)
    (ds left : List Descriptor) → taken ≡ walk
    → ((loaded : Loaded) → IsWalkAt (places_in regions) (queue_of course) loaded ds taken
    → ComesBy (places_in regions) course.limit (queue_of course) loaded taken bytes left came)
    → (loaded : Loaded) → IsWalkAt (places_in regions) (queue_of course) loaded ds walk
    → ComesBy (places_in regions) course.limit (queue_of course) loaded walk bytes left came
comes_taken course walk taken bytes came regions ds left same by_taken =
    let P : QueueWalk → Type 0 = λ w. (loaded : Loaded) → IsWalkAt (places_in regions) (queue_of course) loaded ds w
    → ComesBy (places_in regions) course.limit (queue_of course) loaded w bytes left came in
    subst P same by_taken

-- a handle's walk begins, unless the queue's event index has no place
pub begins_where :
    (old new : ChainHandle) (before after : QueueState) (result : walked.PopOutcome) (fault : Option QueueError) → before.stopped ≡ None
    → fault ≡ event_fault (places_in old.regions) before → BeginsWhere fault old new before after result
    → BeginsPop old new before after result
begins_where old new before after result fault proceeds is begins =
    let there = subst (λ (f : Option QueueError). BeginsWhere f old new before after result) is begins in
    subst (λ (s : Option QueueError). BeginsUnless s old new before after result) (sym proceeds) there

-- a handle's walk goes on, unless its queue was stopped
pub walks_unless : (course : Course) (pop_id : PopId) (walk : QueueWalk) (bytes : List ℕ) (old new : ChainHandle)
    (before after : QueueState) (result : walked.PopOutcome)
    → old.state ≡ at.Popping course pop_id walk → ContinuesUnless before.stopped course pop_id walk bytes old new before after result
    → WalksOn bytes old new before after result
walks_unless course pop_id walk bytes old new before after result is proceeds =
    let P : state.ChainState → Type 0 = λ s. WalksFrom s bytes old new before after result in subst P (sym is) proceeds

pub walks_on : (course : Course) (pop_id : PopId) (walk : QueueWalk) (bytes : List ℕ) (old new : ChainHandle) (before after : QueueState)
    (result : walked.PopOutcome)
    → before.stopped ≡ None → old.state ≡ at.Popping course pop_id walk → ContinuesWalk course pop_id walk bytes old new before after result
    → WalksOn bytes old new before after result
walks_on course pop_id walk bytes old new before after result free is proceeds =
    walks_unless course pop_id walk bytes old new before after result is
    (subst (λ (s : Option QueueError). ContinuesUnless s course pop_id walk bytes old new before after result) (sym free) proceeds)
