-- The result of a pop, and the state of handle and queue after it.
use Rattle.std.specs.Prelude.{◌≡◌, ℕ, ◌-◌, ◌^◌, ◌<◌, min, [], List, Bool, true, false, Option, Some, None}
use Rattle.smallvec.specs.SmallVec.{SmallVec, HasRoomFor}
use Rattle.memory_requests.specs.Refused.{RoomWasRefused}
use Rattle.vm_iotlb.specs.declared.iova.IovaRange.{IovaRange}
use Rattle.vm_iotlb.specs.declared.permissions.Permissions.{Permissions}
use Rattle.fs_queue.specs.declared.fault.QueueError.{QueueError}
use Rattle.fs_queue.specs.declared.fault.QueueError.TheVariants.{Stopped}
use Rattle.fs_queue.specs.Chain.{Descriptor}
use Rattle.fs_queue.specs.Taking.{total_len, of_direction}
use Rattle.fs_regions.specs.declared.course.Course.{Course}
use Rattle.fs_regions.specs.declared.step.CourseStep as comes
use Rattle.fs_regions.specs.declared.step.CourseStep.TheVariants as step
use Rattle.fs_regions.specs.declared.walk.QueueWalk.{QueueWalk}
use Rattle.fs_regions.specs.Places.{places_in}
use Rattle.fs_regions.specs.Walks.{Loaded, nothing, asked_len, queue_of, IsWalkAt, ComesBy, IsCourseStep}
use Rattle.fs_chain.specs.declared.queue.QueueState.{QueueState}
use Rattle.fs_chain.specs.declared.state.InFlight.{InFlight}
use Rattle.fs_chain.specs.declared.state.ChainReply.{ChainReply}
use Rattle.fs_chain.specs.declared.state.PopId.{PopId}
use Rattle.fs_chain.specs.declared.state.ChainState as state
use Rattle.fs_chain.specs.declared.state.ChainState.TheVariants as at
use Rattle.fs_chain.specs.declared.popping.PopOutcome as walked
use Rattle.fs_chain.specs.declared.popping.PopOutcome.TheVariants as reports
use Rattle.fs_chain.specs.declared.chain_handle.ChainHandle.{ChainHandle}
use Rattle.fs_chain.specs.Events.{event_fault, event_miss}
use Rattle.fs_chain.specs.Orders.{entries_asked}
use Rattle.fs_chain.specs.Queues.{pop_id_of, took}

-- how many bytes some descriptors have in one direction, at most 2^64 - 1
abbrev pub count : (write_only : Bool) → List Descriptor → ℕ
count write_only ds = min (total_len (of_direction write_only ds)) (2 ^ 64 - 1)

-- the course of a pop at the queue's next available position
abbrev pub course_of : QueueState → (limit : ℕ) → Course
course_of q limit = record { layout = q.layout; position = q.next_avail; limit = limit }

-- a chain without a fault, in flight, with these descriptors
abbrev pub out_of : Course → PopId → (head : ℕ) → List Descriptor → InFlight
out_of course pop_id head ds =
    record {
      course = course;
      pop_id = pop_id;
      head = head;
      request_len = count false ds;
      room_len = count true ds;
    }

-- a faulty chain, in flight: the library reads and writes none of its bytes
abbrev pub faulty_out : Course → PopId → (head : ℕ) → InFlight
faulty_out course pop_id head =
    record { course = course; pop_id = pop_id; head = head; request_len = 0; room_len = 0 }

-- no reply
abbrev pub no_reply : ChainReply
no_reply = record { front = None; behind = 0 }

-- the result that `pop` returns for this step, with these descriptors
abbrev pub outcome_of : List Descriptor → comes.CourseStep → walked.PopOutcome
outcome_of ds (step.Load walk) = reports.Load (asked_len walk)
outcome_of ds step.Idle = reports.Idle
outcome_of ds (step.Refused e) = reports.Refused e
outcome_of ds (step.Chain head None) = reports.Chain head (count false ds) (count true ds)
outcome_of ds (step.Chain head (Some fault)) = reports.Faulty head fault
outcome_of ds (step.Missing range access) = reports.Missing range access

-- the chain's state after this step
abbrev pub state_after : Course → PopId → List Descriptor → comes.CourseStep → state.ChainState
state_after course pop_id ds (step.Load walk) = at.Popping course pop_id walk
state_after course pop_id ds step.Idle = at.Free
state_after course pop_id ds (step.Refused e) = at.Free
state_after course pop_id ds (step.Chain head None) = at.Popped (out_of course pop_id head ds)
state_after course pop_id ds (step.Chain head (Some fault)) =
    at.Replied (faulty_out course pop_id head) no_reply
state_after course pop_id ds (step.Missing range access) = at.Free

-- the queue after this step
abbrev pub queue_after : QueueState → comes.CourseStep → QueueState
queue_after q (step.Refused e) = record q { stopped = Some e }
queue_after q (step.Chain head fault) = took q
queue_after q _ = q

-- which of the gathered descriptors the handle keeps: none of a faulty chain, which has no windows
abbrev pub left_of : comes.CourseStep → List Descriptor → List Descriptor
left_of (step.Chain head (Some fault)) ds = []
left_of _ ds = ds

-- a pop that asks for a load keeps the list as it is
abbrev pub StaysForLoad : comes.CourseStep → (old new : SmallVec Descriptor) → Type 0
StaysForLoad (step.Load walk) old new = new ≡ old
StaysForLoad _ old new = Unit {0}

-- a faulty chain leaves no descriptors
abbrev pub LeavesNone : comes.CourseStep → List Descriptor → Type 0
LeavesNone (step.Chain head (Some fault)) ds = ds ≡ []
LeavesNone _ ds = Unit {0}

-- regions, limit, the chain's number and the length of a listing's list stay as they were
abbrev pub IsAllBut : (old new : ChainHandle) → Type 0
IsAllBut old new =
    (new.regions ≡ old.regions)
    × (new.limit ≡ old.limit)
    × (new.ticket ≡ old.ticket)
    × (new.list_len ≡ old.list_len)

-- all stays but the chain's state and the length of a listing's list
abbrev pub IsAllButPlace : (old new : ChainHandle) → Type 0
IsAllButPlace old new =
    ((new.regions ≡ old.regions) × (new.limit ≡ old.limit) × (new.ticket ≡ old.ticket))
    × (new.descriptors ≡ old.descriptors)
    × (new.session ≡ old.session)
    × (new.part ≡ old.part)

-- all stays but the part of a load
abbrev pub IsAllButPart : (old new : ChainHandle) → Type 0
IsAllButPart old new =
    IsAllBut old new
    × (new.alloc ≡ old.alloc)
    × (new.descriptors ≡ old.descriptors)
    × (new.state ≡ old.state)
    × (new.session ≡ old.session)

-- the handle drops its descriptors, and all else stays but the part of a load
abbrev pub DropsDescriptors : (old new : ChainHandle) → Type 0
DropsDescriptors old new =
    IsAllButPart (record old { descriptors = new.descriptors }) new × (new.descriptors.items ≡ [])

-- handle and queue keep the result of a step on this course, and `result` is returned; of a faulty chain no
-- descriptor is kept
abbrev pub KeepsStep : Course → PopId → comes.CourseStep → (old new : ChainHandle) →
    (before after : QueueState) → walked.PopOutcome → Type 0
KeepsStep course pop_id came old new before after result =
    (result ≡ outcome_of new.descriptors.items came)
    × (new.state ≡ state_after course pop_id new.descriptors.items came)
    × (after ≡ queue_after before came)
    × LeavesNone came new.descriptors.items
    × IsAllBut old new

-- a pop begins: without any load it reaches a step, which is kept and returned
abbrev pub BeginsOn :
    Course → PopId → (old new : ChainHandle) → (before after : QueueState) → walked.PopOutcome → Type 0
BeginsOn course pop_id old new before after result =
    (came : comes.CourseStep) × KeepsStep course pop_id came old new before after result
    × IsCourseStep (places_in old.regions) course.limit (queue_of course) nothing new.descriptors.items came

-- a pop continues with the bytes of a load. For all loads that may have led to its walk, it reaches
-- this step, which is kept and returned
abbrev pub ContinuesWalk : Course → PopId → QueueWalk → (bytes : List ℕ) → (old new : ChainHandle) →
    (before after : QueueState) → walked.PopOutcome → Type 0
ContinuesWalk course pop_id walk bytes old new before after result =
    (came : comes.CourseStep)
    × KeepsStep course pop_id came old new before after result
    × ((loaded : Loaded)
    → IsWalkAt (places_in old.regions) (queue_of course) loaded old.descriptors.items walk
    → ComesBy (places_in old.regions) course.limit (queue_of course) loaded walk bytes
    new.descriptors.items came)

-- used_event or avail_event of the queue isn't mapped. If the table doesn't map one of them, the pop misses
-- it, and the queue stays as it was; else the pop is refused, and the queue stops. The handle drops the
-- descriptors of an earlier pop
abbrev pub LacksEvents : QueueError → (miss : Option (IovaRange × Permissions)) → (old new : ChainHandle) →
    (before after : QueueState) → walked.PopOutcome → Type 0
LacksEvents e (Some miss) old new before after result =
    (result ≡ reports.Missing miss.0 miss.1) × DropsDescriptors old new × (after ≡ before)
LacksEvents e None old new before after result =
    (result ≡ reports.Refused e) × DropsDescriptors old new × (after ≡ record before { stopped = Some e })

-- a pop begins, unless used_event or avail_event of the queue isn't mapped
abbrev pub BeginsWhere : (fault : Option QueueError) → (old new : ChainHandle) → (before after : QueueState) →
    walked.PopOutcome → Type 0
BeginsWhere (Some e) old new before after result =
    LacksEvents e (event_miss (places_in old.regions) before) old new before after result
BeginsWhere None old new before after result =
    BeginsOn (course_of before old.limit) (pop_id_of old.regions before) old new before after result

-- a stopped queue refuses every pop
abbrev pub BeginsUnless : (stopped : Option QueueError) → (old new : ChainHandle) →
    (before after : QueueState) → walked.PopOutcome → Type 0
BeginsUnless (Some why) old new before after result =
    (result ≡ reports.Refused Stopped) × IsAllButPart old new × (after ≡ before)
BeginsUnless None old new before after result =
    BeginsWhere (event_fault (places_in old.regions) before) old new before after result

abbrev pub BeginsPop : (old new : ChainHandle) → (before after : QueueState) → walked.PopOutcome → Type 0
BeginsPop old new before after result = BeginsUnless before.stopped old new before after result

-- a pop continues, unless its queue was stopped meanwhile: then it is refused like every pop of a
-- stopped queue, and the handle is free
abbrev pub ContinuesUnless : (stopped : Option QueueError) → Course → PopId → QueueWalk → (bytes : List ℕ) →
    (old new : ChainHandle) → (before after : QueueState) → walked.PopOutcome → Type 0
ContinuesUnless (Some why) course pop_id walk bytes old new before after result =
    (result ≡ reports.Refused Stopped) × IsAllButPart (record old { state = at.Free }) new
    × (after ≡ before)
ContinuesUnless None course pop_id walk bytes old new before after result =
    ContinuesWalk course pop_id walk bytes old new before after result

-- a pop continues from the chain's state: with the bytes of its load, or with none at its beginning
abbrev pub WalksFrom : state.ChainState → (bytes : List ℕ) → (old new : ChainHandle) →
    (before after : QueueState) → walked.PopOutcome → Type 0
WalksFrom at.Free bytes old new before after result = BeginsPop old new before after result
WalksFrom (at.Popping course pop_id walk) bytes old new before after result =
    ContinuesUnless before.stopped course pop_id walk bytes old new before after result
WalksFrom _ bytes old new before after result = ⊥

abbrev pub WalksOn :
    (bytes : List ℕ) → (old new : ChainHandle) → (before after : QueueState) → walked.PopOutcome → Type 0
WalksOn bytes old new before after result = WalksFrom old.state bytes old new before after result

-- the pop asks for table entries, their descriptors don't fit beside those that joined, and the allocator
-- refused more room. A pop runs out of memory only then
abbrev pub LacksRoom : ChainHandle → Type 0
LacksRoom w =
    (0 < entries_asked w.state)
    × (HasRoomFor w.descriptors (entries_asked w.state) → ⊥)
    × RoomWasRefused (entries_asked w.state)
