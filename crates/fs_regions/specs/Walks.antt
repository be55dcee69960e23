-- The steps of a pop over regions, by the loads so far (VIRTIO 1.2, 2.7.5, 2.7.6 and 2.7.13 from the device's
-- side).
use Rattle.std.specs.Prelude.{◌≡◌, ◌⊎◌, if◌then◌else◌, ℕ, ◌+◌, ◌*◌, ◌<◌, ◌≤◌, ◌&&◌, Bool, true, false, nat_le}
use Rattle.std.specs.Prelude.{List, [], ◌∷◌, ◌++◌, All, length, take, drop, Option, Some, None, option_map}
use Rattle.vm_iotlb.specs.declared.permissions.Permissions.TheVariants.{Read}
use Rattle.vm_memory.specs.Memory.{Memory, reach}
use Rattle.vm_iotlb.specs.declared.iova.IovaRange.{IovaRange}
use Rattle.vm_iotlb.specs.declared.permissions.Permissions.{Permissions}
use Rattle.fs_queue.specs.declared.fault.ChainFault.{ChainFault}
use Rattle.fs_queue.specs.declared.fault.ChainFault.TheVariants as fault
use Rattle.fs_queue.specs.declared.fault.QueueError.{QueueError}
use Rattle.fs_queue.specs.declared.fault.QueueError.TheVariants as stop
use Rattle.fs_queue.specs.declared.chain_walk.Progress.{Progress}
use Rattle.fs_queue.specs.declared.walk.Walk as code
use Rattle.fs_queue.specs.declared.walk.Walk.TheVariants as waits
use Rattle.fs_queue.specs.Queue.{Queue, avail_index_at, ring_entry_at}
use Rattle.fs_queue.specs.NextAvail.{NextAvail, Head}
use Rattle.fs_queue.specs.Chain.{Descriptor, DescriptorTable, Visit, with_front, entry_address, Found}
use Rattle.fs_queue.specs.Chain.{IsChain, HasFault, StopsQueue, first_visit}
use Rattle.fs_queue.specs.Loads.{Load, Ahead, Reads, found_exactly, chain_exactly, asks_entry, ahead_at}
use Rattle.fs_queue.specs.Loads.{is_whole}
use Rattle.fs_queue.specs.OfferLoads.{available_by, offer_by}
use Rattle.fs_queue.specs.Taking.{readable, writable, total_len, IsRequest, CannotFetch, Offer, Idle, Refuses}
use Rattle.fs_queue.specs.Taking.{Offers, addresses_of, chain_fault, return_fault}
use Rattle.fs_queue.specs.RingingView.{HasResult, by_index, stage_of, stage_at, IfRingEntry}
use Rattle.fs_queue.specs.SteppingView.{ahead_of, visit_of, IfWants}
use Rattle.fs_queue.specs.WalkingView.{at_position}
use Rattle.fs_regions.specs.Places.{left_in}
use Rattle.fs_regions.specs.Misses.{Test, OfIndex, OfRingEntry, OfReturn, OfEntry, OfBuffers, first_miss}
use Rattle.fs_regions.specs.Misses.{needed_at}
use Rattle.fs_regions.specs.declared.walk.QueueWalk.{QueueWalk}
use Rattle.fs_regions.specs.declared.walk.QueueWalk.TheVariants as at
use Rattle.fs_regions.specs.declared.course.Course.{Course}
use Rattle.fs_regions.specs.declared.step.CourseStep as comes
use Rattle.fs_regions.specs.declared.step.CourseStep.TheVariants as step

-- the loads of a pop so far: the available index, the available ring's entry, and the tables' entries; None
-- where an address isn't mapped, or nothing was loaded yet
pub record Loaded : Type 0 where
  pub index : Option (List ℕ)
  pub entry : Option (List ℕ)
  pub entries : List Load

-- no load yet
abbrev pub nothing : Loaded
nothing = record { index = None; entry = None; entries = [] }

-- a result of a walk with these descriptors in front of its chain's
abbrev pub standing_before : List Descriptor → Found → Found
standing_before [] f = f
standing_before (d ∷ ds) f = with_front d (standing_before ds f)

-- these loads lead a walk from one state to another, and these descriptors join the chain; this holds
-- for any loads that follow
abbrev pub Brings : (size : ℕ) → List Load → (from : Ahead) → List Descriptor → (to : Ahead) → Type 0
Brings size ls from ds to =
    (more : List Load) →
    found_exactly size (ls ++ more) from ≡ option_map (standing_before ds) (found_exactly size more to)

-- the ring's loads were asked for: the index is missing only if it isn't mapped, and the entry only if
-- the index doesn't need it or it isn't mapped
abbrev pub RingIsAsked : Memory → Queue → Loaded → Type 0
RingIsAsked m q loaded =
    (loaded.index ≡ None → reach m Read (avail_index_at q) 2 ≡ false)
    × (loaded.entry ≡ None →
    asks_entry (by_index q loaded.index) ≡ true →
    reach m Read (ring_entry_at q) 2 ≡ false)

-- a load of the ring that wasn't made is no mere miss
abbrev pub RingIsNoMiss : Memory → Queue → Loaded → Type 0
RingIsNoMiss m q loaded =
    (loaded.index ≡ None → first_miss m (needed_at q OfIndex) ≡ None)
    × (loaded.entry ≡ None →
    asks_entry (by_index q loaded.index) ≡ true →
    first_miss m (needed_at q OfRingEntry) ≡ None)

-- the walk through a chain begins at its head
abbrev pub BeginsAtHead : Queue → (head : ℕ) → Progress → Type 0
BeginsAtHead q head progress =
    (ahead_of progress ≡ ahead_at q.size (first_visit q head)) × IfWants progress (λ w. w.size ≡ q.size)

-- the walk begins at the head, if a chain is available
abbrev pub BeginsIfChain : Queue → code.Walk → Type 0
BeginsIfChain q (waits.Chain head progress) = BeginsAtHead q head progress
BeginsIfChain q _ = Unit {0}

-- the ring's loads determine the walk: a chain, none, or a refusal
pub record ReportsBy (m : Memory) (q : Queue) (loaded : Loaded) (walk : code.Walk) : Type 0 where
  pub next : NextAvail
  pub reports : stage_of walk ≡ HasResult next
  pub by_loads : available_by q loaded.index loaded.entry ≡ Some next
  pub no_entries : loaded.entries ≡ []
  pub asked : RingIsAsked m q loaded
  pub no_miss : RingIsNoMiss m q loaded
  pub begins : BeginsIfChain q walk

-- the index was loaded, or isn't mapped, and this walk follows
pub record StandsAfterIndex (m : Memory) (q : Queue) (index : Option (List ℕ)) (walk : code.Walk) :
    Type 0 where
  pub stage : stage_of walk ≡ stage_at (by_index q index)
  pub at : IfRingEntry walk (λ w. at_position w.layout w.position ≡ q)
  pub whole : is_whole 2 index ≡ true
  pub asked : index ≡ None → reach m Read (avail_index_at q) 2 ≡ false
  pub no_miss : index ≡ None → first_miss m (needed_at q OfIndex) ≡ None
  pub begins : BeginsIfChain q walk

-- the chain of this head is available, and its walk begins
pub record HeadBeginsWalk (m : Memory) (q : Queue) (loaded : Loaded) (head : ℕ) (progress : Progress) :
    Type 0 where
  pub by_loads : available_by q loaded.index loaded.entry ≡ Some (Head head)
  pub no_entries : loaded.entries ≡ []
  pub asked : RingIsAsked m q loaded
  pub begins : BeginsAtHead q head progress

-- the chain of this head is available, and the stores of its push are mapped
pub record HeadMayBePushed (m : Memory) (q : Queue) (loaded : Loaded) (head : ℕ) : Type 0 where
  pub by_loads : available_by q loaded.index loaded.entry ≡ Some (Head head)
  pub asked : RingIsAsked m q loaded
  pub returns : return_fault m q ≡ None

-- the queue of a course, which isn't stopped
abbrev pub queue_of : Course → Queue
queue_of c = at_position c.layout c.position

-- a course is a pop at a queue's position, with this limit
abbrev pub IsCourseOf : Queue → (limit : ℕ) → Course → Type 0
IsCourseOf q limit c = (queue_of c ≡ record q { stopped = false }) × (c.limit ≡ limit)

-- the address of the load that a walk asks for
abbrev pub asked_by : QueueWalk → ℕ
asked_by (at.Index w) = avail_index_at (at_position w.layout w.position)
asked_by (at.RingEntry w) = ring_entry_at (at_position w.layout w.position)
asked_by (at.Entries w) = entry_address (visit_of w.walk)

-- the number of table entries that a walk asks for
abbrev pub asked_entries : QueueWalk → ℕ
asked_entries (at.Entries w) = w.entries
asked_entries _ = 0

-- the number of bytes that a walk asks for
abbrev pub asked_len : QueueWalk → ℕ
asked_len (at.Entries w) = 16 * w.entries
asked_len _ = 2

-- these loads lead to this walk, with these descriptors
abbrev pub IsWalkAt : Memory → Queue → Loaded → List Descriptor → QueueWalk → Type 0
IsWalkAt m q loaded ds (at.Index w) = (at_position w.layout w.position ≡ q) × (loaded ≡ nothing) × (ds ≡ [])
IsWalkAt m q loaded ds (at.RingEntry w) =
    (at_position w.layout w.position ≡ q)
    × (option_map length loaded.index ≡ Some 2)
    × (asks_entry (by_index q loaded.index) ≡ true)
    × (loaded.entry ≡ None)
    × (loaded.entries ≡ [])
    × (ds ≡ [])
IsWalkAt m q loaded ds (at.Entries w) =
    HeadMayBePushed m q loaded w.head
    × (w.walk.size ≡ q.size)
    × Brings q.size loaded.entries (ahead_at q.size (first_visit q w.head)) ds (Reads (visit_of w.walk))

-- the load that a walk asks for is mapped
abbrev pub IsThere : Memory → QueueWalk → Type 0
IsThere m w = reach m Read (asked_by w) (asked_len w) ≡ true

-- the most entries that a load of a table has: 4096 bytes of an indirect table; 64 bytes of the queue's own,
-- since drivers mostly lay a chain's descriptors there one behind another
abbrev pub most_of : DescriptorTable → ℕ
most_of t = if t.indirect then 256 else 4

-- a load may have `n` entries from one on: none past their table's end, and no more than a load has. More
-- than one are in one region, mapped in one piece, and no more than may still join the chain
abbrev pub MayBeAsked : Memory → Queue → List Descriptor → Visit → (n : ℕ) → Type 0
MayBeAsked m q ds v n =
    (n ≤ most_of v.table)
    × (v.index + n ≤ v.table.entries)
    × (1 < n → (16 * n ≤ left_in m (entry_address v)) × (length ds + n ≤ q.size))

-- a walk asks for as many entries as it may
abbrev pub IsLongestStretch : Memory → Queue → List Descriptor → QueueWalk → Type 0
IsLongestStretch m q ds (at.Entries w) =
    MayBeAsked m q ds (visit_of w.walk) w.entries
    × ((n : ℕ) → MayBeAsked m q ds (visit_of w.walk) n → n ≤ w.entries)
IsLongestStretch m q ds _ = Unit {0}

-- whether an entry at an address is whole in n bytes from another on
abbrev pub is_in : (from n address : ℕ) → Bool
is_in from n address = nat_le from address && nat_le (address + 16) (from + n)

-- a load of an entry that was read out of a stretch: it lies there whole, and has the stretch's bytes
abbrev pub IsReadOut : (from : ℕ) → List ℕ → Load → Type 0
IsReadOut from bs l =
    (offset : ℕ)
    × (l.address ≡ from + offset)
    × (offset + 16 ≤ length bs)
    × (l.came ≡ Some (take 16 (drop offset bs)))

-- each of these loads was read out of the stretch: the first at its beginning, and in all no more than the
-- stretch has entries
pub record ReadOutOf (from : ℕ) (bs : List ℕ) (ls : List Load) : Type 0 where
  pub first : (l : Load) × (rest : List Load) × (ls ≡ l ∷ rest) × (l.address ≡ from)
  pub each : All (IsReadOut from bs) ls
  pub few : 16 * length ls ≤ length bs

-- a walk asks for another load only if its entry isn't in the stretch, or as many were read out as the
-- stretch has
abbrev pub UsesUp : (from : ℕ) → List ℕ → List Load → comes.CourseStep → Type 0
UsesUp from bs ls (step.Load w) = (is_in from (length bs) (asked_by w) ≡ false) ⊎ (16 * length ls ≡ length bs)
UsesUp from bs ls _ = Unit {0}

-- a step follows after entries were read out of a stretch, and the loads have these entries then
pub record AddsEntries (from : ℕ) (bs : List ℕ) (came : comes.CourseStep) (old new : Loaded) : Type 0 where
  pub reads : List Load
  pub read_out : ReadOutOf from bs reads
  pub uses_up : UsesUp from bs reads came
  pub added : new ≡ record old { entries = old.entries ++ reads }

-- a load's bytes are added to the loads; those of a stretch are added as its entries
abbrev pub AddsBytes : QueueWalk → List ℕ → comes.CourseStep → (old new : Loaded) → Type 0
AddsBytes (at.Index w) bs came old new = new ≡ record old { index = Some bs }
AddsBytes (at.RingEntry w) bs came old new = new ≡ record old { entry = Some bs }
AddsBytes (at.Entries w) bs came old new = AddsEntries (entry_address (visit_of w.walk)) bs came old new

-- an entry that isn't mapped
abbrev pub IsLost : Memory → Load → Type 0
IsLost m l = (l.came ≡ None) × (reach m Read l.address 16 ≡ false)

-- the walk from a head finds this by the entries so far. If the last entry that it needed isn't mapped, it
-- finds this by that failed load too
abbrev pub FindsBy : Memory → Queue → Loaded → (head : ℕ) → Found → Type 0
FindsBy m q loaded head found =
    (lost : List Load) × All (IsLost m) lost × (chain_exactly (loaded.entries ++ lost) q head ≡ Some found)

-- the queue offers this by the loads so far, with this request. If the last entry that the walk needed isn't
-- mapped, it offers this by that failed load too
abbrev pub OffersBy : Memory → (limit : ℕ) → Queue → Loaded → (request : List ℕ) → Offer → Type 0
OffersBy m limit q loaded request o =
    RingIsAsked m q loaded
    × (lost : List Load)
    × All (IsLost m) lost
    × (offer_by m limit q loaded.index loaded.entry (loaded.entries ++ lost) request ≡ Some o)

-- the result for a chain with these descriptors. Without a fault, the walk finds just them, and the request
-- is the bytes of the readable ones, with any values
abbrev pub FetchesBy :
    Memory → (limit : ℕ) → Queue → Loaded → List Descriptor → (head : ℕ) → Option ChainFault → Type 0
FetchesBy m limit q loaded ds head (Some fault) =
    OffersBy m limit q loaded [] (Offers head (CannotFetch fault))
FetchesBy m limit q loaded ds head None =
    FindsBy m q loaded head (IsChain ds)
    × ((request : List ℕ) →
    length request ≡ total_len (readable ds) →
    OffersBy m limit q loaded request (Offers head (IsRequest request (addresses_of (writable ds)))))

-- the loads so far bring a pop to this test, with these descriptors. The buffers of a chain over the limit
-- aren't tested
abbrev pub LeadsTo : Memory → (limit : ℕ) → Queue → Loaded → List Descriptor → Test → Type 0
LeadsTo m limit q loaded ds OfIndex = (loaded ≡ nothing) × (ds ≡ [])
LeadsTo m limit q loaded ds OfRingEntry =
    (option_map length loaded.index ≡ Some 2)
    × (asks_entry (by_index q loaded.index) ≡ true)
    × (loaded.entry ≡ None)
    × (loaded.entries ≡ [])
    × (ds ≡ [])
LeadsTo m limit q loaded ds OfReturn =
    (head : ℕ)
    × (available_by q loaded.index loaded.entry ≡ Some (Head head))
    × (loaded.entries ≡ [])
    × (ds ≡ [])
LeadsTo m limit q loaded ds (OfEntry v) =
    (head : ℕ)
    × HeadMayBePushed m q loaded head
    × (v.index < v.table.entries)
    × Brings q.size loaded.entries (ahead_at q.size (first_visit q head)) ds (Reads v)
LeadsTo m limit q loaded ds (OfBuffers found) =
    (head : ℕ)
    × HeadMayBePushed m q loaded head
    × FindsBy m q loaded head (IsChain found)
    × (found ≡ ds)
    × (chain_fault m limit ds ≡ Some fault.OverLimit → ⊥)

-- a pop misses addresses: at a test, these are the first that it needs and the table doesn't map
abbrev pub Misses : Memory → (limit : ℕ) → Queue → Loaded → List Descriptor → IovaRange → Permissions → Type 0
Misses m limit q loaded ds range access =
    (test : Test)
    × LeadsTo m limit q loaded ds test
    × (first_miss m (needed_at q test) ≡ Some (range, access))

-- a pop comes to a test, and misses nothing there: the table maps each address that it needs
abbrev pub MissesNothing : Memory → (limit : ℕ) → Queue → Loaded → List Descriptor → Test → Type 0
MissesNothing m limit q loaded ds test =
    LeadsTo m limit q loaded ds test × (first_miss m (needed_at q test) ≡ None)

-- the walk finds this by the loads that were made
abbrev pub FindsAlone : Memory → Queue → Loaded → Found → Type 0
FindsAlone m q loaded found =
    (head : ℕ) × HeadMayBePushed m q loaded head × (chain_exactly loaded.entries q head ≡ Some found)

-- the walk needs an entry that the table maps: it isn't mapped to memory, or can't be read
abbrev pub EntryIsNoMiss : Memory → (limit : ℕ) → Queue → Loaded → Type 0
EntryIsNoMiss m limit q loaded =
    (v : Visit) × (ds : List Descriptor) × MissesNothing m limit q loaded ds (OfEntry v)

-- the same of a chain's request and reply buffer
abbrev pub BuffersAreNoMiss : Memory → (limit : ℕ) → Queue → Loaded → Type 0
BuffersAreNoMiss m limit q loaded =
    (ds : List Descriptor) × MissesNothing m limit q loaded ds (OfBuffers ds)

-- a refusal never results from a mere miss: where addresses aren't mapped to memory for the access, the table
-- maps each of them
abbrev pub RefusalIsNoMiss : Memory → (limit : ℕ) → Queue → Loaded → QueueError → Type 0
RefusalIsNoMiss m limit q loaded stop.UsedUnreachable = MissesNothing m limit q loaded [] OfReturn
RefusalIsNoMiss m limit q loaded stop.AvailFlagsUnreachable = MissesNothing m limit q loaded [] OfReturn
RefusalIsNoMiss m limit q loaded stop.DescriptorUnreachable =
    FindsAlone m q loaded StopsQueue ⊎ EntryIsNoMiss m limit q loaded
RefusalIsNoMiss m limit q loaded _ = RingIsNoMiss m q loaded

-- nor does a fault that the walk doesn't find by its loads alone
abbrev pub TestIsNoMiss : Memory → (limit : ℕ) → Queue → Loaded → ChainFault → Type 0
TestIsNoMiss m limit q loaded fault.OverLimit = Unit {0}
TestIsNoMiss m limit q loaded fault.TableUnreachable = EntryIsNoMiss m limit q loaded
TestIsNoMiss m limit q loaded fault.RequestUnreachable = BuffersAreNoMiss m limit q loaded
TestIsNoMiss m limit q loaded fault.RoomUnreachable = BuffersAreNoMiss m limit q loaded
TestIsNoMiss m limit q loaded _ = ⊥

abbrev pub FaultIsNoMiss : Memory → (limit : ℕ) → Queue → Loaded → Option ChainFault → Type 0
FaultIsNoMiss m limit q loaded None = Unit {0}
FaultIsNoMiss m limit q loaded (Some why) =
    FindsAlone m q loaded (HasFault why) ⊎ TestIsNoMiss m limit q loaded why

-- a step of a pop, by the loads so far
abbrev pub IsCourseStep : Memory → (limit : ℕ) → Queue → Loaded → List Descriptor → comes.CourseStep → Type 0
IsCourseStep m limit q loaded ds (step.Load w) =
    IsWalkAt m q loaded ds w × IsThere m w × IsLongestStretch m q ds w
IsCourseStep m limit q loaded ds step.Idle = OffersBy m limit q loaded [] Idle
IsCourseStep m limit q loaded ds (step.Refused e) =
    OffersBy m limit q loaded [] (Refuses e) × RefusalIsNoMiss m limit q loaded e
IsCourseStep m limit q loaded ds (step.Chain head fault) =
    FetchesBy m limit q loaded ds head fault × FaultIsNoMiss m limit q loaded fault
IsCourseStep m limit q loaded ds (step.Missing range access) = Misses m limit q loaded ds range access

-- the step that follows the bytes of a load that the walk asked for, after the loads so far
pub record ComesBy (m : Memory) (limit : ℕ) (q : Queue) (loaded : Loaded) (walk : QueueWalk) (bs : List ℕ)
    (ds : List Descriptor) (came : comes.CourseStep) : Type 0 where
  pub after : Loaded
  pub adds : AddsBytes walk bs came loaded after
  pub comes : IsCourseStep m limit q after ds came
