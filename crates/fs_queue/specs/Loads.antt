-- A walk through a chain by loads. Each load may read another memory than the load before, since the
-- guest writes meanwhile (VIRTIO 1.2, 2.7.5).
use Rattle.std.specs.Prelude.{◌≡◌, ℕ, ◌+◌, ◌==◌, ◌&&◌, Bool, true, false, nat_lt, List, [], ◌∷◌, ◌++◌, length}
use Rattle.std.specs.Prelude.{map, Option, Some, None, option_map, unwrap_or, if◌then◌else◌}
use Rattle.vm_iotlb.specs.declared.permissions.Permissions.TheVariants.{Read}
use Rattle.vm_memory.specs.Layout.{Region}
use Rattle.vm_memory.specs.Memory.{Memory, memory_of, bytes, reach}
use Rattle.fs_queue.specs.declared.fault.QueueError.TheVariants.{RingEntryUnreachable}
use Rattle.fs_queue.specs.Queue.{Queue, avail_index_at, ring_entry_at}
use Rattle.fs_queue.specs.NextAvail.{NextAvail, Refused, next_avail}
use Rattle.fs_queue.specs.Chain.{Visit, entry_address, WalkStep, Ordinary, Indirect, Faulty, Stops, walk_step}
use Rattle.fs_queue.specs.Chain.{next_visit, first_visit, after_walk_step, Found, IsChain, HasFault}
use Rattle.fs_queue.specs.Chain.{StopsQueue, chain}

-- a load: its first address, and its bytes; no bytes if one of the addresses isn't mapped
pub record Load : Type 0 where
  pub address : ℕ
  pub came : Option (List ℕ)

-- the region of a block at an address for the bytes of a load
abbrev pub region_with : (block address : ℕ) → Option (List ℕ) → List Region
region_with block a None = []
region_with block a (Some bs) = record { start = a; size = length bs; block = block } ∷ []

abbrev pub regions_with : (block : ℕ) → List Load → List Region
regions_with block [] = []
regions_with block (l ∷ ls) = region_with block l.address l.came ++ regions_with (block + 1) ls

-- the memory that has the bytes of some loads at their addresses, and nothing else
abbrev pub holding : List Load → Memory
holding ls =
    memory_of (record {
      blocks = map (λ l. record { bytes = unwrap_or l.came []; marks = [] }) ls;
      tables = [];
      io_marks = [];
    }) (regions_with 0 ls)

-- whether a step reads its entry: a step past the table's end is a fault without a load
abbrev pub reads_entry : Visit → Bool
reads_entry v = nat_lt v.index v.table.entries

-- the result of a step by a load
abbrev pub step_by : (size : ℕ) → Visit → Load → WalkStep
step_by size v l = walk_step (holding (l ∷ [])) size v

-- the state of a walk: at a step that reads its entry, or ended with a result
pub data Ahead : Type 0 where
  Reads : Visit → Ahead
  Ends : Found → Ahead

-- the state of a walk at a step. A step that reads no entry is the same in every memory
abbrev pub ahead_at : (size : ℕ) → Visit → Ahead
ahead_at size v =
    if reads_entry v then Reads v else Ends (after_walk_step (walk_step (holding []) size v) (IsChain []))

-- the result of a walk after its last step, without the descriptors
abbrev pub end_of : WalkStep → Found
end_of (Ordinary d) = IsChain []
end_of (Indirect table) = IsChain []
end_of (Faulty fault) = HasFault fault
end_of Stops = StopsQueue

abbrev pub ahead_of_next : (size : ℕ) → WalkStep → Option Visit → Ahead
ahead_of_next size w None = Ends (end_of w)
ahead_of_next size w (Some v) = ahead_at size v

-- the state of a walk after a step
abbrev pub ahead_after : (size : ℕ) → Visit → WalkStep → Ahead
ahead_after size v w = ahead_of_next size w (next_visit v w)

-- the result of a walk by some loads, of which the last ones may stay unused. None if the loads end
-- before the walk, or if a load has another address than the walk asks for
unfoldable pub found_by : (size : ℕ) → List Load → Ahead → Option Found
found_by size [] (Ends found) = Some found
found_by size [] (Reads v) = None
found_by size (l ∷ ls) (Ends found) = Some found
found_by size (l ∷ ls) (Reads v) =
    if l.address == entry_address v then option_map (after_walk_step (step_by size v l))
    (found_by size ls (ahead_after size v (step_by size v l))) else None

-- the result of the walk from a head by some loads
abbrev pub chain_by : List Load → Queue → ℕ → Option Found
chain_by ls q head = found_by q.size ls (ahead_at q.size (first_visit q head))

-- whether a load has n bytes, or none since one of its addresses isn't mapped
abbrev pub is_whole : (n : ℕ) → Option (List ℕ) → Bool
is_whole n None = true
is_whole n (Some bs) = length bs == n

-- the result of a walk by exactly the loads that it asks for, each of an entry's 16 bytes. None if a
-- load is missing, is one too many, or has another address or length
unfoldable pub found_exactly : (size : ℕ) → List Load → Ahead → Option Found
found_exactly size [] (Ends found) = Some found
found_exactly size [] (Reads v) = None
found_exactly size (l ∷ ls) (Ends found) = None
found_exactly size (l ∷ ls) (Reads v) =
    if l.address == entry_address v && is_whole 16 l.came then option_map (after_walk_step (step_by size v l))
    (found_exactly size ls (ahead_after size v (step_by size v l))) else None

-- the result of the walk from a head by exactly its loads
abbrev pub chain_exactly : List Load → Queue → ℕ → Option Found
chain_exactly ls q head = found_exactly q.size ls (ahead_at q.size (first_visit q head))

-- theorem: a walk that ends by exactly its loads has the same result if more loads follow
abbrev pub LeavesTheRest : Type 0
LeavesTheRest =
    (q : Queue) (head : ℕ) (ls more : List Load) (f : Found) →
    chain_exactly ls q head ≡ Some f →
    chain_by (ls ++ more) q head ≡ Some f

-- a load of n bytes read them from a memory
abbrev pub IsLoadOf : Memory → (n : ℕ) → Load → Type 0
IsLoadOf m n l = l.came ≡ (if reach m Read l.address n then Some (bytes m l.address n) else None)

-- a load read a table's entry from a memory
abbrev pub IsEntryOf : Memory → Load → Type 0
IsEntryOf m l = IsLoadOf m 16 l

-- each of some loads read an entry from a memory
abbrev pub AreEntriesOf : Memory → List Load → Type 0
AreEntriesOf m [] = Unit {0}
AreEntriesOf m (l ∷ ls) = IsEntryOf m l × AreEntriesOf m ls

-- theorem: if each load read a memory, the walk's result is that memory's chain
abbrev pub Still : Type 0
Still =
    (m : Memory) (q : Queue) (head : ℕ) (ls : List Load) (f : Found) →
    AreEntriesOf m ls →
    chain_by ls q head ≡ Some f →
    f ≡ chain m q head

-- theorem: a walk depends on its loads alone. Two memories with the same bytes there have the same
-- chain, even with other layouts and tables
abbrev pub Confined : Type 0
Confined =
    (m n : Memory) (q : Queue) (head : ℕ) (ls : List Load) (f : Found) →
    AreEntriesOf m ls →
    AreEntriesOf n ls →
    chain_by ls q head ≡ Some f →
    chain m q head ≡ chain n q head

-- the state of a walk after some loads, each exactly the one that the walk asks for. A failed allocation
-- may end a walk there
unfoldable pub ahead_by : (size : ℕ) → List Load → Ahead → Option Ahead
ahead_by size [] a = Some a
ahead_by size (l ∷ ls) (Ends found) = None
ahead_by size (l ∷ ls) (Reads v) =
    if l.address == entry_address v && is_whole 16 l.came
    then ahead_by size ls (ahead_after size v (step_by size v l)) else None

-- theorem: if each load of a walk so far read a memory, more loads of that memory complete the walk. The
-- result is the memory's chain
abbrev pub CutOffIsStill : Type 0
CutOffIsStill =
    (m : Memory) (q : Queue) (head : ℕ) (ls : List Load) (a : Ahead) →
    AreEntriesOf m ls →
    ahead_by q.size ls (ahead_at q.size (first_visit q head)) ≡ Some a →
    (more : List Load) × AreEntriesOf m more × (chain_exactly (ls ++ more) q head ≡ Some (chain m q head))

-- the k-th load read the k-th memory
abbrev pub AreEntriesInTurn : List Memory → List Load → Type 0
AreEntriesInTurn ms [] = Unit {0}
AreEntriesInTurn [] (l ∷ ls) = ⊥
AreEntriesInTurn (m ∷ ms) (l ∷ ls) = IsEntryOf m l × AreEntriesInTurn ms ls

-- the result of a walk whose k-th step reads the k-th memory
unfoldable pub found_in_turn : (size : ℕ) → List Memory → Ahead → Option Found
found_in_turn size [] (Ends found) = Some found
found_in_turn size [] (Reads v) = None
found_in_turn size (m ∷ ms) (Ends found) = Some found
found_in_turn size (m ∷ ms) (Reads v) =
    option_map (after_walk_step (walk_step m size v))
    (found_in_turn size ms (ahead_after size v (walk_step m size v)))

-- theorem: by loads of one memory after another, the k-th step of the walk reads the k-th memory
abbrev pub InTurn : Type 0
InTurn =
    (ms : List Memory) (q : Queue) (head : ℕ) (ls : List Load) (f : Found) →
    AreEntriesInTurn ms ls →
    chain_by ls q head ≡ Some f →
    found_in_turn q.size ms (ahead_at q.size (first_visit q head)) ≡ Some f

-- theorem: for each walk there are loads of the memory that are exactly those that it asks for
abbrev pub Finds : Type 0
Finds =
    (m : Memory) (q : Queue) (head : ℕ) → (ls : List Load)
    × AreEntriesOf m ls
    × (chain_exactly ls q head ≡ Some (chain m q head))

-- whether the next entry of the available ring depends on the load of the entry, which wasn't made yet
abbrev pub asks_entry : NextAvail → Bool
asks_entry (Refused RingEntryUnreachable) = true
asks_entry _ = false

-- the load of the available ring's index; the load of its next entry
abbrev pub index_load : Queue → Option (List ℕ) → Load
index_load q came = record { address = avail_index_at q; came = came }

abbrev pub entry_load : Queue → Option (List ℕ) → Load
entry_load q came = record { address = ring_entry_at q; came = came }

-- the result by the index alone, unless it asks for the entry, and the result by both are a memory's
pub record RingStill (m : Memory) (q : Queue) (index entry : Option (List ℕ)) : Type 0 where
  pub alone : asks_entry (next_avail (holding (index_load q index ∷ [])) q) ≡ false →
      next_avail (holding (index_load q index ∷ [])) q ≡ next_avail m q
  pub both : next_avail (holding (index_load q index ∷ entry_load q entry ∷ [])) q ≡ next_avail m q

abbrev pub RingIsStill : Type 0
RingIsStill =
    (m : Memory) (q : Queue) (index entry : Option (List ℕ)) →
    IsLoadOf m 2 (index_load q index) →
    IsLoadOf m 2 (entry_load q entry) →
    RingStill m q index entry
