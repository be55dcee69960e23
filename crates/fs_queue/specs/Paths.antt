-- Paths in the standard's words (VIRTIO 1.2, 2.7.5 and 2.7.5.3): a relation, beside the function of
-- Chain.
use Rattle.std.specs.Prelude.{◌≡◌, ◌↔◌, ◌⊎◌, ℕ, ◌+◌, ◌/◌, ◌%◌, ◌^◌, ◌<◌, ◌≤◌, true, false, not, List, [], ◌∷◌}
use Rattle.std.specs.Prelude.{◌++◌, map, filter, All}
use Rattle.vm_iotlb.specs.declared.permissions.Permissions.TheVariants.{Read}
use Rattle.vm_memory.specs.Memory.{Memory, reach}
use Rattle.fs_queue.specs.declared.fault.ChainFault.{ChainFault}
use Rattle.fs_queue.specs.declared.fault.ChainFault.TheVariants.{TooLong, NextOutOfTable, AddressOverflow}
use Rattle.fs_queue.specs.declared.fault.ChainFault.TheVariants.{IndirectWithNext, IndirectNested}
use Rattle.fs_queue.specs.declared.fault.ChainFault.TheVariants.{IndirectLength, TableUnreachable}
use Rattle.fs_queue.specs.declared.fault.ChainFault.TheVariants.{OverLimit, RequestUnreachable}
use Rattle.fs_queue.specs.declared.fault.ChainFault.TheVariants.{RoomUnreachable}
use Rattle.fs_queue.specs.Queue.{Queue}
use Rattle.fs_queue.specs.Chain.{Descriptor, Visit, entry_address, descriptor_at, has_next, is_indirect}
use Rattle.fs_queue.specs.Chain.{first_visit, walk, Found, IsChain, HasFault, StopsQueue, chain}

-- the descriptor at a step's entry
abbrev pub entry_of : Memory → Visit → Descriptor
entry_of m v = descriptor_at m (entry_address v)

-- a step's entry is within its table, and the device may read its 16 bytes
pub record EntryIsThere (m : Memory) (v : Visit) : Type 0 where
  pub inside : v.index < v.table.entries
  pub read : reach m Read (entry_address v) 16 ≡ true

-- an ordinary descriptor passes: the walk passed fewer ordinary ones than the queue's size, and its
-- bytes, if it has any, end below 2^64
pub record PassesOrdinary (q : Queue) (v : Visit) (d : Descriptor) : Type 0 where
  pub ordinary : is_indirect d ≡ false
  pub room : v.earlier < q.size
  pub ends : (d.len ≡ 0) ⊎ (d.addr + d.len < 2 ^ 64)

-- a descriptor that refers to an indirect table passes. It has no NEXT and is in the queue's own table.
-- Its bytes are whole entries, at least one, and end below 2^64
pub record PassesTable (v : Visit) (d : Descriptor) : Type 0 where
  pub indirect : is_indirect d ≡ true
  pub last : has_next d ≡ false
  pub own : v.table.indirect ≡ false
  pub some : 0 < d.len
  pub whole : d.len % 16 ≡ 0
  pub ends : d.addr + d.len < 2 ^ 64

-- a step follows another by NEXT: the other passes at an ordinary descriptor. The step is at that
-- descriptor's next entry in the same table, with one more descriptor counted
pub record FollowsByNext (m : Memory) (q : Queue) (v w : Visit) : Type 0 where
  pub there : EntryIsThere m v
  pub passes : PassesOrdinary q v (entry_of m v)
  pub more : has_next (entry_of m v) ≡ true
  pub table : w.table ≡ v.table
  pub index : w.index ≡ (entry_of m v).next
  pub earlier : w.earlier ≡ v.earlier + 1

-- a step follows another by INDIRECT: the other passes at a descriptor that refers to a table, and the
-- step is at entry 0 of that table. The descriptor isn't counted
pub record FollowsByTable (m : Memory) (v w : Visit) : Type 0 where
  pub there : EntryIsThere m v
  pub passes : PassesTable v (entry_of m v)
  pub table :
      w.table ≡ record { address = (entry_of m v).addr; entries = (entry_of m v).len / 16; indirect = true }
  pub index : w.index ≡ 0
  pub earlier : w.earlier ≡ v.earlier

-- a step follows another, by NEXT or by INDIRECT
abbrev pub Follows : Memory → Queue → Visit → Visit → Type 0
Follows m q v w = FollowsByNext m q v w ⊎ FollowsByTable m v w

-- each of some steps follows the one before it, and the first of them follows this step
unfoldable pub EachFollows : Memory → Queue → Visit → List Visit → Type 0
EachFollows m q v [] = Unit {0}
EachFollows m q v (w ∷ ws) = Follows m q v w × EachFollows m q w ws

-- a path begins at the head's entry of the queue's own table, with no descriptor counted
abbrev pub IsPath : Memory → Queue → (head : ℕ) → List Visit → Type 0
IsPath m q head [] = ⊥
IsPath m q head (v ∷ vs) = (v ≡ first_visit q head) × EachFollows m q v vs

-- some steps are the first ones of others
abbrev pub IsFront : List Visit → List Visit → Type 0
IsFront vs ws = (rest : List Visit) × (ws ≡ vs ++ rest)

-- theorem: the walk from a head is a path
abbrev pub WalksArePaths : Type 0
WalksArePaths = (m : Memory) (q : Queue) (head : ℕ) → IsPath m q head (walk m q head)

-- theorem: each path from a head is a front of the walk, which is so the longest path
abbrev pub PathsAreFronts : Type 0
PathsAreFronts =
    (m : Memory) (q : Queue) (head : ℕ) (vs : List Visit) → IsPath m q head vs → IsFront vs (walk m q head)

-- theorem: no step follows a walk's last step
abbrev pub NothingFollows : Type 0
NothingFollows =
    (m : Memory) (q : Queue) (head : ℕ) (front : List Visit) (last next : Visit) →
    walk m q head ≡ front ++ last ∷ [] →
    Follows m q last next →
    ⊥

-- a step passes, also a path's last: its entry can be read and passes, as an ordinary descriptor or as
-- one that refers to a table
pub record Passes (m : Memory) (q : Queue) (v : Visit) : Type 0 where
  pub there : EntryIsThere m v
  pub passes : PassesOrdinary q v (entry_of m v) ⊎ PassesTable v (entry_of m v)

-- a step's entry is within its table, but the device may not read each of its 16 bytes
pub record EntryIsUnreadable (m : Memory) (v : Visit) : Type 0 where
  pub inside : v.index < v.table.entries
  pub unread : reach m Read (entry_address v) 16 ≡ false

-- a step is at an ordinary descriptor
pub record IsOrdinary (m : Memory) (v : Visit) : Type 0 where
  pub there : EntryIsThere m v
  pub ordinary : is_indirect (entry_of m v) ≡ false

-- a step is at a descriptor that refers to an indirect table
pub record NamesTable (m : Memory) (v : Visit) : Type 0 where
  pub there : EntryIsThere m v
  pub indirect : is_indirect (entry_of m v) ≡ true

-- a step is at a descriptor that refers to an indirect table and has no NEXT (2.7.5.3.1)
pub record NamesTableLast (m : Memory) (v : Visit) : Type 0 where
  pub names : NamesTable m v
  pub last : has_next (entry_of m v) ≡ false

-- a step is at a descriptor that refers to an indirect table, without NEXT, in the queue's own table. An
-- indirect table must not refer to another (2.7.5.3.1)
pub record NamesTableFromOwn (m : Memory) (v : Visit) : Type 0 where
  pub names : NamesTableLast m v
  pub own : v.table.indirect ≡ false

-- a step is at a descriptor that refers to a table of whole entries, which ends past 2^64 - 1
pub record TableOverflows (m : Memory) (v : Visit) : Type 0 where
  pub names : NamesTableFromOwn m v
  pub some : 0 < (entry_of m v).len
  pub whole : (entry_of m v).len % 16 ≡ 0
  pub past : 2 ^ 64 ≤ (entry_of m v).addr + (entry_of m v).len

-- a step is at an ordinary descriptor within the queue's size with bytes that end past 2^64 - 1
pub record OrdinaryOverflows (m : Memory) (q : Queue) (v : Visit) : Type 0 where
  pub ordinary : IsOrdinary m v
  pub room : v.earlier < q.size
  pub some : 0 < (entry_of m v).len
  pub past : 2 ^ 64 ≤ (entry_of m v).addr + (entry_of m v).len

-- the fault of a step: the first rule that it breaks (2.7.5 and 2.7.5.3.1). An ordinary descriptor is
-- `TooLong` if the walk passed as many as the queue's size, with or without NEXT
abbrev pub StepHasFault : Memory → Queue → Visit → ChainFault → Type 0
StepHasFault m q v NextOutOfTable = v.table.entries ≤ v.index
StepHasFault m q v TableUnreachable = EntryIsUnreadable m v × (v.table.indirect ≡ true)
StepHasFault m q v IndirectWithNext = NamesTable m v × (has_next (entry_of m v) ≡ true)
StepHasFault m q v IndirectNested = NamesTableLast m v × (v.table.indirect ≡ true)
StepHasFault m q v IndirectLength =
    NamesTableFromOwn m v × (((entry_of m v).len ≡ 0) ⊎ (0 < (entry_of m v).len % 16))
StepHasFault m q v AddressOverflow = TableOverflows m v ⊎ OrdinaryOverflows m q v
StepHasFault m q v TooLong = IsOrdinary m v × (v.earlier ≡ q.size)
StepHasFault m q v OverLimit = ⊥
StepHasFault m q v RequestUnreachable = ⊥
StepHasFault m q v RoomUnreachable = ⊥

-- a step stops the queue: the device can't read its entry of the queue's own table
abbrev pub StepStops : Memory → Visit → Type 0
StepStops m v = EntryIsUnreadable m v × (v.table.indirect ≡ false)

-- all steps but the last pass, and the last has a property
pub record EndsAt (m : Memory) (q : Queue) (vs : List Visit) (IsSo : Visit → Type 0) : Type 0 where
  pub front : List Visit
  pub last : Visit
  pub steps : vs ≡ front ++ last ∷ []
  pub pass : All (Passes m q) front
  pub here : IsSo last

-- the ordinary descriptors of some steps, in their order
abbrev pub ordinary_entries : Memory → List Visit → List Descriptor
ordinary_entries m vs = filter (λ d. not (is_indirect d)) (map (entry_of m) vs)

-- the result of some steps. It is the chain of their ordinary descriptors if each passes. Else it is the
-- last step's fault or stop
abbrev pub ComesTo : Memory → Queue → List Visit → Found → Type 0
ComesTo m q vs (IsChain ds) = All (Passes m q) vs × (ds ≡ ordinary_entries m vs)
ComesTo m q vs (HasFault fault) = EndsAt m q vs (λ v. StepHasFault m q v fault)
ComesTo m q vs StopsQueue = EndsAt m q vs (StepStops m)

-- theorem: the result of a walk, the longest path, is exactly the result of its steps
abbrev pub WalksFind : Type 0
WalksFind =
    (m : Memory) (q : Queue) (head : ℕ) (finds : Found) →
    (chain m q head ≡ finds) ↔ ComesTo m q (walk m q head) finds
