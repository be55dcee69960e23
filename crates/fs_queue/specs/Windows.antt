-- The windows of a chain that was popped: those of its descriptors and those of its return. Each address
-- is translated by itself.
use Rattle.std.specs.Prelude.{◌≡◌, ◌<◌, ◌≤◌, ◌⊎◌, ℕ, Bool, true, false, IsTrue, List, [], ◌++◌, length, map}
use Rattle.std.specs.Prelude.{Option, Some, None, Result, Ok, Err}
use Rattle.vm_iotlb.specs.declared.permissions.Permissions.TheVariants.{Read, Write}
use Rattle.vm_memory_core.specs.Host.{Place}
use Rattle.vm_memory_core.specs.Window.{places, AllLieIn, byte_in}
use Rattle.vm_memory.specs.Memory.{Memory, addresses, location, located}
use Rattle.fs_queue.specs.declared.fault.ChainFault.{ChainFault}
use Rattle.fs_queue.specs.declared.fault.QueueError.{QueueError}
use Rattle.fs_queue.specs.declared.fault.QueueError.TheVariants as stop
use Rattle.fs_queue.specs.declared.chain.Chain.{Chain}
use Rattle.fs_queue.specs.declared.chain.ReturnWindows.{ReturnWindows}
use Rattle.fs_queue.specs.Queue.{Queue, element_at, index_at}
use Rattle.fs_queue.specs.Chain.{Descriptor, Found, IsChain, HasFault, StopsQueue, chain}
use Rattle.fs_queue.specs.Taking.{readable, writable, addresses_of, total_len, request_and_room}
use Rattle.fs_queue.specs.Taking.{RequestAndRoom, IsRequest, CannotFetch, Idle, Refuses, Offers, offer}
use Rattle.fs_queue.specs.Taking.{may_lack_memory, after_refusal}

-- the places of a return: of the used element and the used index, and of the available flags (2.7.8 and
-- 2.7.7). Or the refusal if one of their addresses isn't mapped
pub data ReturnPlaces : Type 0 where
  HasBoth : (used flags : List Place) → ReturnPlaces
  Lacks : QueueError → ReturnPlaces

-- the places of a return from the two lists; the first list that is missing is the refusal
abbrev pub return_places_found : (used flags : Option (List Place)) → ReturnPlaces
return_places_found None flags = Lacks stop.UsedUnreachable
return_places_found (Some used) None = Lacks stop.AvailFlagsUnreachable
return_places_found (Some used) (Some flags) = HasBoth used flags

-- the addresses of the used element, then those of the used index
abbrev pub used_addresses : Queue → List ℕ
used_addresses q = addresses (element_at q) 8 ++ addresses (index_at q) 2

-- the places of a queue's return: the device writes the element and the index, and reads the flags
abbrev pub return_places_at : Memory → Queue → ReturnPlaces
return_places_at m q =
    return_places_found (located (location m Write) (used_addresses q))
    (located (location m Read) (addresses q.avail 2))

-- the refusal, if places of a return are missing
abbrev pub missing_of : ReturnPlaces → Option QueueError
missing_of (HasBoth used flags) = None
missing_of (Lacks e) = Some e

-- the places of a return's windows, unless there is a refusal
abbrev pub return_places_of : Option QueueError → ReturnWindows → ReturnPlaces
return_places_of None windows = HasBoth (places windows.used.items) (places windows.flags.items)
return_places_of (Some e) windows = Lacks e

-- windows have the places of a queue's return: `used` those of the used element and then the used index,
-- `flags` those of the available flags
pub record HoldsReturnWindows (m : Memory) (q : Queue) (windows : ReturnWindows) : Type 0 where
  pub used : located (location m Write) (used_addresses q) ≡ Some (places windows.used.items)
  pub flags : located (location m Read) (addresses q.avail 2) ≡ Some (places windows.flags.items)

-- a chain's windows have the request's bytes and the room's places, or both sides have the same fault
abbrev pub HoldsChain : Memory → RequestAndRoom → Result Chain ChainFault → Type 0
HoldsChain m (IsRequest request room) (Ok c) =
    (request ≡ map (byte_in m.host) (places c.readable.items))
    × (located (location m Write) room ≡ Some (places c.writable.items))
HoldsChain m (CannotFetch why) (Err fault) = fault ≡ why
HoldsChain m _ _ = ⊥

-- a chain's windows have the request and the room of a walk's result, or its fault
abbrev pub HoldsFound : Memory → ℕ → Found → Result Chain ChainFault → Type 0
HoldsFound m limit (IsChain ds) c = HoldsChain m (request_and_room m limit ds) c
HoldsFound m limit (HasFault fault) c = HoldsChain m (CannotFetch fault) c
HoldsFound m limit StopsQueue c = ⊥

-- neither the request nor the room of some descriptors has more bytes than a limit
abbrev pub KeepsLimit : (limit : ℕ) → List Descriptor → Type 0
KeepsLimit limit ds = (total_len (readable ds) ≤ limit) × (total_len (writable ds) ≤ limit)

-- a walk ended with a chain of more descriptors than a list has room for
abbrev pub IsLongChain : (room : ℕ) → Found → Type 0
IsLongChain room found = (ds : List Descriptor) × (found ≡ IsChain ds) × (room < length ds)

-- a walk ended with a chain or a fault, so it didn't stop the queue
abbrev pub DoesNotStop : Found → Type 0
DoesNotStop (IsChain ds) = Unit {0}
DoesNotStop (HasFault fault) = Unit {0}
DoesNotStop StopsQueue = ⊥

-- the refusal of a walk's result if the windows of its return can't be allocated:
-- `DescriptorUnreachable` if the walk stopped the queue, else `OutOfMemory`
abbrev pub RefusesFound : Found → QueueError → Type 0
RefusesFound found stop.OutOfMemory = DoesNotStop found
RefusesFound found stop.DescriptorUnreachable = found ≡ StopsQueue
RefusesFound found _ = ⊥

-- a walk's result may need an allocation: a chain does if it has more descriptors than the list has room
-- for, or if it is within the limit
abbrev pub WantsMemory : (limit room : ℕ) → Found → Type 0
WantsMemory limit room (IsChain ds) = (room < length ds) ⊎ KeepsLimit limit ds
WantsMemory limit room (HasFault fault) = ⊥
WantsMemory limit room StopsQueue = ⊥

-- the refusal of a walk's result once its return has windows: the walk stopped the queue, or an
-- allocation failed
abbrev pub RefusesHeld : (limit room : ℕ) → Found → QueueError → Type 0
RefusesHeld limit room found stop.OutOfMemory = WantsMemory limit room found
RefusesHeld limit room found stop.DescriptorUnreachable = found ≡ StopsQueue
RefusesHeld limit room found _ = ⊥

-- a chain that was popped: its head, the chain or its fault, and the windows of its return
pub record Taken : Type 0 where
  pub head : ℕ
  pub chain : Result Chain ChainFault
  pub return_windows : ReturnWindows

-- a chain, unless a fault was found
abbrev pub unless_faulty : Option ChainFault → Chain → Result Chain ChainFault
unless_faulty None chain = Ok chain
unless_faulty (Some fault) chain = Err fault

-- a chain was popped from a queue that offered this
pub record IsTaken (m : Memory) (q : Queue) (fetched : RequestAndRoom) (t : Taken) : Type 0 where
  pub return_windows : HoldsReturnWindows m q t.return_windows
  pub chain : HoldsChain m fetched t.chain

-- a chain's windows lie in blocks of these lengths
abbrev pub ChainLiesIn : List ℕ → Result Chain ChainFault → Type 0
ChainLiesIn lengths (Ok c) = AllLieIn lengths c.readable.items × AllLieIn lengths c.writable.items
ChainLiesIn lengths (Err fault) = Unit {0}

-- a return's windows lie in blocks of these lengths; 10 bytes are written there, and 2 read
pub record ReturnWindowsLieIn (lengths : List ℕ) (windows : ReturnWindows) : Type 0 where
  pub used : AllLieIn lengths windows.used.items
  pub flags : AllLieIn lengths windows.flags.items
  pub used_len : length (places windows.used.items) ≡ 10
  pub flags_len : length (places windows.flags.items) ≡ 2

-- all windows of a popped chain lie in blocks of these lengths
pub record TakenLiesIn (lengths : List ℕ) (t : Taken) : Type 0 where
  pub return_windows : ReturnWindowsLieIn lengths t.return_windows
  pub chain : ChainLiesIn lengths t.chain

-- a chain has no window and no fault, so no byte can be read or written by it
abbrev pub LacksWindows : Result Chain ChainFault → Type 0
LacksWindows (Ok c) = (c.readable.items ≡ []) × (c.writable.items ≡ [])
LacksWindows (Err fault) = ⊥

-- a `Taken` is empty: it has no window of a return and none of a chain, so nothing can be returned by it
abbrev pub IsEmpty : Taken → Type 0
IsEmpty t = (t.return_windows.used.items ≡ []) × (t.return_windows.flags.items ≡ []) × LacksWindows t.chain

-- a `Taken` is empty unless a chain was popped into it
abbrev pub IsEmptyUnlessTaken : Result Bool QueueError → Taken → Type 0
IsEmptyUnlessTaken (Ok true) t = Unit {0}
IsEmptyUnlessTaken (Ok false) t = IsEmpty t
IsEmptyUnlessTaken (Err e) t = IsEmpty t

-- a chain has no window
abbrev pub HasNoWindows : Chain → Type 0
HasNoWindows c = (c.readable.items ≡ []) × (c.writable.items ≡ [])

-- a return has no window
abbrev pub HasNoReturnWindows : ReturnWindows → Type 0
HasNoReturnWindows windows = (windows.used.items ≡ []) × (windows.flags.items ≡ [])

-- the number of bytes in a chain's room, 0 for a fault
abbrev pub room_places : Result Chain ChainFault → ℕ
room_places (Ok c) = length (places c.writable.items)
room_places (Err fault) = 0

-- the result of a pop: nothing, the chain that the queue offered, or a refusal. `OutOfMemory` is
-- possible only if the queue offered a chain
abbrev pub Takes : Memory → ℕ → Queue → Result (Option Taken) QueueError → Type 0
Takes m limit q (Ok None) = offer m limit q ≡ Idle
Takes m limit q (Ok (Some t)) =
    (fetched : RequestAndRoom) × (offer m limit q ≡ Offers t.head fetched) × IsTaken m q fetched t
Takes m limit q (Err stop.OutOfMemory) = IsTrue (may_lack_memory (offer m limit q))
Takes m limit q (Err e) = offer m limit q ≡ Refuses e

-- the result of a pop, from whether a chain was popped and the `Taken` after the call
abbrev pub taken_if : Taken → Result Bool QueueError → Result (Option Taken) QueueError
taken_if t (Ok true) = Ok (Some t)
taken_if t (Ok false) = Ok None
taken_if t (Err e) = Err e

-- the queue after a pop: each refusal stops it but `Stopped` and `OutOfMemory`
abbrev pub after_taking : Queue → Result (Option Taken) QueueError → Queue
after_taking q (Ok o) = q
after_taking q (Err e) = after_refusal q e

-- a chain has this head and the windows of these descriptors: of those that the device reads, and of
-- those that it writes. A fault has none
abbrev pub HoldsWindows : Memory → (head : ℕ) → Result Chain ChainFault → Found → Type 0
HoldsWindows m head (Ok c) (IsChain ds) =
    (c.head ≡ head)
    × (located (location m Read) (addresses_of (readable ds)) ≡ Some (places c.readable.items))
    × (located (location m Write) (addresses_of (writable ds)) ≡ Some (places c.writable.items))
HoldsWindows m head (Err fault) found = Unit {0}
HoldsWindows m head _ _ = ⊥

-- a popped chain has the windows of the chain that begins at its head
abbrev pub HasItsWindows : Memory → Queue → Taken → Type 0
HasItsWindows m q t = HoldsWindows m t.head t.chain (chain m q t.head)

-- the places of a chain's reply; a faulty chain has no room
abbrev pub chain_places : Result Chain ChainFault → List Place
chain_places (Ok c) = places c.writable.items
chain_places (Err fault) = []
