-- The offer of a queue: a chain's request and room, or the reason why there is none.
use Rattle.std.specs.Prelude.{ℕ, Bool, true, false, not, ◌&&◌, ◌||◌, nat_lt, List, [], Option, Some, None}
use Rattle.std.specs.Prelude.{if◌then◌else◌, sum_by, filter, flat_map}
use Rattle.std.specs.List.{list_all}
use Rattle.vm_iotlb.specs.declared.permissions.Permissions.{Permissions}
use Rattle.vm_iotlb.specs.declared.permissions.Permissions.TheVariants.{Read, Write}
use Rattle.vm_memory.specs.Memory.{Memory, reach, bytes, addresses}
use Rattle.fs_queue.specs.declared.fault.ChainFault.{ChainFault}
use Rattle.fs_queue.specs.declared.fault.ChainFault.TheVariants.{OverLimit, RequestUnreachable}
use Rattle.fs_queue.specs.declared.fault.ChainFault.TheVariants.{RoomUnreachable}
use Rattle.fs_queue.specs.declared.fault.QueueError.{QueueError}
use Rattle.fs_queue.specs.declared.fault.QueueError.TheVariants as stop
use Rattle.fs_queue.specs.Queue.{Queue, element_at, index_at, with_stop}
use Rattle.fs_queue.specs.Chain.{Descriptor, is_writable, Found, IsChain, HasFault, StopsQueue, chain}
use Rattle.fs_queue.specs.NextAvail.{NextAvail, next_avail}
use Rattle.fs_queue.specs.NextAvail as avail

-- the descriptors that the device reads, in their order
abbrev pub readable : List Descriptor → List Descriptor
readable ds = filter (λ d. not (is_writable d)) ds

-- the descriptors that the device writes, in their order
abbrev pub writable : List Descriptor → List Descriptor
writable ds = filter is_writable ds

-- the descriptors of one direction: true for those that the device writes, false for those that it reads
abbrev pub of_direction : Bool → List Descriptor → List Descriptor
of_direction true ds = writable ds
of_direction false ds = readable ds

-- the access that the device needs to the descriptors of a direction
abbrev pub access_of : Bool → Permissions
access_of true = Write
access_of false = Read

-- the addresses of some descriptors' bytes, joined
abbrev pub addresses_of : List Descriptor → List ℕ
addresses_of ds = flat_map (λ d. addresses d.addr d.len) ds

-- the number of bytes that some descriptors have
abbrev pub total_len : List Descriptor → ℕ
total_len ds = sum_by (λ d. d.len) ds

-- whether each address of some descriptors is mapped for an access
abbrev pub all_reach : Memory → Permissions → List Descriptor → Bool
all_reach m access ds = list_all (λ d. reach m access d.addr d.len) ds

-- the request's bytes, joined, and the addresses of the room; or the fault that prevents both
pub data RequestAndRoom : Type 0 where
  IsRequest : (request : List ℕ) (room : List ℕ) → RequestAndRoom
  CannotFetch : ChainFault → RequestAndRoom

-- the request and the room of a chain's descriptors, or the first of these faults: `OverLimit`,
-- `RequestUnreachable`, `RoomUnreachable`
abbrev pub request_and_room : Memory → ℕ → List Descriptor → RequestAndRoom
request_and_room m limit ds =
    if nat_lt limit (total_len (readable ds)) || nat_lt limit (total_len (writable ds))
    then CannotFetch OverLimit
    else if not (all_reach m Read (readable ds)) then CannotFetch RequestUnreachable
    else if not (all_reach m Write (writable ds)) then CannotFetch RoomUnreachable
    else IsRequest (flat_map (λ d. bytes m d.addr d.len) (readable ds))
    (flat_map (λ d. addresses d.addr d.len) (writable ds))

-- the fault of a chain's descriptors alone, if they have one, in the same order
abbrev pub chain_fault : Memory → (limit : ℕ) → List Descriptor → Option ChainFault
chain_fault m limit ds =
    if nat_lt limit (total_len (readable ds)) || nat_lt limit (total_len (writable ds)) then Some OverLimit
    else if not (all_reach m Read (readable ds)) then Some RequestUnreachable
    else if not (all_reach m Write (writable ds)) then Some RoomUnreachable
    else None

-- the offer of a queue: nothing, a refusal, or a chain's head with its request and room
pub data Offer : Type 0 where
  Idle : Offer
  Refuses : QueueError → Offer
  Offers : (head : ℕ) → RequestAndRoom → Offer

-- the offer, by the result of the walk from a head
abbrev pub offer_of : Memory → ℕ → ℕ → Found → Offer
offer_of m limit head (IsChain ds) = Offers head (request_and_room m limit ds)
offer_of m limit head (HasFault fault) = Offers head (CannotFetch fault)
offer_of m limit head StopsQueue = Refuses stop.DescriptorUnreachable

-- the offer once a head is available and its walk has this result. A return whose addresses aren't
-- mapped is refused first (2.7.8 and 2.7.7)
abbrev pub on_found : Memory → ℕ → Queue → (head : ℕ) → Found → Offer
on_found m limit q head f =
    if not (reach m Write (element_at q) 8 && reach m Write (index_at q) 2) then Refuses stop.UsedUnreachable
    else if not (reach m Read q.avail 2) then Refuses stop.AvailFlagsUnreachable
    else offer_of m limit head f

abbrev pub on_head : Memory → ℕ → Queue → (head : ℕ) → Offer
on_head m limit q head = on_found m limit q head (chain m q head)

-- the refusal if a chain can't be returned: used element or used index can't be written, or the
-- available flags can't be read (2.7.8 and 2.7.7)
abbrev pub return_fault : Memory → Queue → Option QueueError
return_fault m q =
    if not (reach m Write (element_at q) 8 && reach m Write (index_at q) 2) then Some stop.UsedUnreachable
    else if not (reach m Read q.avail 2) then Some stop.AvailFlagsUnreachable
    else None

-- the offer, by the next entry of the available ring
abbrev pub on_next_avail : Memory → ℕ → Queue → NextAvail → Offer
on_next_avail m limit q avail.Idle = Idle
on_next_avail m limit q (avail.Refused e) = Refuses e
on_next_avail m limit q (avail.Head head) = on_head m limit q head

-- the offer of a queue (2.7.13 from the device's side), with the first refusal that applies
unfoldable pub offer : Memory → ℕ → Queue → Offer
offer m limit q = if q.stopped then Refuses stop.Stopped else on_next_avail m limit q (next_avail m q)

-- whether an offer is neither a chain nor a refusal
abbrev pub is_idle : Offer → Bool
is_idle Idle = true
is_idle _ = false

-- whether a failed allocation may refuse this offer: only if it is a chain, so that a failed allocation
-- hides no other refusal
abbrev pub may_lack_memory : Offer → Bool
may_lack_memory (Offers head fetched) = true
may_lack_memory _ = false

-- whether a refusal stops the queue: each does but `Stopped` and `OutOfMemory`
abbrev pub stops_queue : QueueError → Bool
stops_queue stop.Stopped = false
stops_queue stop.OutOfMemory = false
stops_queue _ = true

-- the queue after a refusal
abbrev pub after_refusal : Queue → QueueError → Queue
after_refusal q e = if stops_queue e then with_stop q else q

-- the addresses of the room, none if there is a fault
abbrev pub room_of : RequestAndRoom → List ℕ
room_of (IsRequest request room) = room
room_of (CannotFetch why) = []
