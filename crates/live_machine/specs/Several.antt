-- Several chains of one queue in flight: the next available and the next used position are apart, and chains
-- are returned in any order (VIRTIO 1.2, 2.7.6, 2.7.8).
use Rattle.std.specs.Prelude.{◌≡◌, ℕ, ◌+◌, ◌-◌, ◌*◌, ◌%◌, ◌^◌, ◌<◌, ◌==◌, Bool, true, false, not, nat_lt}
use Rattle.std.specs.Prelude.{List, [], ◌∷◌, ◌++◌, map, IsTrue, IsPermutation, Option, Some, None}
use Rattle.std.specs.Prelude.{if◌then◌else◌}
use Rattle.std.specs.Int.{w16, to_le_bytes, from_le_bytes}
use Rattle.vm_iotlb.specs.declared.iova.IovaRange.{IovaRange}
use Rattle.vm_iotlb.specs.declared.permissions.Permissions.{Permissions}
use Rattle.vm_iotlb.specs.declared.permissions.Permissions.TheVariants.{Read, Write}
use Rattle.vm_memory.specs.Memory.{Memory, reach}
use Rattle.fs_queue.specs.declared.fault.QueueError.{QueueError}
use Rattle.fs_queue.specs.declared.fault.QueueError.TheVariants.{AvailFlagsUnreachable, UsedUnreachable}
use Rattle.fs_queue.specs.Queue.{Queue}
use Rattle.fs_queue.specs.Returning.{Store, stores_after_reply, next_position, advanced, notifies}
use Rattle.fs_regions.specs.Misses.{first_miss}

-- a queue of which several chains may be in flight. The next chain is popped at its queue's `position`, and
-- returned at `next_used`, both modulo 2^16. It has a limit of chains in flight, and whether
-- VIRTIO_F_EVENT_IDX was negotiated
pub record LiveQueue : Type 0 where
  pub queue : Queue
  pub next_used : ℕ
  pub max_in_flight : ℕ
  pub event_index : Bool

-- a queue with these parts, without the event index
abbrev pub by_flags : Queue → (next_used max_in_flight : ℕ) → LiveQueue
by_flags q next_used max_in_flight =
    record { queue = q; next_used = next_used; max_in_flight = max_in_flight; event_index = false }

-- the parts of a queue that no record of a device has
abbrev pub unrecorded : LiveQueue → ℕ × Bool
unrecorded w = (w.max_in_flight, w.event_index)

-- how many chains are in flight, by the positions of the next pop and the next return
abbrev pub in_flight_between : (next_avail next_used : ℕ) → ℕ
in_flight_between next_avail next_used = (next_avail + (2 ^ 16 - next_used)) % 2 ^ 16

abbrev pub in_flight : LiveQueue → ℕ
in_flight w = in_flight_between w.queue.position w.next_used

-- whether one more chain may be in flight
abbrev pub may_take : LiveQueue → Bool
may_take w = nat_lt (in_flight w) w.max_in_flight

-- the queue as a return uses it: the used element and index are by the next used position
abbrev pub returning : LiveQueue → Queue
returning w = record (w.queue) { position = w.next_used }

-- a chain was popped
abbrev pub took : LiveQueue → LiveQueue
took w = record w { queue = advanced w.queue }

-- a chain was returned
abbrev pub gave : LiveQueue → LiveQueue
gave w = record w { next_used = next_position (returning w) }

-- the chain that was popped last was given up: the next pop takes it again
abbrev pub gave_up : LiveQueue → LiveQueue
gave_up w = record w { queue = record (w.queue) { position = (w.queue.position + (2 ^ 16 - 1)) % 2 ^ 16 } }

-- a chain in flight: the position of its pop, and its head
abbrev pub InFlightId : Type 0
InFlightId = ℕ × ℕ

-- an event of a queue:
-- - a chain with this head is popped
-- - the chain that was popped last is given up
-- - a chain is returned with a reply of `len` bytes, by these stores
pub data QueueEvent : Type 0 where
  PopsOne : (head : ℕ) → QueueEvent
  DropsLast : InFlightId → QueueEvent
  PushesOne : InFlightId → (len : ℕ) → List Store → QueueEvent

-- a run, with the chains in flight before and after it
abbrev pub RunsOver : LiveQueue → List InFlightId → List QueueEvent → LiveQueue → List InFlightId → Type 0
RunsOver w chains [] w' chains' = (w' ≡ w) × (chains' ≡ chains)
RunsOver w chains (PopsOne head ∷ es) w' chains' =
    IsTrue (may_take w) × RunsOver (took w) (chains ++ (w.queue.position, head) ∷ []) es w' chains'
RunsOver w chains (DropsLast t ∷ es) w' chains' =
    (before : List InFlightId) × (behind : List InFlightId)
    × (chains ≡ before ++ t ∷ behind)
    × (w.queue.position ≡ (t.0 + 1) % 2 ^ 16)
    × RunsOver (gave_up w) (before ++ behind) es w' chains'
RunsOver w chains (PushesOne t len stores ∷ es) w' chains' =
    (before : List InFlightId) × (behind : List InFlightId)
    × (chains ≡ before ++ t ∷ behind)
    × (stores ≡ stores_after_reply (returning w) t.1 len)
    × RunsOver (gave w) (before ++ behind) es w' chains'

-- the heads that were popped
abbrev pub heads_taken : List QueueEvent → List ℕ
heads_taken [] = []
heads_taken (PopsOne head ∷ es) = head ∷ heads_taken es
heads_taken (DropsLast t ∷ es) = heads_taken es
heads_taken (PushesOne t len stores ∷ es) = heads_taken es

-- the heads that were returned, or given up
abbrev pub heads_ended : List QueueEvent → List ℕ
heads_ended [] = []
heads_ended (PopsOne head ∷ es) = heads_ended es
heads_ended (DropsLast t ∷ es) = t.1 ∷ heads_ended es
heads_ended (PushesOne t len stores ∷ es) = t.1 ∷ heads_ended es

-- each chain that was popped was returned once, or was given up once, or is in flight
abbrev pub OncePerChain : Type 0
OncePerChain =
    (w w' : LiveQueue) (chains' : List InFlightId) (es : List QueueEvent) →
    RunsOver w [] es w' chains' →
    IsPermutation (heads_ended es ++ map (λ t. t.1) chains') (heads_taken es)

-- the stores of the returns, in their order
abbrev pub returns_among : List QueueEvent → List (InFlightId × ℕ × List Store)
returns_among [] = []
returns_among (PopsOne head ∷ es) = returns_among es
returns_among (DropsLast t ∷ es) = returns_among es
returns_among (PushesOne t len stores ∷ es) = (t, len, stores) ∷ returns_among es

-- they fill one used position after another, in any order of the pops
abbrev pub UsedFrom : LiveQueue → List (InFlightId × ℕ × List Store) → Type 0
UsedFrom w [] = Unit {0}
UsedFrom w (r ∷ rs) = (r.2 ≡ stores_after_reply (returning w) r.0.1 r.1) × UsedFrom (gave w) rs

abbrev pub UsedInOrder : Type 0
UsedInOrder =
    (w w' : LiveQueue) (chains chains' : List InFlightId) (es : List QueueEvent) →
    RunsOver w chains es w' chains' →
    UsedFrom w (returns_among es)

-- one chain at a time: each pop is followed by its return
abbrev pub IsSerial : List QueueEvent → Type 0
IsSerial [] = Unit {0}
IsSerial (PopsOne head ∷ PushesOne t len stores ∷ es) = (t.1 ≡ head) × IsSerial es
IsSerial _ = ⊥

-- then a return's stores are those of the queue as it was before the pop
abbrev pub StoresAsTaken : Queue → List QueueEvent → Type 0
StoresAsTaken q [] = Unit {0}
StoresAsTaken q (PopsOne head ∷ PushesOne t len stores ∷ es) =
    (stores ≡ stores_after_reply q head len) × StoresAsTaken (advanced q) es
StoresAsTaken q _ = ⊥

-- so it is for a queue without chains in flight
abbrev pub OneAtATime : Type 0
OneAtATime =
    (w w' : LiveQueue) (chains' : List InFlightId) (es : List QueueEvent) →
    w.next_used ≡ w.queue.position →
    IsSerial es →
    RunsOver w [] es w' chains' →
    StoresAsTaken w.queue es

-- VIRTIO_F_IN_ORDER (2.7.9): only the oldest chain is returned, and only the youngest is given up
abbrev pub IsOldestFirst : LiveQueue → List InFlightId → List QueueEvent → Type 0
IsOldestFirst w chains [] = Unit {0}
IsOldestFirst w chains (PopsOne head ∷ es) =
    IsOldestFirst (took w) (chains ++ (w.queue.position, head) ∷ []) es
IsOldestFirst w chains (DropsLast t ∷ es) =
    (before : List InFlightId) × (chains ≡ before ++ t ∷ []) × IsOldestFirst (gave_up w) before es
IsOldestFirst w [] (PushesOne t len stores ∷ es) = ⊥
IsOldestFirst w (first ∷ chains) (PushesOne t len stores ∷ es) =
    (t ≡ first)
    × IsOldestFirst (gave w) chains es

-- each return is at the position of its chain's pop
abbrev pub AtTheirPositions : LiveQueue → List (InFlightId × ℕ × List Store) → Type 0
AtTheirPositions w [] = Unit {0}
AtTheirPositions w (r ∷ rs) = (r.0.0 ≡ w.next_used) × AtTheirPositions (gave w) rs

-- so it is for a queue without chains in flight
abbrev pub KeepsOrder : Type 0
KeepsOrder =
    (w : LiveQueue) (es : List QueueEvent) →
    w.next_used ≡ w.queue.position →
    w.queue.position < 2 ^ 16 →
    IsOldestFirst w [] es →
    AtTheirPositions w (returns_among es)

-- ---- VIRTIO_F_EVENT_IDX (2.7.7.2, 2.7.10)

-- the driver's used_event is stored behind the available ring, the device's avail_event behind the used ring
abbrev pub used_event_at : Queue → ℕ
used_event_at q = q.avail + 4 + 2 * q.size

abbrev pub avail_event_at : Queue → ℕ
avail_event_at q = q.used + 4 + 8 * q.size

-- the queue has the event index, or it hasn't and goes by the rings' flags
abbrev pub HasEventIndex : LiveQueue → Type 0
HasEventIndex w = w.event_index ≡ true

abbrev pub LacksEventIndex : LiveQueue → Type 0
LacksEventIndex w = w.event_index ≡ false

-- the address of the two bytes that are seen as a chain is returned
abbrev pub seen_at : LiveQueue → ℕ
seen_at w = if w.event_index then used_event_at w.queue else w.queue.avail

-- whether an index that moved from old to new passed an event (vring_need_event of linux/virtio_ring.h)
abbrev pub passes : (event old new : ℕ) → Bool
passes event old new = nat_lt ((new + (2 ^ 16 - 1 - event)) % 2 ^ 16) ((new + (2 ^ 16 - old)) % 2 ^ 16)

-- whether the driver enabled the notification of the next return, by the two bytes that were seen: the
-- available flags, or with the event index used_event
abbrev pub wants : LiveQueue → (seen : List ℕ) → Bool
wants w seen = if w.event_index then from_le_bytes w16 seen == w.next_used else notifies seen

-- with used_event the notification is enabled exactly if the used index passes it
abbrev pub ByEvent : Type 0
ByEvent =
    (w : LiveQueue) (seen : List ℕ) →
    HasEventIndex w →
    w.next_used < 2 ^ 16 →
    from_le_bytes w16 seen < 2 ^ 16 →
    wants w seen ≡ passes (from_le_bytes w16 seen) w.next_used (next_position (returning w))

-- the address of the two bytes by which the device enables or disables notifications of new chains:
-- avail_event, or the used ring's flags
abbrev pub wish_at : LiveQueue → ℕ
wish_at w = if w.event_index then avail_event_at w.queue else w.queue.used

-- the store that enables or disables the notification of the next chain. With the event index it is the next
-- chain's position, and nothing is stored to disable. Otherwise it is the used flags, bit 0 of which disables
-- the notification
abbrev pub sleep_store : LiveQueue → (wanted : Bool) → Option Store
sleep_store w wanted =
    if w.event_index then (if wanted then Some
    (record { address = avail_event_at w.queue; bytes = to_le_bytes w16 w.queue.position }) else None)
    else Some (record { address = w.queue.used; bytes = to_le_bytes w16 (if wanted then 0 else 1) })

-- why no chain can be popped from a queue with the event index: used_event or avail_event isn't mapped
abbrev pub event_refusal : Memory → LiveQueue → Option QueueError
event_refusal m w =
    if not w.event_index then None
    else if not (reach m Read (used_event_at w.queue) 2) then Some AvailFlagsUnreachable
    else if not (reach m Write (avail_event_at w.queue) 2) then Some UsedUnreachable
    else None

-- the first range of used_event and avail_event that the table doesn't map, with the access that is needed
abbrev pub event_miss_of : Memory → LiveQueue → Option (IovaRange × Permissions)
event_miss_of m w =
    if w.event_index
    then first_miss m (record { from = used_event_at w.queue; len = 2; access = Read }
    ∷ record { from = avail_event_at w.queue; len = 2; access = Write } ∷ []) else None
