-- The places of a host's blocks that a run reads, and those that it writes. A step reads the available
-- ring's index and next entry, the descriptors that its walk visits, the request's bytes and, after its
-- stores, the available flags (VIRTIO 1.2, 2.7.5 to 2.7.8). A guest's read reads its addresses. A reply
-- buffer isn't read: the device may lend it to a file to be filled, but a file system's answer depends
-- only on its state and the call (`May`).
use Rattle.std.specs.Prelude.{◌==◌, ◌&&◌, ℕ, zero, suc, Bool, List, [], ◌∷◌, ◌++◌, length, Option, Some, None}
use Rattle.std.specs.Prelude.{if◌then◌else◌, slice_get}
use Rattle.std.specs.List.{flat_map, list_any}
use Rattle.vm_iotlb.specs.declared.permissions.Permissions.{Permissions}
use Rattle.vm_iotlb.specs.declared.permissions.Permissions.TheVariants.{Read, Write}
use Rattle.vm_memory_core.specs.Host.{Host, Place, byte_at}
use Rattle.vm_memory.specs.Memory.{Memory, addresses, location, physical, reach}
use Rattle.fs_queue.specs.declared.fault.QueueError.TheVariants as stop
use Rattle.fs_queue.specs.Queue.{Queue, avail_index_at, ring_entry_at}
use Rattle.fs_queue.specs.NextAvail.{NextAvail, next_avail}
use Rattle.fs_queue.specs.NextAvail as avail
use Rattle.fs_queue.specs.Chain.{Visit, entry_address, Found, IsChain, HasFault, StopsQueue, walk, chain}
use Rattle.fs_queue.specs.Loads.{reads_entry}
use Rattle.fs_queue.specs.Taking.{Offer, Idle, Refuses, Offers, IsRequest, CannotFetch, readable, room_of}
use Rattle.fs_queue.specs.Taking.{offer, addresses_of}
use Rattle.server_meanings.specs.Serving.{May}
use Rattle.plain_machine.specs.declared.error.DeviceError.{DeviceError}
use Rattle.plain_machine.specs.MarkedPages.{returned_addresses}
use Rattle.plain_machine.specs.Step as step
use Rattle.plain_machine.specs.Step.{State, StepEnd, Refused, Exchanged}
use Rattle.plain_machine.specs.Run as run
use Rattle.plain_machine.specs.Run.{Command, Answer, Turns, KickRun, Kicks, KickAnswer, Performs, RunReported}

-- ---- places

-- the place of an address, if it is mapped
abbrev pub place_if : Option Place → List Place
place_if None = []
place_if (Some p) = p ∷ []

-- the places of some addresses, for an access; an unmapped address adds none
abbrev pub places_for : Memory → Permissions → List ℕ → List Place
places_for m access as' = flat_map (λ a. place_if (location m access a)) as'

-- whether a place is at this offset of this block; the page that a write there marks doesn't matter
abbrev pub is_at : (block offset : ℕ) → Place → Bool
is_at block offset p = (p.block == block) && (p.offset == offset)

-- whether one of some places is at this offset of this block
abbrev pub is_among : (block offset : ℕ) → List Place → Bool
is_among block offset ps = list_any (is_at block offset) ps

-- the byte at an offset of a block, if there is one
abbrev pub byte_of : Host → (block offset : ℕ) → Option ℕ
byte_of h block offset = byte_at h (record { block = block; offset = offset; io = None })

-- ---- the reads of a step

-- the reads of the available ring (2.7.6): its index, if mapped, and the entry with the next head. The
-- entry isn't read if the index is invalid or shows no available chain, or if the entry isn't mapped
abbrev pub ring_reads : Queue → NextAvail → List ℕ
ring_reads q avail.Idle = addresses (avail_index_at q) 2
ring_reads q (avail.Head head) = addresses (avail_index_at q) 2 ++ addresses (ring_entry_at q) 2
ring_reads q (avail.Refused stop.AvailIndexUnreachable) = []
ring_reads q (avail.Refused stop.HeadOutOfTable) =
    addresses (avail_index_at q) 2 ++ addresses (ring_entry_at q) 2
ring_reads q (avail.Refused _) = addresses (avail_index_at q) 2

-- the read of a descriptor table in a step of a walk (2.7.5): an entry, unless it is past the table's
-- end or isn't mapped
abbrev pub entry_reads : Memory → Visit → List ℕ
entry_reads m v =
    if reads_entry v && reach m Read (entry_address v) 16 then addresses (entry_address v) 16 else []

-- the reads of all tables in the walk from a head: an entry for each of its steps
abbrev pub walk_reads : Memory → Queue → (head : ℕ) → List ℕ
walk_reads m q head = flat_map (entry_reads m) (walk m q head)

-- the addresses of a chain's request: its device-readable bytes
abbrev pub request_reads : Found → List ℕ
request_reads (IsChain ds) = addresses_of (readable ds)
request_reads (HasFault fault) = []
request_reads StopsQueue = []

-- the reads from a head on: the tables, unless the used ring isn't mapped, and the request, if it can
-- be fetched
abbrev pub chain_reads : Memory → Queue → (head : ℕ) → Offer → List ℕ
chain_reads m q head (Offers _ (IsRequest request room)) =
    walk_reads m q head ++ request_reads (chain m q head)
chain_reads m q head (Offers _ (CannotFetch why)) = walk_reads m q head
chain_reads m q head (Refuses stop.DescriptorUnreachable) = walk_reads m q head
chain_reads m q head (Refuses _) = []
chain_reads m q head Idle = []

-- the reads behind the ring: those from a head on if a chain is available, else none
abbrev pub waiting_reads : Memory → Queue → NextAvail → Offer → List ℕ
waiting_reads m q (avail.Head head) offered = chain_reads m q head offered
waiting_reads m q avail.Idle offered = []
waiting_reads m q (avail.Refused e) offered = []

-- the reads of a step before its calls; a stopped queue reads nothing
abbrev pub offer_reads : Memory → (limit : ℕ) → Queue → List ℕ
offer_reads m limit q =
    if q.stopped then []
    else ring_reads q (next_avail m q) ++ waiting_reads m q (next_avail m q) (offer m limit q)

-- the reads of a step after its stores: the available flags (2.7.7), if it returns a chain
abbrev pub flag_reads : Queue → StepEnd → List ℕ
flag_reads q (Exchanged x notice) = addresses q.avail 2
flag_reads q step.Idle = []
flag_reads q (Refused e) = []

-- ---- the writes of a step

-- the reply buffer of an offer
abbrev pub room_in : Offer → List ℕ
room_in (Offers head fetched) = room_of fetched
room_in (Refuses e) = []
room_in Idle = []

-- the writes of a step: the reply to the reply buffer, the used element and the used index (2.7.8), if
-- it returns a chain
abbrev pub step_writes : Queue → Offer → StepEnd → List ℕ
step_writes q offered (Exchanged x notice) = returned_addresses q x.head (room_in offered) x.reply
step_writes q offered step.Idle = []
step_writes q offered (Refused e) = []

-- ---- the places that a run touches

-- the places that are read, and those that are written
pub record Touched : Type 0 where
  pub read : List Place
  pub written : List Place

-- no place is touched
abbrev pub nothing : Touched
nothing = record { read = []; written = [] }

-- the places of a part of a run, and then those of the part after it
abbrev pub and_then : Touched → Touched → Touched
and_then t u = record { read = t.read ++ u.read; written = t.written ++ u.written }

-- the places that a step with this end touches; the flags' place doesn't change before they are read
abbrev pub step_touches : {F : Type 0} → State F → Option Queue → StepEnd → Touched
step_touches s None outcome = nothing
step_touches s (Some q) outcome =
    record {
      read = places_for s.memory Read (offer_reads s.memory s.limit q ++ flag_reads q outcome);
      written = places_for s.memory Write (step_writes q (offer s.memory s.limit q) outcome);
    }

-- the places that the last step of a kick touches, if that step exchanges no chain
abbrev pub end_touches : {F : Type 0} → State F → (queue most : ℕ) → Option DeviceError → Touched
end_touches s i zero refused = nothing
end_touches s i (suc most) None = step_touches s (slice_get s.queues i) step.Idle
end_touches s i (suc most) (Some e) = step_touches s (slice_get s.queues i) (Refused e)

-- the places that a kick touches, step by step
unfoldable pub kick_touches : {F : Type 0} → (may : May F) → (s : State F) → (queue most : ℕ) →
    (turns : Turns) → (refused : Option DeviceError) → (after : State F) →
    KickRun may s queue most turns refused after → Touched
unfolding KickRun
kick_touches may s i most [] refused after ends = end_touches s i most refused
kick_touches may s i zero (t ∷ ts) refused after none = nothing
kick_touches may s i (suc most) (t ∷ ts) refused after (mid, first, rest) =
    and_then (step_touches s (slice_get s.queues i) (Exchanged t.exchange t.notice))
    (kick_touches may mid i most ts refused after rest)

-- the places that a kick of a queue touches; none if the queue is missing
abbrev pub kicks_touch : {F : Type 0} → (may : May F) → (s : State F) → (queue most : ℕ) →
    (o : Option Queue) → (turns : Turns) → (k : KickAnswer) → (after : State F) →
    Kicks may s queue most o turns k after → Touched
kicks_touch may s i most None turns k after kicked = nothing
kicks_touch may s i most (Some q) turns k after kicked =
    kick_touches may s i most turns k.refused after kicked.0

-- the places that a guest's read with this answer touches: its physical addresses; none if it is
-- refused
abbrev pub guest_reads : {F : Type 0} → State F → (addr len : ℕ) → Answer → Touched
guest_reads s a n (run.Bytes bytes) =
    record { read = places_for (physical s.memory) Read (addresses a n); written = [] }
guest_reads s a n _ = nothing

-- the places that a guest's write with this answer touches; none if it is refused
abbrev pub guest_writes : {F : Type 0} → State F → (addr len : ℕ) → Answer → Touched
guest_writes s a n run.Done =
    record { read = []; written = places_for (physical s.memory) Write (addresses a n) }
guest_writes s a n _ = nothing

-- the places that a command other than a kick touches. Changes of layouts, tables, queues or the
-- IOMMU's switch touch no byte, and a new block has no byte that existed before
abbrev pub plain_touches : {F : Type 0} → State F → Command → Answer → Touched
plain_touches s (run.GuestRead a n) answer = guest_reads s a n answer
plain_touches s (run.GuestWrite a bytes) answer = guest_writes s a (length bytes) answer
plain_touches s _ answer = nothing

-- the places that a command touches
abbrev pub command_touches : {F : Type 0} → (may : May F) → (s : State F) → (command : Command) →
    (turns : Turns) → (answer : Answer) → (after : State F) →
    Performs may s command turns answer after → Touched
command_touches may s (run.Kick i most) turns (run.Served k) after done =
    kicks_touch may s i most (slice_get s.queues i) turns k after done
command_touches may s (run.Kick i most) turns _ after done = nothing
command_touches may s command turns answer after done = plain_touches s command answer

-- the places that a run touches, command by command
unfoldable pub run_touches : {F : Type 0} → (may : May F) → (s : State F) →
    (events : List (Command × Answer)) → (all_turns : List Turns) → (after : State F) →
    RunReported may s events all_turns after → Touched
unfolding RunReported
run_touches may s [] [] after ran = nothing
run_touches may s [] (turns ∷ all_turns) after none = nothing
run_touches may s (e ∷ es) [] after none = nothing
run_touches may s (e ∷ es) (turns ∷ all_turns) after (mid, first, rest) =
    and_then (command_touches may s e.0 turns e.1 mid first)
    (run_touches may mid es all_turns after rest)

-- the read set of a run: the places that it reads
abbrev pub read_set : {F : Type 0} → (may : May F) → (s : State F) → (events : List (Command × Answer)) →
    (all_turns : List Turns) → (after : State F) →
    RunReported may s events all_turns after → List Place
read_set may s events all_turns after ran = (run_touches may s events all_turns after ran).read

-- the places that a run writes
abbrev pub written_set : {F : Type 0} → (may : May F) → (s : State F) → (events : List (Command × Answer)) →
    (all_turns : List Turns) → (after : State F) →
    RunReported may s events all_turns after → List Place
written_set may s events all_turns after ran = (run_touches may s events all_turns after ran).written
