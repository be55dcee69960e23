-- The calls that a chain's state allows, and the errors of the others, which change nothing.
use Rattle.std.specs.Prelude.{ℕ, ◌+◌, ◌-◌, ◌^◌, min, [], Bool, true, false, not, ◌==◌, ◌&&◌, ◌||◌, nat_lt}
use Rattle.std.specs.Prelude.{length, List, Option, Some, None, if◌then◌else◌}
use Rattle.fs_regions.specs.declared.course.Course.{Course}
use Rattle.fs_regions.specs.declared.walk.QueueWalk.{QueueWalk}
use Rattle.fs_regions.specs.Places.{Mapped, places_in}
use Rattle.fs_regions.specs.Walks.{asked_entries, asked_len}
use Rattle.server_phases.specs.declared.waiting.Awaits.{Awaits}
use Rattle.server_phases.specs.declared.waiting.Awaits.TheVariants as wants
use Rattle.fs_chain.specs.declared.queue.QueueState.{QueueState}
use Rattle.fs_chain.specs.declared.state.InFlight.{InFlight}
use Rattle.fs_chain.specs.declared.state.ChainReply.{ChainReply}
use Rattle.fs_chain.specs.declared.state.PopId.{PopId}
use Rattle.fs_chain.specs.declared.state.ChainState as state
use Rattle.fs_chain.specs.declared.state.ChainState.TheVariants as at
use Rattle.fs_chain.specs.Queues.{fits_pop, is_last, is_in_flight_of, may_take}
use Rattle.fs_chain.specs.declared.error.ChainError.{ChainError}
use Rattle.fs_chain.specs.declared.error.ChainError.TheVariants.{BadArgument, ShortBuffer, WrongOrder}
use Rattle.fs_chain.specs.declared.error.ChainError.TheVariants.{OtherQueue, ChainInFlight, OtherTable}
use Rattle.fs_chain.specs.declared.error.ChainError.TheVariants.{Pushing}
use Rattle.fs_chain.specs.Rings.{is_same_ring, ring_of}

-- whether a chain is in flight, of any queue
abbrev pub is_out : state.ChainState → Bool
is_out at.Free = false
is_out (at.Popping course pop_id walk) = false
is_out _ = true

-- P, if a pop asks for a load
abbrev pub IfPopping : state.ChainState → (QueueWalk → Type 0) → Type 0
IfPopping (at.Popping course pop_id walk) P = P walk
IfPopping _ P = Unit {0}

-- a pop asks for a load
abbrev pub IsPopping : state.ChainState → Type 0
IsPopping (at.Popping course pop_id walk) = Unit {0}
IsPopping _ = ⊥

-- how many table entries the pop asks for; their descriptors may join the chain
abbrev pub entries_asked : state.ChainState → ℕ
entries_asked (at.Popping course pop_id walk) = asked_entries walk
entries_asked _ = 0

-- why the handle can't take another memory and limit
abbrev pub memory_error : state.ChainState → (limit : ℕ) → Option ChainError
memory_error at.Free limit = if nat_lt limit 0x101000 || nat_lt (2 ^ 31) limit then Some BadArgument else None
memory_error _ limit = Some ChainInFlight

-- why a pop can't begin with `len` bytes
abbrev pub begin_error : QueueState → (len : ℕ) → Option ChainError
begin_error q len =
    if not (len == 0) then Some BadArgument else if not (may_take q) then Some ChainInFlight else None

-- why a pop can't continue with `len` bytes
abbrev pub give_error : QueueState → Course → PopId → (asked len : ℕ) → Option ChainError
give_error q course pop_id asked len =
    if not (len == asked) then Some BadArgument
    else if not (fits_pop q course pop_id) then Some OtherQueue
    else if not (may_take q) then Some ChainInFlight
    else None

-- why a call of `pop` changes nothing, other than for lack of memory
abbrev pub walk_error : state.ChainState → QueueState → (len : ℕ) → Option ChainError
walk_error at.Free q len = begin_error q len
walk_error (at.Popping course pop_id walk) q len = give_error q course pop_id (asked_len walk) len
walk_error _ q len = Some WrongOrder

-- why a request can't be decoded from `len` bytes
abbrev pub ask_error : state.ChainState → (len : ℕ) → Option ChainError
ask_error (at.Popped out) len = if nat_lt out.request_len len then Some BadArgument else None
ask_error _ len = Some WrongOrder

-- the bytes of a reply's front: none, if there is no front
abbrev pub front_in : Option (List ℕ) → List ℕ
front_in None = []
front_in (Some front) = front

abbrev pub front_of : ChainReply → List ℕ
front_of r = front_in r.front

abbrev pub front_len : ChainReply → ℕ
front_len r = length (front_of r)

-- how many bytes a reply has in its chain's reply buffer, data included: the `len` of the used element
-- (le32)
abbrev pub reply_len : InFlight → ChainReply → ℕ
reply_len out r = min (min (front_len r + r.behind) out.room_len) (2 ^ 32 - 1)

-- whether the queue's rings are where they were when the chain was popped: a push uses the table of its pop
abbrev pub has_ring : state.ChainState → Mapped → Bool
has_ring (at.Replied out reply) g =
    is_same_ring out.pop_id.ring (ring_of (places_in g) out.course.layout.used)
has_ring _ g = true

-- why a chain can't be pushed with a buffer of `len` bytes for its front. `ring`: whether the queue's rings
-- are where they were
abbrev pub push_error : (ring : Bool) → state.ChainState → QueueState → (len : ℕ) → Option ChainError
push_error ring (at.Replied out reply) q len =
    if not (is_in_flight_of q out) then Some OtherQueue
    else if q.pushing then Some Pushing
    else if not ring then Some OtherTable
    else if nat_lt len (front_len reply) then Some ShortBuffer
    else None
push_error ring _ q len = Some WrongOrder

-- the same, if the rings are where they were
abbrev pub push_refusal : state.ChainState → QueueState → (len : ℕ) → Option ChainError
push_refusal st q len = push_error true st q len

-- why a push can't be ended
abbrev pub end_error : state.ChainState → QueueState → Option ChainError
end_error (at.Pushing out) q = if is_in_flight_of q out && q.pushing then None else Some OtherQueue
end_error _ q = Some WrongOrder

-- why a chain can't be given up: once its request was decoded, only a push ends it, with a reply or
-- without
abbrev pub give_up_error : state.ChainState → QueueState → Option ChainError
give_up_error at.Free q = None
give_up_error (at.Popping course pop_id walk) q = None
give_up_error (at.Popped out) q =
    if not (is_in_flight_of q out) then Some OtherQueue
    else if not (is_last q out) then Some WrongOrder
    else None
give_up_error _ q = Some WrongOrder

-- whether no chain is being popped, and none is in flight
abbrev pub is_free : state.ChainState → Bool
is_free at.Free = true
is_free _ = false

-- whether a listing gathers entries
abbrev pub is_listing : state.ChainState → Bool
is_listing (at.Listing out listing) = true
is_listing _ = false

-- how many bytes of a load the pop asks for; 0 if there is none
abbrev pub load_len : state.ChainState → ℕ
load_len (at.Popping course pop_id walk) = asked_len walk
load_len _ = 0

-- how many bytes of data a call can be answered with, if it is a READ
abbrev pub file_limit : Awaits → Option ℕ
file_limit (wants.FileBytes most) = Some most
file_limit _ = None

-- the same of the call in flight
abbrev pub read_limit : state.ChainState → Option ℕ
read_limit (at.Decoded out waiting) = file_limit waiting.awaits
read_limit _ = None

-- the length of the chain's reply buffer; 0 if no chain is in flight
abbrev pub room_len : state.ChainState → ℕ
room_len (at.Popped out) = out.room_len
room_len (at.Decoded out waiting) = out.room_len
room_len (at.Listing out listing) = out.room_len
room_len (at.Replied out reply) = out.room_len
room_len (at.Pushing out) = out.room_len
room_len _ = 0
