-- The chains of a queue that are in flight, and the position of its next push (VIRTIO 1.2, 2.7.6 and
-- 2.7.8).
use Rattle.std.specs.Prelude.{◌≡◌, ℕ, ◌+◌, ◌-◌, ◌%◌, ◌^◌, Bool, false, not, ◌==◌, ◌&&◌, nat_lt, None, is_some}
use Rattle.fs_queue.specs.declared.layout.QueueLayout.{QueueLayout}
use Rattle.fs_queue.specs.Queue.{Queue}
use Rattle.fs_queue.specs.WalkingView.{at_position}
use Rattle.fs_regions.specs.Places.{Mapped, places_in}
use Rattle.fs_regions.specs.declared.course.Course.{Course}
use Rattle.live_machine.specs.Several as live
use Rattle.live_machine.specs.Several.{LiveQueue}
use Rattle.fs_chain.specs.declared.queue.QueueState.{QueueState}
use Rattle.fs_chain.specs.declared.state.InFlight.{InFlight}
use Rattle.fs_chain.specs.declared.state.PopId.{PopId}
use Rattle.fs_chain.specs.Rings.{ring_of}

-- a `QueueState` as a queue of a run
abbrev pub live_of : QueueState → LiveQueue
live_of q = record {
  queue = record (at_position q.layout q.next_avail) { stopped = is_some q.stopped };
  next_used = q.next_used;
  max_in_flight = q.max_in_flight;
  event_index = q.event_index;
}

-- how many chains are in flight
abbrev pub in_flight : QueueState → ℕ
in_flight q = live.in_flight (live_of q)

-- whether one more chain may be popped
abbrev pub may_take : QueueState → Bool
may_take q = live.may_take (live_of q)

-- whether VIRTIO_F_EVENT_IDX was negotiated for both queues, or for neither
abbrev pub SameEventIndex : (p q : QueueState) → Type 0
SameEventIndex p q = p.event_index ≡ q.event_index

-- the identity of a pop, and then of its chain: as the pop begins, the queue's counts, and where its rings
-- are
abbrev pub pop_id_of : Mapped → QueueState → PopId
pop_id_of g q =
    record {
      reset_count = q.reset_count;
      pop_count = q.pop_count;
      ring = ring_of (places_in g) q.layout.used;
    }

-- a queue at the positions of this one
abbrev pub at_positions : QueueState → LiveQueue → QueueState
at_positions q w = record q { next_avail = w.queue.position; next_used = w.next_used }

-- a chain was popped: the next one is popped at the next position
abbrev pub took : QueueState → QueueState
took q = record (at_positions q (live.took (live_of q))) { pop_count = (q.pop_count + 1) % 2 ^ 32 }

-- the chain that was popped last is given up: the queue's next pop finds it again
abbrev pub gave_up : QueueState → QueueState
gave_up q = record (at_positions q (live.gave_up (live_of q))) { pop_count = (q.pop_count + 1) % 2 ^ 32 }

-- a chain was pushed: the next one is pushed at the next position
abbrev pub gave : QueueState → QueueState
gave q = record (at_positions q (live.gave (live_of q))) { pushing = false }

-- the queue for a chain's push, at its next position in the used ring; chains may be pushed in another
-- order than they were popped
abbrev pub at_return : QueueState → InFlight → Queue
at_return q out = at_position out.course.layout q.next_used

-- a new queue, without the event index and with no chain in flight
abbrev pub new_queue : QueueLayout → (position max_in_flight : ℕ) → QueueState
new_queue layout position max_in_flight = record {
  layout = layout;
  next_avail = position;
  next_used = position;
  max_in_flight = max_in_flight;
  pushing = false;
  reset_count = 0;
  pop_count = 0;
  event_index = false;
  stopped = None;
}

-- a queue with what its caller sets after a reset, as in another: how many chains may be in flight, the event
-- index, and whether it is stopped
abbrev pub set_as : (q set : QueueState) → QueueState
set_as q set =
    record q { max_in_flight = set.max_in_flight; event_index = set.event_index; stopped = set.stopped }

-- a queue that was reset: none of its chains is in flight any more
abbrev pub reset_to : QueueState → QueueLayout → (position : ℕ) → QueueState
reset_to q layout position =
    record q {
      layout = layout;
      next_avail = position;
      next_used = position;
      pushing = false;
      reset_count = (q.reset_count + 1) % 2 ^ 32;
      stopped = None;
    }

-- whether two queues have the same size and areas
abbrev pub is_laid_out : QueueLayout → QueueLayout → Bool
is_laid_out a b = a.size == b.size && a.desc == b.desc && a.avail == b.avail && a.used == b.used

-- whether a pop in progress still fits the queue: since it began, no chain was popped or given up, and the
-- queue wasn't reset
abbrev pub fits_pop : QueueState → Course → PopId → Bool
fits_pop q c t =
    q.reset_count == t.reset_count && q.pop_count == t.pop_count && q.next_avail == c.position
    && is_laid_out q.layout c.layout

-- whether a chain is in flight in this queue: the queue wasn't reset since the chain was popped
abbrev pub is_in_flight_of : QueueState → InFlight → Bool
is_in_flight_of q out =
    not (in_flight q == 0) && q.reset_count == out.pop_id.reset_count
    && is_laid_out q.layout out.course.layout

-- whether a chain is the last one that was popped: each chain that was popped after it was given up again,
-- within fewer than 2^16 pops and give-ups
abbrev pub is_last : QueueState → InFlight → Bool
is_last q out =
    q.next_avail == (out.course.position + 1) % 2 ^ 16
    && nat_lt ((q.pop_count + (2 ^ 32 - out.pop_id.pop_count)) % 2 ^ 32) (2 ^ 16)
