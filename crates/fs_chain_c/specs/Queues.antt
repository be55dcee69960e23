-- Queues as numbers that C keeps, and as the core has them.
use Rattle.std.specs.Prelude.{◌≡◌, ◌⊎◌, ◌<◌, ◌≤◌, ◌+◌, ◌%◌, ◌^◌, max, ℕ, Bool, true, false, Option}
use Rattle.std.specs.Prelude.{Some, None}
use Rattle.fs_queue.specs.Lawful.{layout_error}
use Rattle.fs_queue.specs.Numbers.{queue_number}
use Rattle.fs_queue.specs.declared.fault.QueueError.{QueueError}
use Rattle.live_machine.specs.Several.{in_flight_between}
use Rattle.fs_chain.specs.declared.queue.QueueState.{QueueState}
use Rattle.fs_chain_c.specs.declared.queue.FsQueue.{FsQueue}
use Rattle.fs_chain_c.specs.Statuses.{queue_status}

-- the number of the refusal that stopped a queue: 2 to 8; 1 is one that a record doesn't keep; 0 is none
abbrev pub stop_number : Option QueueError → ℕ
stop_number None = 0
stop_number (Some e) = queue_number e

abbrev pub flag : Bool → ℕ
flag false = 0
flag true = 1

abbrev pub chains_in_flight : FsQueue → ℕ
chains_in_flight q = in_flight_between q.next_avail q.next_used

-- these are a queue's numbers: no more chains are in flight, or may be, than it has descriptors
abbrev pub IsQueue : FsQueue → Type 0
IsQueue q =
    (layout_error q.size q.desc q.avail q.used ≡ None)
    × (chains_in_flight q ≤ q.size)
    × (q.max_in_flight ≤ q.size)
    × (q.pushing ≤ 1)
    × (q.event_index ≤ 1)
    × (q.stopped ≤ 8)

-- these are the numbers of a queue that was begun: of one whose numbers were never set, reset_count is 0
abbrev pub IsBegun : FsQueue → Type 0
IsBegun q = IsQueue q × (0 < q.reset_count)

-- the numbers of one of the core's queues
abbrev pub numbers_of : QueueState → FsQueue
numbers_of k =
    record {
      desc = k.layout.desc;
      avail = k.layout.avail;
      used = k.layout.used;
      size = k.layout.size;
      next_avail = k.next_avail;
      next_used = k.next_used;
      max_in_flight = k.max_in_flight;
      stopped = stop_number k.stopped;
      pushing = flag k.pushing;
      event_index = flag k.event_index;
      reset_count = k.reset_count;
      pop_count = k.pop_count;
    }

-- the core's queue has these numbers; a maximum of 0 counts as 1
pub record IsQueueState (q : FsQueue) (k : QueueState) : Type 0 where
  pub valid : IsQueue q
  pub numbers : numbers_of k ≡ record q { max_in_flight = max 1 q.max_in_flight }

-- a queue's numbers with those that a call changes
abbrev pub put : FsQueue → QueueState → FsQueue
put q k =
    record q {
      next_avail = k.next_avail;
      next_used = k.next_used;
      pushing = flag k.pushing;
      pop_count = k.pop_count;
      stopped = stop_number k.stopped;
    }

-- a queue that is reset to a position: no chain of it is in flight, and the chains that were are no longer
-- its own
abbrev pub reset_to : FsQueue → (position : ℕ) → FsQueue
reset_to q position =
    record q {
      next_avail = position;
      next_used = position;
      pushing = 0;
      reset_count = (q.reset_count + 1) % 2 ^ 32;
      stopped = 0;
    }

-- the queue is reset, if its numbers are a queue's then; else the status is that of the first cause, and
-- nothing changes
abbrev pub BeginsQueue : FsQueue → (position status : ℕ) → FsQueue → Type 0
BeginsQueue q position status q' =
    (IsQueue (reset_to q position) × (status ≡ 0) × (q' ≡ reset_to q position))
    ⊎ ((IsQueue (reset_to q position) → ⊥) × (status ≡ queue_status (reset_to q position)) × (q' ≡ q))
