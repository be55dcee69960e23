-- States of the model (crate notify) for which calls of the exports meet the hypotheses of the laws.
use Rattle.std.specs.Prelude.{◌≡◌, ℕ, ◌==◌, ◌||◌, Option, Some}
use Rattle.std.specs.Int.{w16, from_le_bytes, to_le_bytes}
use Rattle.fs_queue.specs.Queue.{has_bit}
use Rattle.fs_chain.specs.declared.queue.QueueState.{QueueState}
use Rattle.fs_chain.specs.declared.chain_handle.ChainHandle.{ChainHandle}
use Rattle.fs_chain.specs.Queues.{gave, in_flight}
use Rattle.notify.specs.Kicks.{NotifyState, ChecksWish, after}
use Rattle.notify.specs.Threads.{ThreadedQueue, Walker}
use Rattle.fs_notify.specs.Givers.{rules_of}
use Rattle.fs_chain_c.specs.declared.notifications.FsStore.{FsStore}
use Rattle.fs_chain_c.specs.declared.queue.FsQueue.{FsQueue}
use Rattle.fs_chain_c.specs.Notifying.{StoresItsWish}
use Rattle.fs_chain_c.specs.Queues.{IsQueueState}

-- a model's queue that is this one, and a thread holds its lock
abbrev pub walked_by : QueueState → ThreadedQueue → ThreadedQueue
walked_by k s = record s { position = k.next_avail; out = in_flight k; holder = Walker }

-- a giver that published this queue's next used chain and didn't check yet, while the driver's two bytes are
-- these
abbrev pub published_by : QueueState → (seen : ℕ) → NotifyState → NotifyState
published_by k seen u =
    let number = from_le_bytes w16 (to_le_bytes w16 seen) in
    record u { published = (gave k).next_used; unchecked = 1; event = number; muted = has_bit number 0 }

-- the store of a call with this handle and queue is a wish in each state of the model with this queue
abbrev pub WishesSo : Option ChainHandle → FsQueue → FsStore → Type 0
WishesSo before q filled =
    (b : ChainHandle) × (k : QueueState)
    × (before ≡ Some b)
    × IsQueueState q k
    × ((s : ThreadedQueue) → StoresItsWish b k (walked_by k s) filled)

-- the result of a push with this queue is the check in each state of the model with this queue
abbrev pub ChecksSo : FsQueue → (seen notify : ℕ) → Type 0
ChecksSo q seen notify =
    (k : QueueState)
    × IsQueueState q k
    × ((u : NotifyState)
    → (after (rules_of k) (published_by k seen u) ChecksWish).owes ≡ (u.owes || notify == 1))
