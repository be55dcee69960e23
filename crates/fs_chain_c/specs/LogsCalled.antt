-- What `law_log` says of real calls of `pk_reply_ranges` and `pk_push`.
use Rattle.std.specs.Prelude.{◌≡◌, ◌<◌, ◌^◌, ℕ, List, Option, Some, None, drop, take}
use Rattle.std.specs.List.{AllByRecursion}
use Rattle.fs_queue.specs.Queue.{element_at, index_at}
use Rattle.fs_queue.specs.WalkingView.{at_position}
use Rattle.fs_chain.specs.declared.chain_handle.ChainHandle.{ChainHandle}
use Rattle.fs_chain.specs.declared.queue.QueueState.{QueueState}
use Rattle.fs_chain_c.specs.declared.pushing.FsStores.{FsStores}
use Rattle.fs_chain_c.specs.declared.queue.FsQueue.{FsQueue}
use Rattle.fs_chain_c.specs.declared.ranges.FsRange.{FsRange}
use Rattle.fs_chain_c.specs.Logging.{addresses_in, reply_buffer}
use Rattle.fs_chain_c.specs.Queues.{IsQueueState}
use Rattle.fs_chain_c.specs.Ranges.{range_bytes}

-- these ranges are the addresses of the reply buffer from byte `from` on, if those are below 2^64
abbrev pub AreItsAddresses : ChainHandle → (from : ℕ) → List FsRange → Type 0
AreItsAddresses b from rs =
    AllByRecursion (λ a. a < 2 ^ 64) (reply_buffer b)
    → addresses_in rs ≡ take (range_bytes rs) (drop from (reply_buffer b))

-- the first `count` of these ranges are; a handle without a `ChainHandle` fills none
abbrev pub MarksReply : Option ChainHandle → (from count : ℕ) → List FsRange → Type 0
MarksReply None from count ranges = count ≡ 0
MarksReply (Some b) from count ranges = AreItsAddresses b from (take count ranges)

-- the addresses of element and index are those of the queue's next used position
abbrev pub MarksUsed : FsQueue → FsStores → Type 0
MarksUsed q filled =
    (k : QueueState)
    × IsQueueState q k
    × (filled.element_guest ≡ element_at (at_position k.layout k.next_used))
    × (filled.index_guest ≡ index_at (at_position k.layout k.next_used))
