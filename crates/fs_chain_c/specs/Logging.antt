-- The guest addresses that C marks in a migration's log are those that a push writes.
use Rattle.std.specs.Prelude.{◌≡◌, ◌<◌, ◌^◌, ◌++◌, ℕ, List, [], ◌∷◌, drop, take}
use Rattle.std.specs.List.{AllByRecursion}
use Rattle.vm_memory.specs.Memory.{addresses}
use Rattle.fs_queue.specs.Queue.{element_at, index_at}
use Rattle.fs_queue.specs.Taking.{addresses_of, writable}
use Rattle.fs_queue.specs.WalkingView.{at_position}
use Rattle.fs_chain.specs.declared.queue.QueueState.{QueueState}
use Rattle.fs_chain.specs.declared.chain_handle.ChainHandle.{ChainHandle}
use Rattle.fs_chain_c.specs.declared.pushing.FsStores.{FsStores}
use Rattle.fs_chain_c.specs.declared.queue.FsQueue.{FsQueue}
use Rattle.fs_chain_c.specs.declared.ranges.FsRange.{FsRange}
use Rattle.fs_chain_c.specs.Pushing.{PushesHandle}
use Rattle.fs_chain_c.specs.Queues.{IsQueueState}
use Rattle.fs_chain_c.specs.Ranges.{AreReplyRanges, range_bytes}

-- the addresses of some ranges, one behind another
abbrev pub addresses_in : List FsRange → List ℕ
addresses_in [] = []
addresses_in (r ∷ rs) = addresses r.guest r.len ++ addresses_in rs

-- the addresses of the chain's reply buffer
abbrev pub reply_buffer : ChainHandle → List ℕ
reply_buffer b = addresses_of (writable b.descriptors.items)

-- the ranges of `pk_reply_ranges` are the addresses of the reply buffer from byte `from` on, if those are
-- below 2^64, as mapped ones are
abbrev pub RangesAreRoom : Type 0
RangesAreRoom =
    (b : ChainHandle) (from most : ℕ) (rs : List FsRange)
    → AllByRecursion (λ a. a < 2 ^ 64) (reply_buffer b)
    → AreReplyRanges b from most rs
    → addresses_in rs ≡ take (range_bytes rs) (drop from (reply_buffer b))

-- the addresses of element and index that `pk_push` returns are those of the queue's next used position
abbrev pub PushReportsAddresses : Type 0
PushReportsAddresses =
    (b b' : ChainHandle) (q q' : FsQueue) (front front' : List ℕ) (filled : FsStores)
    → PushesHandle b q front filled 0 b' q' front'
    → (k : QueueState)
    × IsQueueState q k
    × (filled.element_guest ≡ element_at (at_position k.layout k.next_used))
    × (filled.index_guest ≡ index_at (at_position k.layout k.next_used))
