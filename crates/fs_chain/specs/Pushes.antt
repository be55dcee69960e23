-- How a chain is pushed: its reply's front, and the caller's stores and load (VIRTIO 1.2, 2.7.8 and
-- 2.7.7).
use Rattle.std.specs.Prelude.{◌≡◌, ℕ, ◌++◌, List, [], drop}
use Rattle.fs_queue.specs.Returning.{stores_after_reply}
use Rattle.fs_queue.specs.ReturningView.{stores_of}
use Rattle.fs_chain.specs.declared.queue.QueueState.{QueueState}
use Rattle.fs_chain.specs.declared.pushing.PushStores.{PushStores}
use Rattle.fs_chain.specs.declared.state.InFlight.{InFlight}
use Rattle.fs_chain.specs.declared.state.ChainReply.{ChainReply}
use Rattle.fs_chain.specs.declared.state.ChainState as state
use Rattle.fs_chain.specs.declared.state.ChainState.TheVariants as at
use Rattle.fs_chain.specs.declared.chain_handle.ChainHandle.{ChainHandle}
use Rattle.fs_chain.specs.Events.{seen_at}
use Rattle.fs_chain.specs.Orders.{front_len, front_of, reply_len}
use Rattle.fs_chain.specs.Queues.{at_return}
use Rattle.fs_chain.specs.Tickets.{freed}
use Rattle.fs_chain.specs.Walks.{IsAllButPart}

-- a buffer with a reply's front over its first bytes
abbrev pub put_front : ChainReply → (buffer : List ℕ) → List ℕ
put_front reply buffer = front_of reply ++ drop (front_len reply) buffer

-- the stores that the library returns for the push of a chain with this reply, at the queue's next
-- position in the used ring
abbrev pub PushesBy : QueueState → InFlight → ChainReply → PushStores → Type 0
PushesBy q out reply s =
    (s.front_len ≡ front_len reply)
    × (stores_of s.used ≡ stores_after_reply (at_return q out) out.head (reply_len out reply))
    × (s.seen_at ≡ seen_at q out.course.layout)
    × (s.used.flags ≡ out.course.layout.avail)

-- P, if the chain's reply is known
abbrev pub IfReplied : state.ChainState → (InFlight → ChainReply → Type 0) → Type 0
IfReplied (at.Replied out reply) P = P out reply
IfReplied _ P = Unit {0}

-- the handle is free, and keeps no part of a load
abbrev pub IsFreed : (old new : ChainHandle) → Type 0
IsFreed old new = IsAllButPart (freed old) new × (new.part.items ≡ [])
