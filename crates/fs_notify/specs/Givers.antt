-- A device's returns, as steps of the model's giver: the driver takes used chains.
--
-- The model's state has two memory cells that the driver writes for the device: `event` and `muted`. With
-- the event index the first is used_event, and the second means nothing; without it the second is bit 0 of
-- the available ring's flags (VIRTIO 1.2, 2.7.7).
use Rattle.std.specs.Prelude.{◌≡◌, ℕ, ◌+◌, ◌≤◌, ◌++◌, ◌^◌, ◌<◌, ◌||◌, false, List, [], ◌∷◌}
use Rattle.std.specs.Int.{w16, to_le_bytes, from_le_bytes}
use Rattle.vm_memory.specs.Memory.{Memory, number}
use Rattle.fs_queue.specs.Queue.{Queue, has_bit, index_at}
use Rattle.fs_queue.specs.Returning.{Store, next_position, wants_notice}
use Rattle.fs_queue.specs.ReturningView.{stores_of}
use Rattle.fs_chain.specs.declared.queue.QueueState.{QueueState}
use Rattle.fs_chain.specs.declared.pushing.PushStores.{PushStores}
use Rattle.fs_chain.specs.declared.state.InFlight.{InFlight}
use Rattle.fs_chain.specs.declared.state.ChainReply.{ChainReply}
use Rattle.fs_chain.specs.Events.{notifies_of}
use Rattle.fs_chain.specs.Queues.{at_return, gave}
use Rattle.fs_chain.specs.Pushes.{PushesBy}
use Rattle.notify.specs.Kicks.{Rules, right, NotifyState, Publishes, IndexArrives, ChecksWish, Runs, ahead}
use Rattle.notify.specs.Kicks.{moved, must, after}
use Rattle.fs_notify.specs.Takers.{ShowsWish, ways_of}

-- the rules that a device keeps when it returns chains to this queue
abbrev pub rules_of : QueueState → Rules
rules_of q = right q.layout.size (ways_of q).by_event

-- the last store of a return is the used index that the model's giver publishes
abbrev pub PublishesByStore : Type 0
PublishesByStore =
    (q : QueueState) (out : InFlight) (reply : ChainReply) (s : PushStores) (u : NotifyState)
    → PushesBy q out reply s
    → u.published ≡ q.next_used
    → let published = (after (rules_of q) u (Publishes 1)).published in
    (first : List Store)
    × (stores_of s.used
    ≡ first ++ record { address = index_at (at_return q out); bytes = to_le_bytes w16 published } ∷ [])
    × ((gave q).next_used ≡ published)

-- by the two bytes that are loaded behind a barrier, a return's result is that of the check by the
-- model's giver: whether to notify of the one chain that it published
abbrev pub ChecksBySeen : Type 0
ChecksBySeen =
    (q : QueueState) (seen : List ℕ) (u : NotifyState)
    → q.next_used < 2 ^ 16
    → from_le_bytes w16 seen < 2 ^ 16
    → u.published ≡ (gave q).next_used
    → u.unchecked ≡ 1
    → ShowsWish q seen u.event u.muted
    → (after (rules_of q) u ChecksWish).owes ≡ (u.owes || notifies_of q seen)

-- the store of the used index, the barrier and the load, in this order, are a run of the model. The driver
-- has made no more chains available than the queue has descriptors
abbrev pub ReturnsInOrder : Type 0
ReturnsInOrder =
    (q : QueueState) (u : NotifyState)
    → q.next_used < 2 ^ 16
    → u.published ≡ q.next_used
    → u.index ≡ u.published
    → u.unchecked ≡ 0
    → ahead u.published u.position + 1 ≤ q.layout.size
    → let rules = rules_of q in
    let end = after rules (after rules (after rules u (Publishes 1)) (IndexArrives 1)) ChecksWish in
    Runs rules u (Publishes 1 ∷ IndexArrives 1 ∷ ChecksWish ∷ []) end × (end.published ≡ (gave q).next_used)

-- the plain machine has no event index: it publishes and checks by the available ring's flags
abbrev pub MachineChecks : Type 0
MachineChecks =
    (m : Memory) (q : Queue) (event : ℕ)
    → (next_position q ≡ moved q.position 1)
    × (wants_notice m q ≡ must false event (has_bit (number m w16 q.avail) 0) (next_position q) 1)
