-- The calls on notifications, as acts of the model (crate notify).
use Rattle.std.specs.Prelude.{◌≡◌, ℕ, ◌^◌, ◌<◌, ◌==◌, ◌||◌}
use Rattle.std.specs.Int.{w16, to_le_bytes}
use Rattle.vm_iotlb.specs.declared.permissions.Permissions.TheVariants.{Write}
use Rattle.fs_chain.specs.declared.queue.QueueState.{QueueState}
use Rattle.fs_chain.specs.declared.chain_handle.ChainHandle.{ChainHandle}
use Rattle.fs_chain.specs.Queues.{gave}
use Rattle.notify.specs.Kicks.{NotifyState, ChecksWish, after}
use Rattle.notify.specs.Threads.{ThreadedQueue, Walker, Wishes, WishIsThere, after_act}
use Rattle.fs_notify.specs.Givers.{rules_of}
use Rattle.fs_notify.specs.Takers.{HasU16Numbers, IsModelOf, ShowsWish, ways_of, wish_at}
use Rattle.fs_chain_c.specs.declared.notifications.FsStore.{FsStore}
use Rattle.fs_chain_c.specs.declared.queue.FsQueue.{FsQueue}
use Rattle.fs_chain_c.specs.Notifications.{SetsNotification}
use Rattle.fs_chain_c.specs.Queues.{IsQueueState}
use Rattle.fs_chain_c.specs.Pushing.{EndsHandlePush, StandsHere}

-- a store is the model's wish for the next chain, once it has reached memory: it is where the device has the
-- wish
abbrev pub StoresItsWish : ChainHandle → QueueState → ThreadedQueue → FsStore → Type 0
StoresItsWish b k s filled =
    let asked = after_act (ways_of k) (after_act (ways_of k) s Wishes) WishIsThere in
    StandsHere b.regions Write (wish_at k) 2 filled.at
    × (filled.len ≡ 2)
    × ShowsWish k (to_le_bytes w16 filled.value) asked.event asked.muted
    × IsModelOf k asked

-- the store that C makes before a thread sleeps is the model's wish for the next chain
abbrev pub StoresAWish : Type 0
StoresAWish =
    (b : ChainHandle) (q : FsQueue) (filled : FsStore)
    → SetsNotification b q 1 filled 0
    → (k : QueueState)
    × IsQueueState q k
    × ((s : ThreadedQueue)
    → HasU16Numbers k → IsModelOf k s → s.holder ≡ Walker → StoresItsWish b k s filled)

-- `notify` is the result of the check by the model's giver, of the two bytes that C has loaded behind the
-- barrier
abbrev pub NotifyIsACheck : Type 0
NotifyIsACheck =
    (b b' : ChainHandle) (q q' : FsQueue) (seen notify : ℕ)
    → EndsHandlePush b q seen notify 0 b' q'
    → seen < 2 ^ 16
    → (k : QueueState)
    × IsQueueState q k
    × ((u : NotifyState)
    → k.next_used < 2 ^ 16
    → u.published ≡ (gave k).next_used
    → u.unchecked ≡ 1
    → ShowsWish k (to_le_bytes w16 seen) u.event u.muted
    → (after (rules_of k) u ChecksWish).owes ≡ (u.owes || notify == 1))
