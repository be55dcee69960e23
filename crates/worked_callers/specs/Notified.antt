-- Calls of a handle as acts of the model's threads (crate notify).
use Rattle.std.specs.Prelude.{◌≡◌, ℕ, List, [], ◌∷◌, Option, Some, None}
use Rattle.std.specs.Int.{w16, to_le_bytes}
use Rattle.fs_chain.specs.declared.notifications.NotificationStore.{NotificationStore}
use Rattle.fs_chain.specs.declared.queue.QueueState.{QueueState}
use Rattle.notify.specs.Threads.{ThreadedQueue, ThreadStep, ActsOver, after_act, Wishes, WishIsThere}
use Rattle.fs_notify.specs.Takers.{IsModelOf, ShowsWish, ways_of, wish_at}

-- the store that was returned is the wish in memory, after two acts of the model's thread
abbrev pub IsStoredWish : QueueState → ThreadedQueue → Option NotificationStore → Type 0
IsStoredWish q s None = ⊥
IsStoredWish q s (Some store) =
    let wished = after_act (ways_of q) (after_act (ways_of q) s Wishes) WishIsThere in
    (store.address ≡ wish_at q)
    × ShowsWish q (to_le_bytes w16 store.value) wished.event wished.muted
    × ActsOver (ways_of q) s (Wishes ∷ WishIsThere ∷ []) wished
    × IsModelOf q wished

-- if memory has this index, the model's thread may do these acts, and the model's queue afterwards is `after`
abbrev pub ActsTo : QueueState → ThreadedQueue → List ThreadStep → ThreadedQueue → QueueState → (index : ℕ) →
    Type 0
ActsTo q s acts end after index = s.index ≡ index → ActsOver (ways_of q) s acts end × IsModelOf after end
