-- The calls of a thread that holds a queue's lock, as acts of the model of notifications.
--
-- The model's queue has two memory cells that the device writes for the driver: `event` and `muted`. With the
-- event index the first is avail_event, and the second means nothing; without it the second is bit 0 of the
-- used ring's flags (VIRTIO 1.2, 2.7.10).
use Rattle.std.specs.Prelude.{◌≡◌, ℕ, ◌^◌, ◌<◌, Bool, true, false, IsTrue, List, [], ◌∷◌, Option, Some, None}
use Rattle.std.specs.Int.{w16, from_le_bytes}
use Rattle.fs_queue.specs.Queue.{has_bit}
use Rattle.fs_queue.specs.Returning.{Store}
use Rattle.fs_regions.specs.Walks.{Loaded}
use Rattle.fs_chain.specs.declared.error.ChainError.TheVariants.{ChainInFlight}
use Rattle.fs_chain.specs.declared.queue.QueueState.{QueueState}
use Rattle.fs_chain.specs.declared.state.ChainState as state
use Rattle.fs_chain.specs.declared.state.InFlight.{InFlight}
use Rattle.fs_chain.specs.declared.state.ChainState.TheVariants as at
use Rattle.fs_chain.specs.declared.popping.PopOutcome as walked
use Rattle.fs_chain.specs.declared.popping.PopOutcome.TheVariants as shows
use Rattle.fs_chain.specs.declared.chain_handle.ChainHandle.{ChainHandle}
use Rattle.live_machine.specs.Several as live
use Rattle.live_machine.specs.Several.{HasEventIndex, LacksEventIndex}
use Rattle.fs_chain.specs.Events.{notification_store}
use Rattle.fs_chain.specs.Orders.{begin_error, end_error, give_up_error}
use Rattle.fs_chain.specs.Queues.{gave, gave_up, in_flight, live_of}
use Rattle.fs_chain.specs.Holds.{EndsBy, IsRunQueue, RunState}
use Rattle.notify.specs.Threads.{Ways, right_ways, ThreadedQueue, Walker, Rearmer, Nobody, may_act, after_act}
use Rattle.notify.specs.Threads.{ActsOver}
use Rattle.notify.specs.Threads.{Wishes, WishIsThere, Silences, TakesOne, DropsOne, SleepsNow, ReturnsChains}

-- the rules that a queue's threads keep
abbrev pub ways_of : QueueState → Ways
ways_of q = right_ways q.layout.size q.max_in_flight q.event_index

-- the numbers of a queue are u16
abbrev pub HasU16Numbers : QueueState → Type 0
HasU16Numbers q = (q.next_avail < 2 ^ 16) × (q.next_used < 2 ^ 16) × (q.max_in_flight < 2 ^ 16)

-- the model's queue has the same next position and as many chains in flight
abbrev pub IsModelOf : QueueState → ThreadedQueue → Type 0
IsModelOf q s = (s.position ≡ q.next_avail) × (s.out ≡ in_flight q)

-- ---- the wish: the store that enables notifications

-- the address at which the device stores its wish
abbrev pub wish_at : QueueState → ℕ
wish_at q = live.wish_at (live_of q)

-- two bytes are the wish in the model's memory
abbrev pub ShowsWishBy : (by_event : Bool) → (bytes : List ℕ) → (event : ℕ) → (muted : Bool) → Type 0
ShowsWishBy true bytes event muted = from_le_bytes w16 bytes ≡ event
ShowsWishBy false bytes event muted = has_bit (from_le_bytes w16 bytes) 0 ≡ muted

-- those of a queue are, at the address of its wish, or at the driver's
abbrev pub ShowsWish : QueueState → (bytes : List ℕ) → (event : ℕ) → (muted : Bool) → Type 0
ShowsWish q bytes event muted = ShowsWishBy (ways_of q).by_event bytes event muted

-- the store that enables notifications is the wish for the next chain, once it has reached memory
abbrev pub RearmsByStore : Type 0
RearmsByStore =
    (q : QueueState) (s : ThreadedQueue)
    → HasU16Numbers q
    → IsModelOf q s
    → s.holder ≡ Walker
    → let asking = after_act (ways_of q) s Wishes in
    let asked = after_act (ways_of q) asking WishIsThere in
    (store : Store)
    × (notification_store q true ≡ Some store)
    × (store.address ≡ wish_at q)
    × IsTrue (may_act (ways_of q) s Wishes)
    × IsTrue (may_act (ways_of q) asking WishIsThere)
    × ShowsWish q store.bytes asked.event asked.muted
    × IsModelOf q asked

-- the store that disables notifications is the model's; with the event index there is none
abbrev pub MutesBy : QueueState → ThreadedQueue → Option Store → Type 0
MutesBy q s None = HasEventIndex (live_of q)
MutesBy q s (Some store) =
    let muted = after_act (ways_of q) s (Silences s.event) in
    LacksEventIndex (live_of q)
    × (store.address ≡ wish_at q)
    × ShowsWish q store.bytes muted.event muted.muted
    × IsModelOf q muted

abbrev pub MutesByStore : Type 0
MutesByStore =
    (q : QueueState) (s : ThreadedQueue)
    → IsModelOf q s
    → s.holder ≡ Walker
    → MutesBy q s (notification_store q false)
    × IsTrue (may_act (ways_of q) s (Silences s.event))

-- ---- the pop

-- a pop returned a chain
abbrev pub HasPopped : walked.PopOutcome → Type 0
HasPopped (shows.Chain head request_len room_len) = Unit {0}
HasPopped (shows.Faulty head fault) = Unit {0}
HasPopped _ = ⊥

-- the available index that a pop was given, by its loads
abbrev pub IsIndex : Loaded → (index : ℕ) → Type 0
IsIndex loaded index = (bytes : List ℕ) × (loaded.index ≡ Some bytes) × (from_le_bytes w16 bytes ≡ index)

-- a pop that ended with a chain was given an index by which the model's thread may take it, now or earlier.
-- The queue afterwards is the model's
abbrev pub TakesByPop : Type 0
TakesByPop =
    (m : RunState) (i : ℕ) (before after : QueueState) (loaded : Loaded) (new : ChainHandle)
    (result : walked.PopOutcome) (s : ThreadedQueue)
    → HasU16Numbers before
    → HasPopped result
    → IsRunQueue m i before
    → EndsBy m i before after loaded new result
    → IsModelOf before s
    → s.holder ≡ Walker
    → (index : ℕ)
    × IsIndex loaded index
    × (s.known ≡ index
    → IsTrue (may_act (ways_of before) s TakesOne) × IsModelOf after (after_act (ways_of before) s TakesOne))

-- a pop that ended without a chain was given an index. By it the model's thread may sleep, if two conditions
-- hold. Its wish is in memory, behind a barrier. The index is the one in memory now, not an earlier one
abbrev pub FindsNoneByPop : Type 0
FindsNoneByPop =
    (m : RunState) (i : ℕ) (before after : QueueState) (loaded : Loaded) (new : ChainHandle)
    (s : ThreadedQueue)
    → HasU16Numbers before
    → s.index < 2 ^ 16
    → IsRunQueue m i before
    → EndsBy m i before after loaded new shows.Idle
    → IsModelOf before s
    → s.holder ≡ Rearmer
    → s.hidden ≡ false
    → (index : ℕ)
    × IsIndex loaded index
    × (s.index ≡ index
    → IsTrue (may_act (ways_of before) s SleepsNow)
    × IsModelOf after (after_act (ways_of before) s SleepsNow))

-- the model's thread may also sleep after a pop that is refused because the maximum of chains is in
-- flight
abbrev pub FullIsAnAct : Type 0
FullIsAnAct =
    (q : QueueState) (s : ThreadedQueue)
    → begin_error q 0 ≡ Some ChainInFlight
    → IsModelOf q s
    → s.holder ≡ Rearmer
    → s.hidden ≡ false
    → IsTrue (may_act (ways_of q) s SleepsNow) × IsModelOf q (after_act (ways_of q) s SleepsNow)

-- a wish, its barrier and a pop that finds no chain, in this order, are a run of the model
abbrev pub SleepsInOrder : Type 0
SleepsInOrder =
    (q : QueueState) (s : ThreadedQueue)
    → IsModelOf q s
    → s.holder ≡ Walker
    → s.index ≡ q.next_avail
    → let ways = ways_of q in
    let end = after_act ways (after_act ways (after_act ways s Wishes) WishIsThere) SleepsNow in
    ActsOver ways s (Wishes ∷ WishIsThere ∷ SleepsNow ∷ []) end × IsModelOf q end × (end.holder ≡ Nobody)

-- ---- drops and returns

-- a chain that is given up is dropped
abbrev pub DropIsAnAct : Type 0
DropIsAnAct =
    (q : QueueState) (out : InFlight) (s : ThreadedQueue)
    → HasU16Numbers q
    → give_up_error (at.Popped out) q ≡ None
    → IsModelOf q s
    → s.holder ≡ Walker
    → IsTrue (may_act (ways_of q) s DropsOne) × IsModelOf (gave_up q) (after_act (ways_of q) s DropsOne)

-- a chain whose return ends is returned
abbrev pub ReturnIsAnAct : Type 0
ReturnIsAnAct =
    (q : QueueState) (from : state.ChainState) (s : ThreadedQueue)
    → HasU16Numbers q
    → end_error from q ≡ None
    → IsModelOf q s
    → s.holder ≡ Walker
    → IsTrue (may_act (ways_of q) s (ReturnsChains 1))
    × IsModelOf (gave q) (after_act (ways_of q) s (ReturnsChains 1))
