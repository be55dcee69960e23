-- A wish by its store.
use Rattle.std.proofs.Common.{◌≡◌, Bool, true, false, ◌||◌, Some, IsTrue, refl, sym, ap, ◌∙◌}
use Rattle.std.specs.Int.{w16, to_le_bytes}
use Rattle.std.proofs.lemmas.Nat.{from_le_bytes-to_le_bytes_2}
use Rattle.fs_queue.specs.Returning.{Store}
use Rattle.fs_chain.specs.declared.queue.QueueState.{QueueState}
use Rattle.fs_chain.specs.Events.{avail_event_at, notification_store}
use Rattle.notify.specs.Threads.{ThreadedQueue, Walker, walks, may_act, after_act, Wishes, WishIsThere}
use Rattle.fs_notify.specs.Takers.{RearmsByStore, HasU16Numbers, IsModelOf, MutesBy, MutesByStore, ShowsWish, ways_of, wish_at}

abbrev AsksSo : QueueState → ThreadedQueue → Type 0
AsksSo q s =
    let asking = after_act (ways_of q) s Wishes in
    let asked = after_act (ways_of q) asking WishIsThere in
    (store : Store)
    × (notification_store q true ≡ Some store)
    × (store.address ≡ wish_at q)
    × IsTrue (may_act (ways_of q) s Wishes)
    × IsTrue (may_act (ways_of q) asking WishIsThere)
    × ShowsWish q store.bytes asked.event asked.muted
    × IsModelOf q asked

rearms_so : (q : QueueState) (s : ThreadedQueue) (b : Bool) → q.event_index ≡ b → HasU16Numbers q → IsModelOf q s
    → s.holder ≡ Walker → AsksSo q s
rearms_so q s true e counted is walker = (
  record { address = avail_event_at q.layout; bytes = to_le_bytes w16 q.next_avail },
  rw e refl,
  rw e refl,
  ap walks walker,
  refl,
  rw e (from_le_bytes-to_le_bytes_2 q.next_avail counted.0 ∙ sym is.0),
  is,
)
rearms_so q s false e counted is walker =
    (record { address = q.layout.used; bytes = to_le_bytes w16 0 }, rw e refl, rw e refl, ap walks walker, refl, rw e refl, is)

pub rearms : RearmsByStore
rearms q s counted is walker = rearms_so q s q.event_index refl counted is walker

mutes_so : (q : QueueState) (s : ThreadedQueue) (b : Bool) → q.event_index ≡ b → IsModelOf q s → MutesBy q s (notification_store q false)
mutes_so q s true e is = rw e refl
mutes_so q s false e is = rw e (refl, refl, refl, is)

may_mute : (walking hidden : Bool) → walking ≡ true → (walking || hidden) ≡ true
may_mute walking hidden is = rw is refl

pub mutes : MutesByStore
mutes q s is walker = (mutes_so q s q.event_index refl is, may_mute (walks s.holder) s.hidden (ap walks walker))
