-- Calls of a handle that holds its queue's lock, as acts of the model.
use Rattle.std.proofs.Common.{◌≡◌, inl, inr, ℕ, ◌^◌, ◌<◌, Bool, true, List, [], ◌∷◌, ◌++◌, Option, Some, None, refl, subst, sym, ap, ◌∙◌}
use Rattle.std.specs.Prelude.{◌-◌, ◌==◌, IsTrue, if◌then◌else◌, nat_lt, option_map}
use Rattle.fs_turns.specs.Worlds.{World}
use Rattle.fs_turn_calls.specs.Calls.{DropReports, IsWorldOf}
use Rattle.std.specs.Int.{w16, to_le_bytes}
use Rattle.fs_regions.specs.Walks.{Loaded}
use Rattle.fs_queue.specs.Returning.{Store}
use Rattle.fs_queue.specs.ReturningView.{stores_of}
use Rattle.fs_chain.specs.Events.{notification_store, store_of}
use Rattle.fs_chain.specs.Holds.{EndsBy, IsRunQueue, RunState}
use Rattle.fs_chain.specs.Loads.{RefusesAPop}
use Rattle.fs_chain.specs.Orders.{begin_error, give_up_error, is_out, load_len, push_refusal, walk_error}
use Rattle.fs_chain.specs.Pushes.{IfReplied, PushesBy}
use Rattle.fs_chain.specs.Queues.{gave, gave_up}
use Rattle.fs_chain.specs.declared.error.ChainError.TheVariants as error
use Rattle.fs_chain.specs.declared.notifications.NotificationStore.{NotificationStore}
use Rattle.fs_chain.specs.declared.popping.PopOutcome as walked
use Rattle.fs_chain.specs.declared.popping.PopOutcome.TheVariants as shows
use Rattle.fs_chain.specs.declared.pushing.PushStores.{PushStores}
use Rattle.fs_chain.specs.declared.queue.QueueState.{QueueState}
use Rattle.fs_chain.specs.declared.state.InFlight.{InFlight}
use Rattle.fs_chain.specs.declared.state.ChainState as state
use Rattle.fs_chain.specs.declared.state.ChainState.TheVariants as at
use Rattle.fs_chain.specs.declared.chain_handle.ChainHandle.{ChainHandle}
use Rattle.live_machine.proofs.Queues.{same_some}
use Rattle.notify.specs.Kicks as kicks
use Rattle.notify.specs.Kicks.{NotifyState}
use Rattle.notify.specs.Threads.{DropsOne, Loads, SleepsNow, TakesOne, ThreadedQueue, Walker, WishIsThere, Wishes, after_act, may_act}
use Rattle.notify.specs.Threads.{walks}
use Rattle.fs_notify.specs.Givers.{PublishesByStore, rules_of}
use Rattle.fs_notify.specs.Takers.{DropIsAnAct, FindsNoneByPop, HasPopped, HasU16Numbers, IsIndex, IsModelOf, RearmsByStore, ShowsWish}
use Rattle.fs_notify.specs.Takers.{TakesByPop, ways_of}
use Rattle.worked_callers.specs.Notified.{ActsTo, IsStoredWish}
use Rattle.live_machine.proofs.Queues.{none_some}

-- ---- the wish

pub wish_is : RearmsByStore → (q : QueueState) (store : Option NotificationStore) → option_map store_of store ≡ notification_store q true
    → HasU16Numbers q → (s : ThreadedQueue) → IsModelOf q s → s.holder ≡ Walker → IsStoredWish q s store
wish_is law q None is counted s of walker =
    let asked = law q s counted of walker in
    absurd (none_some asked.0 (is ∙ asked.1))
wish_is law q (Some n) is counted s of walker =
    let asked = law q s counted of walker in
    let wished : ThreadedQueue = after_act (ways_of q) (after_act (ways_of q) s Wishes) WishIsThere in
    let same : store_of n ≡ asked.0 = same_some (store_of n) asked.0 (is ∙ asked.1) in (
      ap (λ (st : Store). st.address) same ∙ asked.2,
      subst (λ (st : Store). ShowsWish q st.bytes wished.event wished.muted) (sym same) asked.5,
      (asked.3, (asked.4, refl)),
      asked.6,
    )

-- ---- pops that ended, and drops

abbrev pub SleepsSo : (before after : QueueState) → Loaded → ThreadedQueue → Type 0
SleepsSo before after loaded s =
    let ways = ways_of before in
    (index : ℕ) × IsIndex loaded index
    × ActsTo before s (Wishes ∷ WishIsThere ∷ SleepsNow ∷ [])
    (after_act ways (after_act ways (after_act ways s Wishes) WishIsThere) SleepsNow) after index

pub sleeps_so : RearmsByStore → FindsNoneByPop → (m : RunState) (i : ℕ) (before after : QueueState) (loaded : Loaded) (new : ChainHandle)
    → HasU16Numbers before → IsRunQueue m i before → EndsBy m i before after loaded new shows.Idle → (s : ThreadedQueue)
    → IsModelOf before s → s.holder ≡ Walker → s.index < 2 ^ 16 → SleepsSo before after loaded s
sleeps_so asks finds m i before after loaded new counted there ends s of walker fits =
    let ways = ways_of before in
    let asked = asks before s counted of walker in
    let wished : ThreadedQueue = after_act ways (after_act ways s Wishes) WishIsThere in
    let none = finds m i before after loaded new wished counted fits there ends asked.6 refl refl in
    (none.0, none.1, λ is. ((asked.3, (asked.4, ((none.2 is).0, refl))), (none.2 is).1))

abbrev pub TakesSo : (before after : QueueState) → Loaded → ThreadedQueue → Type 0
TakesSo before after loaded s =
    (index : ℕ) × IsIndex loaded index
    × ActsTo before s (Loads ∷ TakesOne ∷ []) (after_act (ways_of before) (after_act (ways_of before) s Loads) TakesOne) after index

pub takes_so : TakesByPop → (m : RunState) (i : ℕ) (before after : QueueState) (loaded : Loaded) (new : ChainHandle)
    (result : walked.PopOutcome) → HasU16Numbers before → HasPopped result → IsRunQueue m i before
    → EndsBy m i before after loaded new result → (s : ThreadedQueue) → IsModelOf before s → s.holder ≡ Walker
    → TakesSo before after loaded s
takes_so law m i before after loaded new result counted popped there ends s of walker =
    let index_loaded : ThreadedQueue = after_act (ways_of before) s Loads in
    let t = law m i before after loaded new result index_loaded counted popped there ends of walker in
    (t.0, t.1, λ is. ((ap walks walker, ((t.2 is).0, refl)), (t.2 is).1))

pub drops_so : DropIsAnAct → (st : state.ChainState) (q last : QueueState) → HasU16Numbers q → give_up_error st q ≡ None
    → last ≡ (if is_out st then gave_up q else q) → (out : InFlight) (s : ThreadedQueue) → st ≡ at.Popped out → IsModelOf q s
    → s.holder ≡ Walker → IsTrue (may_act (ways_of q) s DropsOne) × IsModelOf last (after_act (ways_of q) s DropsOne)
drops_so law st q last counted clear left out s is of walker =
    let d = law q out s counted (subst (λ (t : state.ChainState). give_up_error t q ≡ None) is clear) of walker in
    let last_is : last ≡ gave_up q = left ∙ ap (λ (b : Bool). if b then gave_up q else q) (ap is_out is) in
    (d.0, subst (λ (k : QueueState). IsModelOf k (after_act (ways_of q) s DropsOne)) (sym last_is) d.1)

-- a thread reports the drop
pub drop_reported : DropReports → (st : state.ChainState) (q last : QueueState) → HasU16Numbers q → give_up_error st q ≡ None
    → last ≡ (if is_out st then gave_up q else q) → (out : InFlight) (w : World) → st ≡ at.Popped out → IsWorldOf q w
    → IsTrue (nat_lt 0 w.out) × IsWorldOf last (record w { position = kicks.back w.position 1; out = w.out - 1 })
drop_reported law st q last counted clear left out w is of =
    let d = law q out w counted (subst (λ (t : state.ChainState). give_up_error t q ≡ None) is clear) of in
    let last_is : last ≡ gave_up q = left ∙ ap (λ (b : Bool). if b then gave_up q else q) (ap is_out is) in
    (d.0, subst (λ (k : QueueState). IsWorldOf k (record w { position = kicks.back w.position 1; out = w.out - 1 })) (sym last_is) d.1)

-- ---- as many as may be

pub full_so : (w : ChainHandle) (q : QueueState) → w.state ≡ at.Free → RefusesAPop w q [] error.ChainInFlight →
    begin_error q 0 ≡ Some error.ChainInFlight
full_so w q free why = elim why [
  | inl due ↦ subst (λ (st : state.ChainState). walk_error st q (if load_len st == 0 then 0 else load_len st)
      ≡ Some error.ChainInFlight) free due.1
  | inr other ↦ elim other [ inl lacks ↦ absurd (cc lacks.0) | inr bad ↦ absurd (cc bad.0) ]
]

-- ---- the push

-- the stores of a push publish one chain
pub published_so : PublishesByStore → (st : state.ChainState) (q : QueueState) (len : ℕ) (s : PushStores) (last : QueueState)
    → push_refusal st q len ≡ None → IfReplied st (λ out reply. PushesBy q out reply s) → last.next_used ≡ (gave q).next_used
    → (u : NotifyState) → u.published ≡ q.next_used
    → (let published = (kicks.after (rules_of q) u (kicks.Publishes 1)).published in
    (first : List Store) × (index : Store)
    × (stores_of s.used ≡ first ++ index ∷ [])
    × (index.bytes ≡ to_le_bytes w16 published)
    × (last.next_used ≡ published))
published_so law (at.Replied out reply) q len s last can by last_is u same =
    let made = law q out reply s u by same in (made.0, _, made.1, refl, last_is ∙ made.2)
published_so law _ q len s last can by last_is u same = absurd (cc)
