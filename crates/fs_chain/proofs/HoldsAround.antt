-- Freeing a handle, a store before a sleep, a reset, another memory, and another table, as events of a run.
use Rattle.std.proofs.Common.{◌≡◌, inl, inr, ◌<◌, ◌^◌, ℕ, Bool, List, Option, Some, None, refl, subst, sym, ap, ◌∙◌, option_map}
use Rattle.std.specs.Prelude.{Result, Ok, Err, OnOk}
use Rattle.std.specs.List.{AllByRecursion}
use Rattle.fs_queue.specs.Returning.{Store}
use Rattle.fs_queue.specs.declared.layout.QueueLayout.{QueueLayout}
use Rattle.vm_iotlb.specs.declared.range.IotlbRange.{IotlbRange}
use Rattle.vm_memory.specs.Memory.{Memory}
use Rattle.fs_regions.specs.Places.{Mapped, places_in}
use Rattle.live_machine.specs.Live.{Happens, InFlightChain, KeepsQueue, Remaps, StoreIsMapped}
use Rattle.live_machine.specs.Several.{LiveQueue, avail_event_at}
use Rattle.live_machine.proofs.Declined.{has_events}
use Rattle.live_machine.proofs.Queues.{there_same}
use Rattle.live_machine.proofs.Wishes.{none_stored, wish_by_event, wish_stored}
use Rattle.fs_chain.specs.Events as events
use Rattle.fs_chain.specs.Events.{store_of}
use Rattle.fs_chain.specs.Holds.{HoldsInFlight, RunState, any_files, live_of}
use Rattle.fs_chain.specs.HoldsAround.{AbandonsInRun, MayRemap, NotificationIs, RemapsTable, ResetsInRun, SetsMemoryInRun}
use Rattle.fs_chain.specs.HoldsAround.{StoresNotificationInRun, remapped}
use Rattle.fs_chain.specs.Pushes.{IsFreed}
use Rattle.fs_chain.specs.Queues.{reset_to, set_as}
use Rattle.fs_chain.specs.Tables.{with_table}
use Rattle.fs_chain.specs.declared.error.ChainError.{ChainError}
use Rattle.fs_chain.specs.declared.state.ChainState.TheVariants as at
use Rattle.fs_chain.specs.declared.chain_handle.ChainHandle.{ChainHandle}
use Rattle.fs_chain.specs.declared.notifications.NotificationStore.{NotificationStore}
use Rattle.fs_chain.specs.declared.queue.QueueState.{QueueState}

pub abandons : (old new : ChainHandle) → IsFreed old new → AbandonsInRun old new
unfolding AbandonsInRun
abandons old new freed s before behind c out = (
  record { before = before; behind = behind; out = out; state = refl },
  freed.0.3,
  λ over. (over.0 ∙ ap places_in (sym freed.0.0.0), over.1 ∙ sym freed.0.0.1),
)

-- ---- a store before a sleep

pub stores_notice : (q : QueueState) (wanted : Bool) (store : Option NotificationStore) →
    option_map store_of store ≡ events.notification_store q wanted → StoresNotificationInRun q wanted store
unfolding StoresNotificationInRun
stores_notice q wanted store is s i there = by_store store is
  where
    by_store : (store : Option NotificationStore) → option_map store_of store ≡ events.notification_store q wanted →
        NotificationIs s i q wanted store
    by_store (Some store) is = (
      λ place. record { w = live_of q; there = there; wanted = wanted; stores = sym is; place = place; state = refl },
      λ has proceeds.
          let at : store.address ≡ avail_event_at (live_of q).queue =
          ap (λ (k : Store). k.address) (wish_stored (live_of q) wanted (store_of store) (sym is)).1 ∙ wish_by_event (live_of q) has in
          subst (λ (a : ℕ). StoreIsMapped s.places a) (sym at) (has_events s.places (live_of q) proceeds has).1,
    )
    by_store None is = none_stored (live_of q) wanted (sym is)

-- ---- a reset, and another memory

pub resets : (old new : QueueState) (layout : QueueLayout) (position : ℕ) → new ≡ reset_to old layout position → position < 2 ^ 16 →
    ResetsInRun old new
unfolding ResetsInRun
resets old new layout position is small s i set there some few =
    let w : LiveQueue = live_of (set_as new set) in (
      record {
        old = live_of old;
        there = there;
        positions_agree = (
          ap (λ (q : QueueState). q.next_used) is ∙ sym (ap (λ (q : QueueState). q.next_avail) is),
          subst (λ (q : QueueState). q.next_avail < 2 ^ 16) (sym is) small,
        );
        few = (some, few);
        state = refl;
      },
      there_same s.queues i i (λ _. w) (live_of old) refl there,
    )

remaps : (s : RunState) (m : Memory) → MayRemap s m → Happens any_files s (Remaps m) (remapped s m)
remaps s m keeps =
    let all : AllByRecursion (KeepsQueue s m) s.chains =
    elim keeps [
      | inl none ↦ subst (λ (cs : List InFlightChain). AllByRecursion (KeepsQueue s m) cs) (sym none) tt
      | inr kept ↦ kept
    ] in record { keeps = all; state = refl }

sets_free : (new : ChainHandle) (regions : Mapped) (limit : ℕ) → new.regions ≡ regions → new.limit ≡ limit → new.state ≡ at.Free →
    SetsMemoryInRun new regions limit
unfolding SetsMemoryInRun
sets_free new regions limit regions_are limit_is free s keeps = (
  remaps s (places_in regions) keeps,
  free,
  λ is. (ap places_in (sym regions_are), is ∙ sym limit_is),
)

pub sets_memory : (old new : ChainHandle) (regions : Mapped) (limit : ℕ) (result : Result (Unit {0}) ChainError) → old.state ≡ at.Free
    → OnOk result ((new.regions ≡ regions) × (new.limit ≡ limit) × (new.state ≡ old.state) × (new.part ≡ old.part)
    × (new.session ≡ old.session) × (new.ticket ≡ old.ticket) × (new.list_len ≡ old.list_len))
    → OnOk result (SetsMemoryInRun new regions limit)
sets_memory old new regions limit (Ok done) free set = sets_free new regions limit set.0 set.1 (set.2 ∙ free)
sets_memory old new regions limit (Err e) free set = tt

-- ---- another table

pub remaps_table : (old new : ChainHandle) (table : Option (List IotlbRange)) → new ≡ with_table old table → RemapsTable old new table
unfolding RemapsTable
remaps_table old new table is s keeps = (
  remaps s (places_in (with_table old table).regions) keeps,
  λ limit. (ap (λ (w : ChainHandle). places_in w.regions) (sym is), limit ∙ ap (λ (w : ChainHandle). w.limit) (sym is)),
  λ c held. subst (λ (w : ChainHandle). HoldsInFlight s.page_size c w) (sym is) held,
)
