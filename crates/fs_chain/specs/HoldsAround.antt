-- What the calls around a chain do to a run: freeing its handle, a store before a sleep, a reset of its
-- queue, another memory, and another table of the IOMMU.
use Rattle.std.specs.Prelude.{◌≡◌, ◌⊎◌, ◌≤◌, ℕ, Bool, false, List, [], ◌∷◌, ◌++◌, Option, Some, None}
use Rattle.std.specs.List.{AllByRecursion}
use Rattle.vm_iotlb.specs.declared.range.IotlbRange.{IotlbRange}
use Rattle.vm_memory.specs.Memory.{Memory}
use Rattle.fs_regions.specs.Places.{Mapped, places_in}
use Rattle.live_machine.specs.Live.{Abandons, Happens, InFlightChain, KeepsQueue, Remaps, ResetsQueue}
use Rattle.live_machine.specs.Live.{StoreIsMapped, StoresNotification, after_abandoning, after_reset}
use Rattle.live_machine.specs.Live.{pop_refusal}
use Rattle.live_machine.specs.Several.{HasEventIndex}
use Rattle.fs_chain.specs.Events.{store_of}
use Rattle.fs_chain.specs.Holds.{HoldsInFlight, IsRunQueue, RunState, any_files, live_of}
use Rattle.fs_chain.specs.Queues.{set_as}
use Rattle.fs_chain.specs.Tables.{with_table}
use Rattle.fs_chain.specs.declared.chain_handle.ChainHandle.{ChainHandle}
use Rattle.fs_chain.specs.declared.notifications.NotificationStore.{NotificationStore}
use Rattle.fs_chain.specs.declared.queue.QueueState.{QueueState}
use Rattle.fs_chain.specs.declared.state.ChainState.TheVariants as at

-- the handle is over the run's memory, with its limit
abbrev pub IsOver : RunState → ChainHandle → Type 0
IsOver s w = (s.places ≡ places_in w.regions) × (s.limit ≡ w.limit)

-- freeing a handle is the event `Abandons`, whichever chain of the run it had, in any phase. The chain stays
-- in flight, and no queue changes. The handle is free, and over the run's memory if it was
unfoldable pub AbandonsInRun : (old new : ChainHandle) → Type 0
AbandonsInRun old new =
    (s : RunState) (before behind : List InFlightChain) (c : InFlightChain) →
    s.chains ≡ before ++ c ∷ behind →
    let after = after_abandoning s before behind c in
    Happens any_files s (Abandons c) after × (new.state ≡ at.Free) × (IsOver s old → IsOver after new)

-- the store that enables or disables notifications is the event before a sleep, if its address is mapped.
-- With the event index it is, unless pops of the queue are refused. There is no store only with the event
-- index, when notifications are to be disabled
abbrev pub NotificationIs : RunState → (i : ℕ) → QueueState → (wanted : Bool) → Option NotificationStore →
    Type 0
NotificationIs s i q wanted (Some store) =
    (StoreIsMapped s.places store.address → Happens any_files s (StoresNotification i (store_of store)) s)
    × (HasEventIndex (live_of q) →
    pop_refusal s.places (live_of q) ≡ None →
    StoreIsMapped s.places store.address)
NotificationIs s i q wanted None = HasEventIndex (live_of q) × (wanted ≡ false)

unfoldable pub StoresNotificationInRun : QueueState → (wanted : Bool) → Option NotificationStore → Type 0
StoresNotificationInRun q wanted store = (s : RunState) (i : ℕ) → IsRunQueue s i q →
    NotificationIs s i q wanted store

-- a reset is the event `ResetsQueue`. From then on the caller may set three things otherwise: how many chains
-- may be in flight, from one to as many as the queue has descriptors; the event index; and whether the queue
-- is stopped
unfoldable pub ResetsInRun : (old new : QueueState) → Type 0
ResetsInRun old new =
    (s : RunState) (i : ℕ) (set : QueueState) →
    IsRunQueue s i old →
    1 ≤ set.max_in_flight →
    set.max_in_flight ≤ new.layout.size →
    let q = set_as new set in
    Happens any_files s (ResetsQueue i (live_of q)) (after_reset s i (live_of q))
    × IsRunQueue (after_reset s i (live_of q)) i q

-- a run gets these mappings, by the event `Remaps`. For the queues of the chains in flight, they must map an
-- address of pushes exactly if the run's do
abbrev pub MayRemap : RunState → Memory → Type 0
MayRemap s m = (s.chains ≡ []) ⊎ AllByRecursion (KeepsQueue s m) s.chains

abbrev pub remapped : RunState → Memory → RunState
remapped s m = record s { places = m }

-- a handle's new memory is the event `Remaps` with these regions. The handle is free, and over the run's
-- memory then, if the limit is the run's: its next pops are in that run
unfoldable pub SetsMemoryInRun : (new : ChainHandle) → (regions : Mapped) → (limit : ℕ) → Type 0
SetsMemoryInRun new regions limit =
    (s : RunState) →
    MayRemap s (places_in regions) →
    Happens any_files s (Remaps (places_in regions)) (remapped s (places_in regions))
    × (new.state ≡ at.Free)
    × (s.limit ≡ limit → IsOver (remapped s (places_in regions)) new)

-- an exchanged table is the event `Remaps` with the handle's regions behind the other table, or behind none.
-- The handle is over the run's memory then, if the limit is the run's. A chain that it has it keeps
unfoldable pub RemapsTable : (old new : ChainHandle) → (table : Option (List IotlbRange)) → Type 0
RemapsTable old new table =
    (s : RunState) →
    let m = places_in (with_table old table).regions in
    MayRemap s m →
    Happens any_files s (Remaps m) (remapped s m)
    × (s.limit ≡ old.limit → IsOver (remapped s m) new)
    × ((c : InFlightChain) → HoldsInFlight s.page_size c old → HoldsInFlight s.page_size c new)
