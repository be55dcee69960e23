-- The store before a sleep: two bytes at one address.
use Rattle.std.proofs.Common.{◌≡◌, ℕ, Bool, true, false, Some, None, refl, sym, if◌then◌else◌}
use Rattle.std.specs.Int.{w16, to_le_bytes}
use Rattle.fs_queue.specs.Returning.{Store}
use Rattle.live_machine.specs.Several.{HasEventIndex, LiveQueue, avail_event_at, sleep_store, wish_at}
use Rattle.live_machine.proofs.Queues.{none_some, same_some}

-- these two bytes at this address
abbrev pub StoresTwo : (address : ℕ) → Store → Type 0
StoresTwo a store = (v : ℕ) × (store ≡ record { address = a; bytes = to_le_bytes w16 v })

sleep_cases : (event wanted : Bool) (avail_event used position : ℕ) (store : Store) →
    (if event then (if wanted then Some (record { address = avail_event; bytes = to_le_bytes w16 position }) else None)
    else Some (record { address = used; bytes = to_le_bytes w16 (if wanted then 0 else 1) })) ≡ Some store →
    StoresTwo (if event then avail_event else used) store
sleep_cases true true avail_event used position store is = (position, sym (same_some _ store is))
sleep_cases true false avail_event used position store is = absurd (none_some store is)
sleep_cases false true avail_event used position store is = (0, sym (same_some _ store is))
sleep_cases false false avail_event used position store is = (1, sym (same_some _ store is))

-- it goes to where the device has its wish
pub wish_stored : (w : LiveQueue) (wanted : Bool) (store : Store) → sleep_store w wanted ≡ Some store → StoresTwo (wish_at w) store
wish_stored w wanted store is = sleep_cases _ _ _ _ _ store is

none_cases : (event wanted : Bool) (one other : Store) → (if event then (if wanted then Some one else None) else Some other) ≡ None →
    (event ≡ true) × (wanted ≡ false)
none_cases true true one other is = absurd (none_some one (sym is))
none_cases true false one other is = (refl, refl)
none_cases false wanted one other is = absurd (none_some other (sym is))

-- there is none only with the event index, when notifications are to be disabled
pub none_stored : (w : LiveQueue) (wanted : Bool) → sleep_store w wanted ≡ None → HasEventIndex w × (wanted ≡ false)
none_stored w wanted is = none_cases _ wanted _ _ is

-- with the event index the device has its wish in avail_event
pub wish_by_event : (w : LiveQueue) → HasEventIndex w → wish_at w ≡ avail_event_at w.queue
wish_by_event w has = rw has refl
