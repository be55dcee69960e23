-- What a queue has whose pops aren't refused.
use Rattle.std.proofs.Common.{◌≡◌, ℕ, Bool, Some, None, refl, sym, true, false, not, if◌then◌else◌}
use Rattle.std.proofs.lemmas.Bool.{true≢false}
use Rattle.vm_iotlb.specs.declared.permissions.Permissions.TheVariants.{Read, Write}
use Rattle.vm_memory.specs.Memory.{Memory, reach}
use Rattle.fs_queue.specs.declared.fault.QueueError.TheVariants as stop
use Rattle.live_machine.specs.Several.{HasEventIndex, LiveQueue, avail_event_at, seen_at, used_event_at}
use Rattle.live_machine.specs.Live.{pop_refusal}
use Rattle.live_machine.specs.Runs.{HasUsedEvent}
use Rattle.live_machine.proofs.Queues.{none_some}

declined_tests : (stopped index used avail : Bool) →
    (if stopped then Some stop.Stopped else if not index then None else if not used then Some stop.AvailFlagsUnreachable
    else if not avail then Some stop.UsedUnreachable else None) ≡ None → index ≡ true → (used ≡ true) × (avail ≡ true)
declined_tests true index used avail is event = absurd (none_some stop.Stopped (sym is))
declined_tests false false used avail is event = absurd (true≢false (sym event))
declined_tests false true false avail is event = absurd (none_some stop.AvailFlagsUnreachable (sym is))
declined_tests false true true false is event = absurd (none_some stop.UsedUnreachable (sym is))
declined_tests false true true true is event = (refl, refl)

-- with the event index used_event and avail_event have places
pub has_events : (m : Memory) (w : LiveQueue) → pop_refusal m w ≡ None → HasEventIndex w
    → (reach m Read (used_event_at w.queue) 2 ≡ true) × (reach m Write (avail_event_at w.queue) 2 ≡ true)
has_events m w proceeds event = declined_tests _ _ _ _ proceeds event

-- the two bytes that are seen have one
seen_tests : (m : Memory) (b : Bool) (flags event : ℕ) → reach m Read flags 2 ≡ true → (b ≡ true → reach m Read event 2 ≡ true) →
    reach m Read (if b then event else flags) 2 ≡ true
seen_tests m true flags event one two = two refl
seen_tests m false flags event one two = one

pub seen_has_a_place :
    (m : Memory) (w : LiveQueue) → reach m Read w.queue.avail 2 ≡ true → HasUsedEvent m w → reach m Read (seen_at w) 2 ≡ true
seen_has_a_place m w flags event = seen_tests m _ w.queue.avail (used_event_at w.queue) flags event
