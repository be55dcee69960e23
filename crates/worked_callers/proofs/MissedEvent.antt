-- used_event is missed if the table maps nothing. Without regions it is unmapped.
use Rattle.std.proofs.Common.{arith, ◌≡◌, ℕ, ◌+◌, ◌≤◌, Bool, List, [], ◌∷◌, Option, None, Some, refl, subst}
use Rattle.std.specs.Prelude.{◌&&◌, ◌^◌, false, true, nat_le, nat_lt}
use Rattle.std.proofs.lemmas.Bool.Decides.{nat_tests}
use Rattle.vm_iotlb.specs.AddressRuns.{missing, run_of, runs}
use Rattle.vm_iotlb.specs.Ranges.{table_held}
use Rattle.vm_iotlb.specs.declared.permissions.Permissions.TheVariants.{Read, Write}
use Rattle.vm_memory.specs.Layout.{Region, place}
use Rattle.vm_memory.specs.Memory.{addresses, reach}
use Rattle.fs_queue.specs.declared.fault.QueueError.{QueueError}
use Rattle.fs_queue.specs.declared.fault.QueueError.TheVariants.{AvailFlagsUnreachable}
use Rattle.fs_regions.specs.Misses.{Area, first_miss, last_page}
use Rattle.fs_regions.specs.Places.{Mapped, behind, places_in, untranslated}
use Rattle.fs_chain.specs.Events.{avail_event_at, event_fault, event_miss, used_event_at}
use Rattle.live_machine.specs.Several.{HasEventIndex}
use Rattle.fs_chain.specs.Holds.{live_of}
use Rattle.fs_chain.specs.Loads.{ProceedsSo, whole}
use Rattle.fs_chain.specs.Walks.{BeginsPop, BeginsUnless, BeginsWhere, LacksEvents, WalksFrom}
use Rattle.fs_chain.specs.declared.chain_handle.ChainHandle.{ChainHandle}
use Rattle.fs_chain.specs.declared.loads.LoadOutcome as outcome
use Rattle.fs_chain.specs.declared.loads.LoadOutcome.TheVariants as outcomes
use Rattle.fs_chain.specs.declared.popping.PopOutcome as walked
use Rattle.fs_chain.specs.declared.queue.QueueState.{QueueState}
use Rattle.fs_chain.specs.declared.state.ChainState as state
use Rattle.fs_chain.specs.declared.state.ChainState.TheVariants as at
use Rattle.fs_chain.proofs.HoldsPopped.{begins_none}

-- regions behind a table without mappings
abbrev pub behind_none : List Region → Mapped
behind_none layout = behind layout []

never : (b : Bool) → (b && false) ≡ false
never true = refl
never false = refl

first_missed : (layout : List Region) (a : ℕ) (rest : List Area) → nat_le (a + 2) last_page ≡ true
    → first_miss (places_in (behind_none layout)) (record { from = a; len = 2; access = Read } ∷ rest) ≡ Some (run_of a 2, Read)
unfolding missing runs table_held
first_missed layout a rest low = rw low refl

none_reached : (layout : List Region) (a : ℕ) → reach (places_in (behind_none layout)) Read a 2 ≡ false
unfolding addresses table_held
none_reached layout a = never (nat_lt (a + 2) (2 ^ 64))

pub missed_event : (layout : List Region) (q : QueueState) → HasEventIndex (live_of q) → used_event_at q.layout + 2 ≤ last_page
    → (event_fault (places_in (behind_none layout)) q ≡ Some AvailFlagsUnreachable)
    × (event_miss (places_in (behind_none layout)) q ≡ Some (run_of (used_event_at q.layout) 2, Read))
missed_event layout q event low =
    let at = used_event_at q.layout in
    let test : nat_le (at + 2) last_page ≡ true = grind (arith, nat_tests) in (
      rw event (rw (none_reached layout at) refl),
      rw event (first_missed layout at (record { from = avail_event_at q.layout; len = 2; access = Write } ∷ []) test),
    )

-- ---- without regions

none_mapped : (a : ℕ) → reach (places_in (untranslated [])) Read a 2 ≡ false
unfolding addresses place
none_mapped a = never (nat_lt (a + 2) (2 ^ 64))

pub unmapped_event : (q : QueueState) → HasEventIndex (live_of q)
    → (event_fault (places_in (untranslated [])) q ≡ Some AvailFlagsUnreachable)
    × (event_miss (places_in (untranslated [])) q ≡ None)
unmapped_event q event = (rw event (rw (none_mapped (used_event_at q.layout)) refl), rw event refl)

-- ---- the first call of such a pop

pub lacking : (old new : ChainHandle) (q q' : QueueState) (came : outcome.LoadOutcome) (e : QueueError) → old.state ≡ at.Free
    → q.stopped ≡ None → event_fault (places_in old.regions) q ≡ Some e → ProceedsSo old q [] came new q'
    → (result : walked.PopOutcome) × (came ≡ outcomes.On result)
    × LacksEvents e (event_miss (places_in old.regions) q) old new q q' result × (new.part.items ≡ [])
lacking old new q q' outcomes.Part e free running fault call = absurd (begins_none old q [] new q' free call)
lacking old new q q' (outcomes.On result) e free running fault call =
    let begins : BeginsPop old new q q' result =
    subst (λ (st : state.ChainState). WalksFrom st (whole old []) old new q q' result) free call.4 in
    let unless : BeginsUnless None old new q q' result =
    subst (λ (s : Option QueueError). BeginsUnless s old new q q' result) running begins in
    let lacks : BeginsWhere (Some e) old new q q' result =
    subst (λ (f : Option QueueError). BeginsWhere f old new q q' result) fault unless in
    (result, refl, lacks, call.1)
