-- What a call of a pop came to in a run: the end of a pop, or a miss.
use Rattle.std.proofs.Common.{◌≡◌, ◌⊎◌, inl, inr, ◌≤◌, ◌<◌, ◌+◌, ◌^◌, ℕ, Bool, List, [], ◌∷◌, Option, Some, None, subst, sym}
use Rattle.std.specs.Prelude.{true, false, if◌then◌else◌}
use Rattle.vm_iotlb.specs.declared.iova.IovaRange.{IovaRange}
use Rattle.vm_iotlb.specs.declared.permissions.Permissions.{Permissions}
use Rattle.vm_iotlb.specs.declared.permissions.Permissions.TheVariants.{Read, Write}
use Rattle.vm_memory.specs.Memory.{Memory}
use Rattle.fs_queue.specs.Chain.{Descriptor}
use Rattle.fs_queue.specs.declared.fault.QueueError.{QueueError}
use Rattle.fs_regions.specs.Laws.{MissesCanBeMapped}
use Rattle.fs_regions.specs.Misses.{Area, first_miss, last_page, needed_at}
use Rattle.fs_regions.specs.Places.{places_in}
use Rattle.fs_regions.specs.Walks.{Loaded, nothing}
use Rattle.live_machine.specs.Live.{pop_refusal}
use Rattle.live_machine.specs.Several.{LiveQueue, avail_event_at, used_event_at}
use Rattle.fs_chain.specs.Holds.{BeginsAPop, ContinuesAPop, EndsBy, HoldsPop, IsRunQueue, RunState, MissesUnless, Pop, PopContinues, PopIs}
use Rattle.fs_chain.specs.Holds.{IsPopOf, PopsBy, RefusedBy, live_of}
use Rattle.fs_chain.specs.Loads.{whole}
use Rattle.fs_chain.specs.Pops.{AddsSo}
use Rattle.fs_chain.specs.declared.chain_handle.ChainHandle.{ChainHandle}
use Rattle.fs_chain.specs.declared.loads.LoadOutcome as outcome
use Rattle.fs_chain.specs.declared.loads.LoadOutcome.TheVariants as outcomes
use Rattle.fs_chain.specs.declared.popping.PopOutcome as walked
use Rattle.fs_chain.specs.declared.popping.PopOutcome.TheVariants as shows
use Rattle.fs_chain.specs.declared.queue.QueueState.{QueueState}
use Rattle.fs_chain.specs.declared.state.ChainState as state
use Rattle.fs_chain.specs.declared.state.ChainState.TheVariants as at
use Rattle.fs_notify.specs.Takers.{HasPopped}
use Rattle.live_machine.proofs.Queues.{none_some}

-- ---- a pop that ended

-- it isn't refused, and has ended
abbrev pub IsEnd : walked.PopOutcome → Type 0
IsEnd shows.Idle = Unit {0}
IsEnd result = HasPopped result

pub popped_ends : (result : walked.PopOutcome) → HasPopped result → IsEnd result
popped_ends (shows.Chain head n r) popped = tt
popped_ends (shows.Faulty head why) popped = tt
popped_ends result popped = absurd popped

module _ (s : RunState) (i : ℕ) (q q' : QueueState) (p : Pop) (new : ChainHandle) where
  ended : (result : walked.PopOutcome) → IsEnd result → EndsBy s i q q' p.loaded new result ⊎ RefusedBy s i q q' new result
      → EndsBy s i q q' p.loaded new result
  ended result end (inl e) = e
  ended result end (inr r) = absurd (subst IsEnd r.outcome_is end)

  ends_of : (result : walked.PopOutcome) → IsEnd result → PopIs s i q q' p new result → EndsBy s i q q' p.loaded new result
  ends_of shows.Idle end is = ended shows.Idle end is
  ends_of (shows.Chain head n r) end is = ended (shows.Chain head n r) end is
  ends_of (shows.Faulty head why) end is = ended (shows.Faulty head why) end is
  ends_of _ end is = absurd end

-- the loads of a call that ended a pop
abbrev pub EndsAfter : RunState → (i : ℕ) → (q q' : QueueState) → Pop → (old new : ChainHandle) → (bytes : List ℕ) →
    outcome.LoadOutcome → walked.PopOutcome → Type 0
EndsAfter s i q q' p old new bytes came result =
    (loaded : Loaded) × AddsSo old.state came new.descriptors.items p.loaded (whole old bytes) loaded × EndsBy s i q q' loaded new result

pub pop_ends : (old new : ChainHandle) (q q' : QueueState) (bytes : List ℕ) (came : outcome.LoadOutcome) (result : walked.PopOutcome)
    (s : RunState) (i : ℕ) (p : Pop) → q.stopped ≡ None → PopsBy old.state old new q q' bytes came → came ≡ outcomes.On result
    → IsEnd result → HoldsPop s.limit p old → IsRunQueue s i q → s.places ≡ places_in old.regions → IsPopOf q p
    → s.limit ≤ 2 ^ 31 → EndsAfter s i q q' p old new bytes came result
unfolding ContinuesAPop
pop_ends old new q q' bytes came result s i p runs pops is end from there places index small =
    let by : ContinuesAPop old new q q' bytes came =
    subst (λ (st : state.ChainState). PopsBy st old new q q' bytes came) from.state pops in
    let on : PopContinues s i q q' p old new bytes (outcomes.On result) =
    subst (λ (t : outcome.LoadOutcome). PopContinues s i q q' p old new bytes t) is (by s i p from there places index small) in (
      on.0,
      subst (λ (t : outcome.LoadOutcome). AddsSo old.state t new.descriptors.items p.loaded (whole old bytes) on.0) (sym is) (on.1 runs),
      ends_of s i q q' (record p { loaded = on.0 }) new result end on.2,
    )

-- ---- a pop that misses

by_event : (b : Bool) (m : Memory) (areas : List Area) (range : IovaRange) (access : Permissions)
    → (if b then first_miss m areas else None) ≡ Some (range, access) → first_miss m areas ≡ Some (range, access)
by_event true m areas range access is = is
by_event false m areas range access is = absurd (none_some (range, access) is)

mappable : MissesCanBeMapped → (fault : Option QueueError) (s : RunState) (w : LiveQueue) (loaded : Loaded) (ds : List Descriptor)
    (range : IovaRange) (access : Permissions) → MissesUnless fault s w loaded ds range access
    → (0 < range.length) × (range.base.0 + range.length ≤ last_page)
mappable law None s w loaded ds range access m = law s.places (needed_at w.queue m.0) range access m.2
mappable law (Some e) s w loaded ds range access m =
    let areas : List Area = record { from = used_event_at w.queue; len = 2; access = Read }
    ∷ record { from = avail_event_at w.queue; len = 2; access = Write } ∷ [] in
    law s.places areas range access (by_event _ s.places areas range access m.0)

abbrev pub MissedSo : RunState → (q q' : QueueState) → ChainHandle → IovaRange → Permissions → Type 0
MissedSo s q q' new range access =
    (q' ≡ q)
    × (new.state ≡ at.Free)
    × MissesUnless (pop_refusal s.places (live_of q)) s (live_of q) nothing new.descriptors.items range access
    × (0 < range.length)
    × (range.base.0 + range.length ≤ last_page)

pub missed_so : MissesCanBeMapped → (old new : ChainHandle) (q q' : QueueState) (came : outcome.LoadOutcome)
    → old.state ≡ at.Free → PopsBy old.state old new q q' [] came → (s : RunState) (i : ℕ) (range : IovaRange) (access : Permissions)
    → came ≡ outcomes.On (shows.Missing range access) → IsRunQueue s i q → s.places ≡ places_in old.regions → s.limit ≡ old.limit
    → s.limit ≤ 2 ^ 31 → MissedSo s q q' new range access
unfolding BeginsAPop
missed_so law old new q q' came free pops s i range access is there places limit small =
    let begun : BeginsAPop old new q q' came = subst (λ (st : state.ChainState). PopsBy st old new q q' [] came) free pops in
    let on : BeginsAPop old new q q' (outcomes.On (shows.Missing range access)) =
    subst (λ (t : outcome.LoadOutcome). BeginsAPop old new q q' t) is begun in
    let misses = on s i there places limit small in
    let mapped = mappable law (pop_refusal s.places (live_of q)) s (live_of q) nothing new.descriptors.items range access misses.2 in
    (misses.1, misses.0, misses.2, mapped.0, mapped.1)
