-- A pop by loads ahead is a step of the live machine, since each of its calls is.
use Rattle.std.proofs.Common.{◌≡◌, ◌∙◌, ◌≤◌, ◌^◌, ℕ, List, [], ◌∷◌, Option, Some, None, ap, refl, subst, sym}
use Rattle.vm_iotlb.specs.declared.iova.IovaRange.{IovaRange}
use Rattle.vm_iotlb.specs.declared.permissions.Permissions.{Permissions}
use Rattle.fs_queue.specs.declared.fault.QueueError.{QueueError}
use Rattle.fs_regions.specs.Ahead.{AheadBytes, last_first}
use Rattle.fs_regions.specs.Places.{places_in}
use Rattle.fs_regions.specs.Walks.{Loaded, nothing}
use Rattle.fs_regions.specs.declared.course.Course.{Course}
use Rattle.fs_regions.specs.declared.walk.QueueWalk.{QueueWalk}
use Rattle.fs_chain.specs.Ahead.{PopsAhead, WalksAhead}
use Rattle.fs_chain.specs.AheadSteps.{AddsAhead, PopsAheadBy}
use Rattle.fs_chain.specs.Events.{event_fault, event_miss}
use Rattle.fs_chain.specs.Holds.{BeginsAPop, ContinuesAPop, HoldsPop, IsPopOf, IsRunQueue, RunState, Pop, PopContinues, PopIs, PopsBy}
use Rattle.fs_chain.specs.Holds.{pop_of}
use Rattle.fs_chain.specs.Loads.{ProceedsSo, whole}
use Rattle.fs_chain.specs.Walks.{BeginsUnless, BeginsWhere, ContinuesUnless, LacksEvents, WalksFrom}
use Rattle.fs_chain.specs.Pops.{AddsSo, WantsBytes}
use Rattle.fs_chain.specs.declared.chain_handle.ChainHandle.{ChainHandle}
use Rattle.fs_chain.specs.declared.loads.LoadOutcome as outcome
use Rattle.fs_chain.specs.declared.loads.LoadOutcome.TheVariants as outcomes
use Rattle.fs_chain.specs.declared.popping.PopOutcome as walked
use Rattle.fs_chain.specs.declared.popping.PopOutcome.TheVariants as shows
use Rattle.fs_chain.specs.declared.queue.QueueState.{QueueState}
use Rattle.fs_chain.specs.declared.state.ChainState as state
use Rattle.fs_chain.specs.declared.state.ChainState.TheVariants as at
use Rattle.fs_chain.specs.declared.state.PopId.{PopId}
use Rattle.fs_chain.proofs.HoldsPopped.{pops}

-- each call leaves the regions as they were
lack_regions : (e : QueueError) (miss : Option (IovaRange × Permissions)) (old new : ChainHandle) (q q' : QueueState)
    (result : walked.PopOutcome) → LacksEvents e miss old new q q' result → new.regions ≡ old.regions
lack_regions e None old new q q' result h = h.1.0.0.0
lack_regions e (Some miss) old new q q' result h = h.1.0.0.0

where_regions : (fault : Option QueueError) (old new : ChainHandle) (q q' : QueueState) (result : walked.PopOutcome)
    → BeginsWhere fault old new q q' result → new.regions ≡ old.regions
where_regions None old new q q' result h = h.1.4.0
where_regions (Some e) old new q q' result h = lack_regions e (event_miss (places_in old.regions) q) old new q q' result h

begin_regions : (stopped : Option QueueError) (old new : ChainHandle) (q q' : QueueState) (result : walked.PopOutcome)
    → BeginsUnless stopped old new q q' result → new.regions ≡ old.regions
begin_regions None old new q q' result h = where_regions (event_fault (places_in old.regions) q) old new q q' result h
begin_regions (Some why) old new q q' result h = h.1.0.0

on_regions : (stopped : Option QueueError) (course : Course) (pop_id : PopId) (walk : QueueWalk) (bs : List ℕ) (old new : ChainHandle)
    (q q' : QueueState) (result : walked.PopOutcome) → ContinuesUnless stopped course pop_id walk bs old new q q' result
    → new.regions ≡ old.regions
on_regions None course pop_id walk bs old new q q' result h = h.1.4.0
on_regions (Some why) course pop_id walk bs old new q q' result h = h.1.0.0

from_regions : (st : state.ChainState) (bs : List ℕ) (old new : ChainHandle) (q q' : QueueState) (result : walked.PopOutcome)
    → WalksFrom st bs old new q q' result → new.regions ≡ old.regions
from_regions at.Free bs old new q q' result h = begin_regions q.stopped old new q q' result h
from_regions (at.Popping course pop_id walk) bs old new q q' result h =
    on_regions q.stopped course pop_id walk bs old new q q' result h
from_regions st bs old new q q' result h = absurd h

pub proceeds_regions : (old new : ChainHandle) (q q' : QueueState) (bs : List ℕ) (result : outcome.LoadOutcome)
    → ProceedsSo old q bs result new q'
    → new.regions ≡ old.regions
proceeds_regions old new q q' bs outcomes.Part h = h.3.0.0
proceeds_regions old new q q' bs (outcomes.On result) h = from_regions old.state (whole old bs) old new q q' result h.4

ahead_regions : (taken : List AheadBytes) (old new : ChainHandle) (q q' : QueueState) (result : outcome.LoadOutcome)
    → WalksAhead taken old new q q' result → new.regions ≡ old.regions
ahead_regions [] old new q q' result h = proceeds_regions old new q q' [] result h.1
ahead_regions (l ∷ taken) old new q q' result (w, k, earlier, walks, wants, is, long, proceeds) =
    proceeds_regions w new k q' l.bytes result proceeds ∙ ahead_regions taken old w q k earlier walks

-- what such a pop is, also after a part of a load
abbrev pub AheadIs : (s : RunState) (i : ℕ) (q q' : QueueState) (p : Pop) (new : ChainHandle) → outcome.LoadOutcome → Type 0
AheadIs s i q q' p new outcomes.Part = HoldsPop s.limit p new × (q' ≡ q)
AheadIs s i q q' p new (outcomes.On result) = PopIs s i q q' p new result

held : (s : RunState) (i : ℕ) (q q' : QueueState) (p : Pop) (new : ChainHandle) (result : outcome.LoadOutcome) → WantsBytes result
    → AheadIs s i q q' p new result → HoldsPop s.limit p new × (q' ≡ q)
held s i q q' p new outcomes.Part wants h = h
held s i q q' p new (outcomes.On (shows.Load n)) wants h = h
held s i q q' p new (outcomes.On result) wants h = absurd wants

begins_is : (old new : ChainHandle) (q q' : QueueState) (result : outcome.LoadOutcome) → BeginsAPop old new q q' result
    → (s : RunState) (i : ℕ) → IsRunQueue s i q → s.places ≡ places_in old.regions → s.limit ≡ old.limit → s.limit ≤ 2 ^ 31
    → AheadIs s i q q' (pop_of q nothing) new result
unfolding BeginsAPop
begins_is old new q q' outcomes.Part begins s i queue places limit small = absurd begins
begins_is old new q q' (outcomes.On result) begins s i queue places limit small = begins s i queue places limit small

carries_on_is : (s : RunState) (i : ℕ) (from q q' : QueueState) (l : Loaded) (old new : ChainHandle) (bytes : List ℕ)
    (result : outcome.LoadOutcome) → PopContinues s i q q' (pop_of from l) old new bytes result
    → (loaded : Loaded) × (q.stopped ≡ None → AddsSo old.state result new.descriptors.items l (whole old bytes) loaded)
    × AheadIs s i q q' (pop_of from loaded) new result
carries_on_is s i from q q' l old new bytes outcomes.Part h = (l, (λ proceeds. refl), h)
carries_on_is s i from q q' l old new bytes (outcomes.On result) h = (h.0, h.1, h.2)

pub steps_ahead : (taken : List AheadBytes) (old new : ChainHandle) (q q' : QueueState) (result : outcome.LoadOutcome)
    → (walks : WalksAhead taken old new q q' result) → (s : RunState) (i : ℕ) → IsRunQueue s i q → s.places ≡ places_in old.regions
    → s.limit ≡ old.limit → s.limit ≤ 2 ^ 31
    → (loaded : Loaded) × AddsAhead taken old new q q' result walks loaded × AheadIs s i q q' (pop_of q loaded) new result
unfolding ContinuesAPop
steps_ahead [] old new q q' result (free, proceeds) s i queue places limit small =
    let begins : BeginsAPop old new q q' result =
    subst (λ (st : state.ChainState). PopsBy st old new q q' [] result) free (pops old new q q' [] result proceeds) in
    (nothing, refl, begins_is old new q q' result begins s i queue places limit small)
steps_ahead (l ∷ taken) old new q q' result (w, k, earlier, walks, wants, is, long, proceeds) s i queue places limit small =
    let before = steps_ahead taken old w q k earlier walks s i queue places limit small in
    let p : Pop = pop_of q before.0 in
    let have = held s i q k p w earlier wants before.2 in
    let by : ContinuesAPop w new k q' l.bytes result =
    subst (λ (st : state.ChainState). PopsBy st w new k q' l.bytes result) have.0.state (pops w new k q' l.bytes result proceeds) in
    let here : IsRunQueue s i k = subst (λ (x : QueueState). IsRunQueue s i x) (sym have.1) queue in
    let same : s.places ≡ places_in w.regions = places ∙ ap places_in (sym (ahead_regions taken old w q k earlier walks)) in
    let index : IsPopOf k p = subst (λ (x : QueueState). IsPopOf x p) (sym have.1) refl in
    let next = carries_on_is s i q k q' before.0 w new l.bytes result (by s i p have.0 here same index small) in
    let P : QueueState → Type 0 = λ x. AheadIs s i x q' (pop_of q next.0) new result in
    (next.0, (before.0, before.1, next.1), subst P have.1 next.2)

pub pops_ahead : (ahead : List AheadBytes) (old new : ChainHandle) (q q' : QueueState) (result : walked.PopOutcome)
    → PopsAhead ahead old new q q' (outcomes.On result) → PopsAheadBy ahead old new q q' result
unfolding PopsAheadBy
pops_ahead ahead old new q q' result by = (
  by,
  λ s i queue places limit small.
      steps_ahead (last_first by.first []) old new q q' (outcomes.On result) by.walks s i queue places limit small,
)
