-- A popped chain is what memories offer, and entries that were read out of a part of a table are theirs.
use Rattle.std.proofs.Common.{◌≡◌, ◌≤◌, ◌^◌, ℕ, List, None, Some, length, subst}
use Rattle.vm_memory.specs.Memory.{Memory}
use Rattle.vm_memory_core.specs.Host.{Host}
use Rattle.fs_queue.specs.Chain.{entry_address}
use Rattle.fs_queue.specs.Loads.{AreEntriesOf, IsLoadOf}
use Rattle.fs_queue.specs.SteppingView.{visit_of}
use Rattle.fs_queue.specs.Taking.{offer}
use Rattle.fs_regions.specs.Laws.{HasLoaded, ReadOutIsTheMemorys}
use Rattle.fs_regions.specs.Places.{memory_over, places_in}
use Rattle.fs_regions.specs.Walks.{AddsEntries, Loaded}
use Rattle.fs_regions.specs.declared.course.Course.{Course}
use Rattle.fs_regions.specs.declared.step.CourseStep.{CourseStep}
use Rattle.fs_regions.specs.declared.entries.EntriesWalk.{EntriesWalk}
use Rattle.fs_regions.specs.declared.walk.QueueWalk.TheVariants as asks
use Rattle.fs_chain.specs.Holds.{HoldsPop, IsPopOf, IsRunQueue, RunState, Pop, PopsBy, live_of}
use Rattle.fs_chain.specs.Laws.{IsOfferOf, WalksAreOffers}
use Rattle.fs_chain.specs.Loads.{whole}
use Rattle.fs_chain.specs.Pops.{AddsSo}
use Rattle.fs_chain.specs.declared.chain_handle.ChainHandle.{ChainHandle}
use Rattle.fs_chain.specs.declared.loads.LoadOutcome as outcome
use Rattle.fs_chain.specs.declared.loads.LoadOutcome.TheVariants as outcomes
use Rattle.fs_chain.specs.declared.popping.PopOutcome as walked
use Rattle.fs_chain.specs.declared.queue.QueueState.{QueueState}
use Rattle.fs_chain.specs.declared.state.ChainState as state
use Rattle.fs_chain.specs.declared.state.ChainState.TheVariants as at
use Rattle.fs_chain.specs.declared.state.PopId.{PopId}
use Rattle.fs_notify.specs.Takers.{HasPopped}
use Rattle.worked_callers.proofs.Popped.{pop_ends, popped_ends}

-- the loads of a popped chain, and what memories that have them offer
abbrev pub OfferedSo : RunState → QueueState → Pop → (old new : ChainHandle) → (bytes : List ℕ) → outcome.LoadOutcome →
    walked.PopOutcome → Type 0
OfferedSo s q p old new bytes came result =
    (loaded : Loaded)
    × AddsSo old.state came new.descriptors.items p.loaded (whole old bytes) loaded
    × ((h : Host) (request : List ℕ) → HasLoaded (memory_over h old.regions) (live_of q).queue loaded request
    → IsOfferOf new.descriptors.items result request (offer (memory_over h old.regions) s.limit (live_of q).queue))

pub offered_so : WalksAreOffers → (old new : ChainHandle) (q q' : QueueState) (bytes : List ℕ) (came : outcome.LoadOutcome)
    → q.stopped ≡ None → PopsBy old.state old new q q' bytes came
    → (result : walked.PopOutcome) (s : RunState) (i : ℕ) (p : Pop) → came ≡ outcomes.On result → HasPopped result
    → HoldsPop s.limit p old → IsRunQueue s i q → s.places ≡ places_in old.regions → IsPopOf q p → s.limit ≤ 2 ^ 31
    → OfferedSo s q p old new bytes came result
offered_so law old new q q' bytes came runs pops result s i p is popped from there places index small =
    let ends = pop_ends old new q q' bytes came result s i p runs pops is (popped_ends result popped) from there places index small in
    (ends.0, ends.1, λ h request has. law s i q q' ends.0 new result h old.regions request there ends.2 places has)

-- the entries that such a call read out
abbrev pub ReadSo : EntriesWalk → (all : List ℕ) → (loaded after : Loaded) → Memory → Type 0
ReadSo walk all loaded after m =
    (came : CourseStep)
    × (adds : AddsEntries (entry_address (visit_of walk.walk)) all came loaded after)
    × AreEntriesOf m adds.reads

pub read_so : ReadOutIsTheMemorys → (old new : ChainHandle) (bytes : List ℕ) (came : outcome.LoadOutcome)
    → (loaded after : Loaded) (course : Course) (pop_id : PopId) (walk : EntriesWalk) (m : Memory) (result : walked.PopOutcome)
    → came ≡ outcomes.On result → old.state ≡ at.Popping course pop_id (asks.Entries walk)
    → AddsSo old.state came new.descriptors.items loaded (whole old bytes) after
    → IsLoadOf m (length (whole old bytes)) (record { address = entry_address (visit_of walk.walk); came = Some (whole old bytes) })
    → ReadSo walk (whole old bytes) loaded after m
read_so law old new bytes came loaded after course pop_id walk m result is walking adds has =
    let ds = new.descriptors.items in
    let all = whole old bytes in
    let on : AddsSo old.state (outcomes.On result) ds loaded all after =
    subst (λ (t : outcome.LoadOutcome). AddsSo old.state t ds loaded all after) is adds in
    let by : AddsSo (at.Popping course pop_id (asks.Entries walk)) (outcomes.On result) ds loaded all after =
    subst (λ (st : state.ChainState). AddsSo st (outcomes.On result) ds loaded all after) walking on in
    (by.0, by.2, law m (entry_address (visit_of walk.walk)) all by.2.reads has by.2.read_out)
