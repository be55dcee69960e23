-- A pop by loads ahead, as a step of the live machine.
use Rattle.std.specs.Prelude.{◌≡◌, ◌≤◌, ◌^◌, ℕ, List, [], ◌∷◌, None}
use Rattle.fs_regions.specs.Ahead.{AheadBytes, last_first}
use Rattle.fs_regions.specs.Places.{places_in}
use Rattle.fs_regions.specs.Walks.{Loaded, nothing}
use Rattle.fs_chain.specs.Ahead.{PopsAhead, WalksAhead}
use Rattle.fs_chain.specs.Holds.{IsRunQueue, RunState, PopIs, pop_of}
use Rattle.fs_chain.specs.Loads.{whole}
use Rattle.fs_chain.specs.Pops.{AddsSo}
use Rattle.fs_chain.specs.declared.chain_handle.ChainHandle.{ChainHandle}
use Rattle.fs_chain.specs.declared.loads.LoadOutcome as outcome
use Rattle.fs_chain.specs.declared.loads.LoadOutcome.TheVariants as outcomes
use Rattle.fs_chain.specs.declared.popping.PopOutcome as walked
use Rattle.fs_chain.specs.declared.queue.QueueState.{QueueState}

-- the loads of a pop by loads ahead: those of its calls, as long as its queue isn't stopped
abbrev pub AddsAhead : (taken : List AheadBytes) (old new : ChainHandle) (before after : QueueState)
    (result : outcome.LoadOutcome) → WalksAhead taken old new before after result → Loaded → Type 0
AddsAhead [] old new before after result walks loaded = loaded ≡ nothing
AddsAhead (l ∷ taken) old new before after result walks loaded =
    (earlier : Loaded)
    × AddsAhead taken old walks.0 before walks.1 walks.2 walks.3 earlier
    × (walks.1.stopped ≡ None →
    AddsSo walks.0.state result new.descriptors.items earlier (whole walks.0 l.bytes) loaded)

-- a pop that begins and goes on by loads ahead is one step at most, by the loads that it takes of these: it
-- asks for the next one, or misses addresses, or ends, or is refused
unfoldable pub PopsAheadBy : (ahead : List AheadBytes) → (old new : ChainHandle) → (q q' : QueueState) →
    walked.PopOutcome → Type 0
PopsAheadBy ahead old new q q' result =
    (pop : PopsAhead ahead old new q q' (outcomes.On result))
    × ((s : RunState) (i : ℕ) →
    IsRunQueue s i q →
    s.places ≡ places_in old.regions →
    s.limit ≡ old.limit →
    s.limit ≤ 2 ^ 31 →
    (loaded : Loaded)
    × AddsAhead (last_first pop.first []) old new q q' (outcomes.On result) pop.walks loaded
    × PopIs s i q q' (pop_of q loaded) new result)
