-- A call of a pop, and the loads after its bytes.
use Rattle.std.specs.Prelude.{◌≡◌, ℕ, List, []}
use Rattle.fs_queue.specs.Chain.{Descriptor}
use Rattle.fs_regions.specs.declared.step.CourseStep as comes
use Rattle.fs_regions.specs.Walks.{Loaded, AddsBytes}
use Rattle.fs_chain.specs.declared.queue.QueueState.{QueueState}
use Rattle.fs_chain.specs.declared.state.ChainState as state
use Rattle.fs_chain.specs.declared.state.ChainState.TheVariants as at
use Rattle.fs_chain.specs.declared.popping.PopOutcome.TheVariants as shows
use Rattle.fs_chain.specs.declared.loads.LoadOutcome as outcome
use Rattle.fs_chain.specs.declared.loads.LoadOutcome.TheVariants as outcomes
use Rattle.fs_chain.specs.declared.chain_handle.ChainHandle.{ChainHandle}
use Rattle.fs_chain.specs.Loads.{ProceedsSo}
use Rattle.fs_chain.specs.Walks.{outcome_of}

-- a call of `pop` asks for bytes
abbrev pub WantsBytes : outcome.LoadOutcome → Type 0
WantsBytes outcomes.Part = Unit {0}
WantsBytes (outcomes.On (shows.Load n)) = Unit {0}
WantsBytes (outcomes.On _) = ⊥

-- the first call of a pop, without bytes
abbrev pub BeginsPopBy : (old new : ChainHandle) → (before after : QueueState) → outcome.LoadOutcome → Type 0
BeginsPopBy old new before after result =
    (old.state ≡ at.Free) × ProceedsSo old before [] result new after

-- how a call of `pop`, which left these descriptors, extends the loads: a part of a load adds nothing
-- yet, a whole load adds its bytes
abbrev pub AddsSo : state.ChainState → outcome.LoadOutcome → List Descriptor → (before : Loaded) →
    (bytes : List ℕ) → (after : Loaded) → Type 0
AddsSo at outcomes.Part ds before bs after = after ≡ before
AddsSo (at.Popping course pop_id walk) (outcomes.On result) ds before bs after =
    (came : comes.CourseStep) × (result ≡ outcome_of ds came) × AddsBytes walk bs came before after
AddsSo _ (outcomes.On result) ds before bs after = ⊥
