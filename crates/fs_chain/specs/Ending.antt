-- A pop ends after few loads, whatever they find.
use Rattle.std.specs.Prelude.{◌+◌, ℕ, zero, suc, List}
use Rattle.fs_chain.specs.Loads.{ProceedsSo}
use Rattle.fs_chain.specs.Walks.{IsAllButPart}
use Rattle.fs_chain.specs.declared.chain_handle.ChainHandle.{ChainHandle}
use Rattle.fs_chain.specs.declared.loads.LoadOutcome as outcome
use Rattle.fs_chain.specs.declared.loads.LoadOutcome.TheVariants as outcomes
use Rattle.fs_chain.specs.declared.popping.PopOutcome as walked
use Rattle.fs_chain.specs.declared.popping.PopOutcome.TheVariants as shows
use Rattle.fs_chain.specs.declared.queue.QueueState.{QueueState}
use Rattle.fs_chain.specs.declared.state.ChainState as state
use Rattle.fs_chain.specs.declared.state.ChainState.TheVariants as at

-- a pop with this result ends after at most n more whole loads of any bytes. Between the calls of `pop` other
-- handles may change the queue. Parts of a load change nothing but the part that the handle keeps
unfoldable pub PopEndsWithin : (n : ℕ) → ChainHandle → walked.PopOutcome → Type 0
PopEndsWithin zero w (shows.Load len) = ⊥
PopEndsWithin (suc n) w (shows.Load len) =
    (v new : ChainHandle) (q q' : QueueState) (bytes : List ℕ) (result : walked.PopOutcome) →
    IsAllButPart w v →
    ProceedsSo v q bytes (outcomes.On result) new q' →
    PopEndsWithin n new result
PopEndsWithin n w _ = Unit {0}

-- a pop that begins with this result ends after at most size + 4 loads
abbrev pub EndsSoon : state.ChainState → (new : ChainHandle) → (size : ℕ) → outcome.LoadOutcome → Type 0
EndsSoon at.Free new size (outcomes.On result) = PopEndsWithin (size + 4) new result
EndsSoon _ new size _ = Unit {0}
