-- A run that ends with a chain's return.
use Rattle.std.proofs.Common.{◌≡◌, List, [], ◌∷◌, ◌++◌, true, refl, subst, sym}
use Rattle.fs_queue.specs.Returning.{Store}
use Rattle.plain_machine.specs.Step.{Exchange}
use Rattle.server_meanings.specs.Examples.{le16}
use Rattle.server_meanings.specs.Serving.{May}
use Rattle.live_machine.specs.Live.{Happens, LiveEvent, LiveRun, LiveState, InFlightChain, PushesChain}
use Rattle.live_machine.specs.Runs.{IsServedPhase, ReturnedIsStepBy}
use Rattle.worked_callers.specs.WorkedRuns.{LeadsToAStep}

-- the state before the last event of a run
pub split_last : {F : Type 0} (may : May F) (s after : LiveState F) (es : List LiveEvent) (e : LiveEvent)
    → LiveRun may s (es ++ e ∷ []) after → (now : LiveState F) × LiveRun may s es now × Happens may now e after
split_last {F} may s after [] e run = (s, refl, subst (λ (k : LiveState F). Happens may s e k) (sym run.2) run.1)
split_last {F} may s after (x ∷ es) e run =
    let rest = split_last may run.0 after es e run.2 in
    (rest.0, (run.0, run.1, rest.1), rest.2)

pub returns_as_a_step : {F : Type 0} (may : May F) (law : ReturnedIsStepBy may may) (start after : LiveState F) (es : List LiveEvent)
    (c : InFlightChain) (x : Exchange) (used : List Store) → start.chains ≡ [] → IsServedPhase c.phase
    → LiveRun may start (es ++ PushesChain c x true 0 used (le16 0) ∷ []) after → LeadsToAStep may start es after c x used
returns_as_a_step {F} may law start after es c x used none served run =
    let split = split_last may start after es (PushesChain c x true 0 used (le16 0)) run in (
      split.0,
      split.1,
      split.2,
      λ m files first calls.
          law start split.0 after es c x true 0 used (le16 0) m files none split.1 split.2 served first calls,
    )
