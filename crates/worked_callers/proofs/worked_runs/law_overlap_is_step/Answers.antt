use Rattle.std.proofs.Common.{[], refl}
use Rattle.live_machine.specs.Overlap.{at_positions, first_answered, first_exchange, first_used, state}
use Rattle.worked_callers.specs.WorkedRuns.{overlap_events}
use Rattle.worked_callers.proofs.WorkedReturns.{returns_as_a_step}
use Rattle.worked_callers.proofs.worked_runs.law_overlap_is_step.Goals as goal

pub returns : goal.returns
returns g c before after so =
    returns_as_a_step g.F.FileSystemBase.may c.law_runs.ensures.step (state before (at_positions 0 0) 1 [])
    (state after (at_positions 2 2) 0 []) overlap_events first_answered first_exchange first_used refl tt
    (c.law_examples.ensures.overlap before after so)
