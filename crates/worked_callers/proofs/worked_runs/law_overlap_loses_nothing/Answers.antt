use Rattle.std.proofs.Common.{[], refl}
use Rattle.live_machine.specs.Live.{LiveRun}
use Rattle.live_machine.specs.Overlap.{at_positions, state}
use Rattle.live_machine.specs.Rounds.{events_among}
use Rattle.worked_callers.specs.WorkedRuns.{all_marked, moments}
use Rattle.worked_callers.proofs.worked_runs.law_overlap_loses_nothing.Goals as goal

pub returns : goal.returns
returns g c before after so =
    let start = state before (at_positions 0 0) 1 [] in
    let now = state after (at_positions 2 2) 0 [] in
    let run : LiveRun g.F.FileSystemBase.may start (events_among moments) now = c.law_examples.ensures.overlap before after so in
    (run, c.law_rounds.ensures.rounds start now moments run all_marked (c.law_rounds.ensures.begins all_marked (λ page. refl) refl))
