use Rattle.std.proofs.Common.{[], refl, true}
use Rattle.plain_machine.specs.Run.{SetLayout, effect, with_layout}
use Rattle.plain_machine.specs.Step.{Exchanged}
use Rattle.fs_shared.specs.Replay as replay
use Rattle.law_callers.specs.Worked.{forget_exchange, forget_turn, forgotten, machine, small, with_forget}
use Rattle.law_callers.proofs.Steps.{forget_step}
use Rattle.law_callers.proofs.shared.forget_files.Goals as goal

pub returns-clause-step : goal.returns-clause-step
returns-clause-step g c before after so =
    c.law_forgets.ensures.steps (machine with_forget before) (forgotten before after) 0 forget_turn.calls (Exchanged forget_exchange true)
    (forget_step g.F.FileSystemBase.may before after so)

pub returns-clause-event : goal.returns-clause-event
unfolding effect
returns-clause-event g c files =
    c.law_forgets.ensures.events (machine small files) (with_layout (machine small files) []) (SetLayout []) replay.Done []
    (refl, refl, refl)
