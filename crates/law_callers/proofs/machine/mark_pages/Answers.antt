use Rattle.std.proofs.Common.{[], ◌∷◌, true}
use Rattle.plain_machine.specs.Examples.{unknown_exchange, with_one_request}
use Rattle.law_callers.specs.Worked.{machine, replied, unknown_kick, unknown_turn}
use Rattle.law_callers.proofs.Steps.{unknown_performed, unknown_step}
use Rattle.law_callers.proofs.machine.mark_pages.Goals as goal

pub returns-clause-writes : goal.returns-clause-writes
returns-clause-writes g c m = c.law_marked_pages.ensures.writes m ((0x2000, 1) ∷ (0x3000, 2) ∷ [])

pub returns-clause-step : goal.returns-clause-step
returns-clause-step g c files =
    c.law_marked_pages.ensures.steps (machine with_one_request files) (replied files) 0 [] unknown_exchange true
    (unknown_step g.F.FileSystemBase.may files)

pub returns-clause-kick : goal.returns-clause-kick
returns-clause-kick g c files =
    c.law_marked_pages.ensures.commands (machine with_one_request files) (replied files) unknown_kick.0 (unknown_turn ∷ []) unknown_kick.1
    (unknown_performed g.F.FileSystemBase.may files)
