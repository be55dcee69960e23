use Rattle.live_machine.proofs.Steps.{pop_is_step_by, returned_beside_is_step, returned_is_step}
use Rattle.live_machine.proofs.law_steps.Goals as goal

pub returns-clause-pop : goal.returns-clause-pop
returns-clause-pop g c = pop_is_step_by g.F.FileSystemBase.may g.G.FileSystemBase.may

pub returns-clause-memory : goal.returns-clause-memory
returns-clause-memory g c = returned_is_step _ _

pub returns-clause-beside : goal.returns-clause-beside
returns-clause-beside g c = returned_beside_is_step _ _
