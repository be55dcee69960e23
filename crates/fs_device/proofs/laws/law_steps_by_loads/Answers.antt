use Rattle.plain_machine.proofs.StepByLemmas.{step_by_is_step, step_is_step_by, stores_only_there}
use Rattle.fs_device.proofs.laws.law_steps_by_loads.Goals as goal

pub returns-clause-is_step : goal.returns-clause-is_step
returns-clause-is_step g c s i l calls outcome e after one made =
    step_by_is_step g.F.FileSystemBase.may s i l calls outcome e after one made

pub returns-clause-has : goal.returns-clause-has
returns-clause-has g c s i calls outcome after made = step_is_step_by g.F.FileSystemBase.may s i calls outcome after made

pub returns-clause-there : goal.returns-clause-there
returns-clause-there g c s i l calls outcome e after q o there is made =
    stores_only_there g.F.FileSystemBase.may s i l calls outcome e after q o there is made
