use Rattle.plain_machine.proofs.PageLemmas.{steps_mark, writes_mark}
use Rattle.fs_device.proofs.PageRuns.{commands_mark}
use Rattle.fs_device.proofs.laws.law_marked_pages.Goals as goal

pub returns-clause-writes : goal.returns-clause-writes
returns-clause-writes g c m ws = writes_mark m ws

pub returns-clause-steps : goal.returns-clause-steps
returns-clause-steps g c s after i calls x notice step = steps_mark g.F.FileSystemBase.may s after i calls x notice step

pub returns-clause-commands : goal.returns-clause-commands
returns-clause-commands g c s after command turns answer performs =
    commands_mark g.F.FileSystemBase.may s after command turns answer performs
