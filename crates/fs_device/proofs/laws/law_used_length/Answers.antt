use Rattle.plain_machine.proofs.UsedLemmas.{lengths_are_of_replies}
use Rattle.fs_device.proofs.laws.law_used_length.Goals as goal

pub returns : goal.returns
returns g c s after i calls x notice step = lengths_are_of_replies g.F.FileSystemBase.may s after i calls x notice step
