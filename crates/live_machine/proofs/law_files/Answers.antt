use Rattle.live_machine.proofs.Files.{runs_over_files}
use Rattle.live_machine.proofs.law_files.Goals as goal

pub returns : goal.returns
returns g c = runs_over_files g.F.FileSystemBase.may
