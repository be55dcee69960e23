use Rattle.fs_device.proofs.MarkedRuns.{run_alike}
use Rattle.fs_device.proofs.laws.law_marks.Goals as goal

pub returns : goal.returns
returns g c a b after events all_turns same ran = run_alike g.F.FileSystemBase.may a b after events all_turns same ran
