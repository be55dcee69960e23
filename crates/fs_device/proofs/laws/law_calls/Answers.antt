use Rattle.fs_device.proofs.ReportingLemmas.{run_reports}
use Rattle.fs_device.proofs.laws.law_calls.Goals as goal

pub returns : goal.returns
returns g c s after events all_turns ran = run_reports g.F.FileSystemBase.may s events all_turns after ran
