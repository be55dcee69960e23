use Rattle.fs_shared.proofs.Forgetting.{step_forgets, plays_forgets}
use Rattle.fs_shared.proofs.laws.law_forgets.Goals as goal

pub returns : goal.returns
returns g c = record {
  steps = λ s after i calls outcome t. step_forgets g.F.FileSystemBase.may s after i calls outcome t;
  events = λ s after command outcome pages t. plays_forgets g.F.FileSystemBase.may s after command outcome pages t;
}
