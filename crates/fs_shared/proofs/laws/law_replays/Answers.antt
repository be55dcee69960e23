use Rattle.fs_shared.proofs.Replaying.{kicks_replay, acts_replay}
use Rattle.fs_shared.proofs.laws.law_replays.Goals as goal

pub returns : goal.returns
returns g c = record {
  kicks = λ before after i result held does. kicks_replay g.F.FileSystemBase.may before after i result held does;
  acts = λ before after command result held does. acts_replay g.F.FileSystemBase.may before after command result held does;
}
