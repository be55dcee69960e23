use Rattle.fs_queue.proofs.BoundLemmas.{walks_end}
use Rattle.fs_queue.proofs.laws.law_walks_end.Goals as goal

pub returns : goal.returns
returns c = walks_end
