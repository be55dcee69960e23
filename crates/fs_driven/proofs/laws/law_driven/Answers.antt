use Rattle.fs_driven.proofs.Lists.{starts}
use Rattle.fs_driven.proofs.laws.law_driven.Goals as goal

pub returns : goal.returns
returns c = starts
