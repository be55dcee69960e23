use Rattle.fs_shared.proofs.WholePasses.{halves_are_whole, joins_give_back}
use Rattle.fs_shared.proofs.laws.law_passes_are_whole.Goals as goal

pub returns : goal.returns
returns c = record { joins = joins_give_back; whole = halves_are_whole }
