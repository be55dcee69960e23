use Rattle.fs_regions.proofs.Touching.{others_stay}
use Rattle.fs_regions.proofs.laws.law_others_stay.Goals as goal

pub returns : goal.returns
returns c = others_stay
