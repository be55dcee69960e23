use Rattle.fs_regions.proofs.Mappable.{misses_can_be_mapped}
use Rattle.fs_regions.proofs.laws.law_misses_can_be_mapped.Goals as goal

pub returns : goal.returns
returns c = misses_can_be_mapped
