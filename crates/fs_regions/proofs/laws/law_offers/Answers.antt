use Rattle.fs_regions.proofs.Memories.{offers_are_the_memorys}
use Rattle.fs_regions.proofs.laws.law_offers.Goals as goal

pub returns : goal.returns
returns c = offers_are_the_memorys
