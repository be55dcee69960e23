use Rattle.fs_regions.proofs.ReadingOut.{read_out_is_the_memorys}
use Rattle.fs_regions.proofs.laws.law_read_out.Goals as goal

pub returns : goal.returns
returns c = read_out_is_the_memorys
