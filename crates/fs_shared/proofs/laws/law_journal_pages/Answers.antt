use Rattle.fs_shared.proofs.Differing.{journals_tell_pages}
use Rattle.fs_shared.proofs.Splitting.{journals_split}
use Rattle.fs_shared.proofs.laws.law_journal_pages.Goals as goal

pub returns : goal.returns
returns c = record { pages = journals_tell_pages; split = journals_split }
