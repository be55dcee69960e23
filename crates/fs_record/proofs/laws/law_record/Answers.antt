use Rattle.fs_record.proofs.ReadingLemmas.{one_reading}
use Rattle.fs_record.proofs.laws.law_record.Goals as goal

pub returns-clause-reading : goal.returns-clause-reading
returns-clause-reading c = one_reading
