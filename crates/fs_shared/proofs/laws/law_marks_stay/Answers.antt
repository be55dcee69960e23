use Rattle.fs_shared.proofs.MarksKept.{calls_keep, calls_mark, joins_keep, meets_keep}
use Rattle.fs_shared.proofs.laws.law_marks_stay.Goals as goal

pub returns : goal.returns
returns c = record { calls = calls_mark; later = calls_keep; joins = joins_keep; meets = meets_keep }
