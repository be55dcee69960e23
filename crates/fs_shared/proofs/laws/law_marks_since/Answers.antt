use Rattle.fs_shared.proofs.SinceKept.{calls_keep_since, calls_mark_since, earlier_asks_nothing, gathers_keep_since, joins_keep_since}
use Rattle.fs_shared.proofs.SinceKept.{meets_keep_since}
use Rattle.fs_shared.proofs.laws.law_marks_since.Goals as goal

pub returns : goal.returns
returns c = record {
  calls = calls_mark_since;
  later = calls_keep_since;
  earlier = earlier_asks_nothing;
  joins = joins_keep_since;
  meets = meets_keep_since;
  gathers = gathers_keep_since;
}
