use Rattle.fs_notify.proofs.Drops.{drops, ends_return, full}
use Rattle.fs_notify.proofs.Walks.{finds_none, sleeps, takes}
use Rattle.fs_notify.proofs.Wishes.{mutes, rearms}
use Rattle.fs_notify.proofs.law_takers.Goals as goal

pub returns : goal.returns
returns c = record {
  rearms = rearms;
  mutes = mutes;
  takes = takes;
  none = finds_none;
  full = full;
  drops = drops;
  returns = ends_return;
  order = sleeps;
}
