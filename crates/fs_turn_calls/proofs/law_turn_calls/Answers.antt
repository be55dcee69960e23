use Rattle.fs_turn_calls.proofs.Reports.{pop_reports, idle_reports, full_reports, arms_by_store, push_reports}
use Rattle.fs_turn_calls.proofs.Reports.{mute_reports, drop_reports}
use Rattle.fs_turn_calls.proofs.law_turn_calls.Goals as goal

pub returns : goal.returns
returns c = record {
  popped = pop_reports c.law_takers.ensures.takes;
  idle = idle_reports c.law_takers.ensures.none;
  full = full_reports c.law_takers.ensures.full;
  arms = arms_by_store c.law_takers.ensures.rearms;
  muted = mute_reports c.law_takers.ensures.mutes;
  dropped = drop_reports c.law_takers.ensures.drops;
  pushed = push_reports c.law_takers.ensures.returns;
}
