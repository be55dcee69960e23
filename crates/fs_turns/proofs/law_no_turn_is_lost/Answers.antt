use Rattle.fs_turns.proofs.Pushes.{no_used_is_unnotified}
use Rattle.fs_turns.proofs.Resets.{no_turn_is_lost_over_resets, no_interrupt_is_lost_over_resets}
use Rattle.fs_turns.proofs.Runs.{no_turn_is_lost, no_interrupt_is_lost}
use Rattle.fs_turns.proofs.law_no_turn_is_lost.Goals as goal

pub returns : goal.returns
returns c = record {
  none_lost = no_turn_is_lost c.law_no_lost_notification.ensures.none_lost_among_threads;
  none_forgotten = no_interrupt_is_lost;
  none_lost_over_resets = no_turn_is_lost_over_resets c.law_no_lost_notification.ensures.none_lost_among_threads;
  none_unnotified = no_used_is_unnotified c.law_no_lost_notification.ensures.none_lost;
  none_forgotten_over_resets = no_interrupt_is_lost_over_resets;
}
