use Rattle.fs_turn_calls.proofs.Loop.{no_interrupt, no_turn, world_stays}
use Rattle.fs_turn_calls.proofs.law_runs_lose_no_turn.Goals as goal

pub returns-clause-stays : goal.returns-clause-stays
returns-clause-stays g c = world_stays g.F.FileSystemBase.may

pub returns-clause-none_lost : goal.returns-clause-none_lost
returns-clause-none_lost g c = no_turn g.F.FileSystemBase.may c.law_no_turn_is_lost.ensures.none_lost_over_resets

pub returns-clause-none_forgotten : goal.returns-clause-none_forgotten
returns-clause-none_forgotten g c = no_interrupt g.F.FileSystemBase.may c.law_no_turn_is_lost.ensures.none_forgotten_over_resets
