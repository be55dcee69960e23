use Rattle.fs_chain_c.proofs.LoggingLemmas.{pushes, ranges}
use Rattle.fs_chain_c.proofs.laws_moving.law_log.Goals as goal

pub returns : goal.returns
returns c = record { room = ranges; used = pushes }
