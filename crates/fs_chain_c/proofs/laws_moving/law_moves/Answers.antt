use Rattle.fs_chain_c.proofs.MovingLemmas.{moves, restores, saves}
use Rattle.fs_chain_c.proofs.laws_moving.law_moves.Goals as goal

pub returns : goal.returns
returns c = record { saves = saves; restores = restores; moves = moves }
