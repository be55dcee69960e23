use Rattle.fs_chain_c.proofs.CalledMoves.{restores_queues}
use Rattle.fs_chain_exports.proofs.moves_called.restore_queues.Goals as goal

pub returns : goal.returns
returns c done =
    restores_queues c.law_moves.ensures.restores c.args.device.now c.restore_valid.new.device c.args.queues.now
    c.restore_valid.new.queues c.args.saved.now c.restore_valid.new.count (c.restore_valid.ensures.restores done)
    (c.restore_valid.ensures.are done)
