use Rattle.std.proofs.Common.{refl}
use Rattle.fs_chain_c.proofs.CalledMoves.{saves_queues}
use Rattle.fs_chain_exports.proofs.moves_called.save_queues.Goals as goal

pub returns : goal.returns
returns c =
    let are = c.if-not-are_queues.ensures.are refl in
    let fit = c.if-not-are_queues.ensures.fit refl in
    saves_queues c.law_moves.ensures.saves c.args.device.now c.args.queues.now c.args.buffer.now c.pk_save.new.buffer c.pk_save.new.len
    c.pk_save.result are fit c.pk_save.ensures
