use Rattle.std.proofs.Common.{◌≡◌, refl}
use Rattle.fs_chain_c.proofs.CalledMoves.{moves_queues}
use Rattle.fs_chain_exports.proofs.moves_called.move_queues.Goals as goal

pub returns : goal.returns
returns c done =
    let are = c.if-not-are_queues.ensures.are refl in
    let fit = c.if-not-are_queues.ensures.fit refl in
    let saved : c.pk_save-status.result ≡ 0 = Prim.search in
    moves_queues c.law_moves.ensures.moves c.args.device.now c.args.there.now c.restore_valid.new.device c.args.queues.now
    c.args.restored.now c.restore_valid.new.queues c.args.buffer.now c.pk_save-status.new.buffer c.pk_save-status.new.len
    c.restore_valid.new.count c.pk_save-status.result are fit c.pk_save-status.ensures saved (c.restore_valid.ensures.restores done)
    (c.restore_valid.ensures.are done)
