use Rattle.fs_chain_c.proofs.CalledLogs.{marks_used}
use Rattle.fs_chain_exports.proofs.logs_called.mark_used.Goals as goal

pub returns : goal.returns
returns c =
    marks_used c.law_log.ensures.used c.args.chain.now.held.value c.pk_push.new.chain.held.value c.args.queue.now c.pk_push.new.queue
    c.args.front.now c.pk_push.new.front c.pk_push.new.stores c.pk_push.result c.pk_push.ensures
