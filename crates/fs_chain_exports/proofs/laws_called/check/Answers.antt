use Rattle.std.proofs.Common.{◌<◌, ◌^◌}
use Rattle.fs_chain_c.proofs.CalledLemmas.{checks_so}
use Rattle.fs_chain_exports.proofs.laws_called.check.Goals as goal

pub returns : goal.returns
returns c =
    let q = c.args.queue.now in
    let small : c.args.seen < 2 ^ 16 = Prim.search in
    let used : q.next_used < 2 ^ 16 = Prim.search in
    checks_so c.law_notifications.ensures.check c.args.chain.now.held.value c.pk_pushed.new.chain.held.value q
    c.pk_pushed.new.queue c.args.seen c.pk_pushed.new.notify c.pk_pushed.result c.pk_pushed.ensures small used
