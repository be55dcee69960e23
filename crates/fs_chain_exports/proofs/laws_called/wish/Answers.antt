use Rattle.std.proofs.Common.{◌<◌, ◌^◌}
use Rattle.fs_chain_c.proofs.CalledLemmas.{wishes_so}
use Rattle.fs_chain_exports.proofs.laws_called.wish.Goals as goal

pub returns : goal.returns
returns c =
    let q = c.args.queue.now in
    let avail : q.next_avail < 2 ^ 16 = Prim.search in
    let used : q.next_used < 2 ^ 16 = Prim.search in
    let most : q.max_in_flight < 2 ^ 16 = Prim.search in
    wishes_so c.law_notifications.ensures.wish c.args.chain.now.held.value c.pk_set_notification.new.chain.held.value q
    c.pk_set_notification.new.store c.pk_set_notification.result c.pk_set_notification.ensures avail used most
