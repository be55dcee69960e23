use Rattle.worked_callers.proofs.ModelActs.{wish_is}
use Rattle.worked_callers.proofs.takers.enable_store.Goals as goal

pub returns : goal.returns
returns c =
    let q = c.args.queue.now in
    let counted = c.have_u16_numbers.ensures in
    wish_is c.law_takers.ensures.rearms q c.notification_store.result c.notification_store.ensures.store counted
