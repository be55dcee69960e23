use Rattle.std.proofs.Common.{◌≡◌, rules, refl, subst}
use Rattle.fs_chain.specs.declared.chain_handle.ChainHandle.{ChainHandle}
use Rattle.fs_chain_c.specs.Notifications.{SetsNotification}
use Rattle.fs_chain_c.proofs.HandleLemmas.{on_handle}
use Rattle.fs_chain_exports.proofs.queues.pk_set_notification.Goals as goal

pub returns : goal.returns
returns c =
    let asked = c.set_notification-status.result in
    let same : c.deref.result.now ≡ c.in-Some.handle.value = search rules in
    let asks = subst (λ (b : ChainHandle). SetsNotification b c.args.queue.now c.args.enabled asked.0 asked.1) same
    c.set_notification-status.ensures in
    on_handle _ _ c.args.chain.now.held.value c.of_box.result.held.value
    c.in-Some.handle.value c.in-Some.handle.value (search rules) (search rules)
    (asks, refl)
