use Rattle.std.proofs.Common.{Option, refl, subst, inl, inr}
use Rattle.fs_queue.specs.Returning.{Store}
use Rattle.fs_chain_c.specs.Notifications.{FillsStore}
use Rattle.fs_chain_c.proofs.notifications.set_notification.Goals as goal

pub returns-in_default-notification_store : goal.returns-in_default-notification_store
returns-in_default-notification_store c =
    let filled = c.nothing-in_default-notification_store.result in
    inr (
      c.in-Some.ensures.is,
      c.in-Some.checked,
      c.in-Some.ensures.checked,
      subst (λ (o : Option Store). FillsStore c.args.handle.now.regions o filled 0) c.in_default-notification_store.ensures.store
          (refl, c.nothing-in_default-notification_store.ensures),
    )

pub returns-in-Some-here : goal.returns-in-Some-here
returns-in-Some-here c =
    inr (
      c.in-Some.ensures.is,
      c.in-Some.checked,
      c.in-Some.ensures.checked,
      subst (λ (o : Option Store). FillsStore c.args.handle.now.regions o
          (record { at = c.in-Some-here.at; value = c.in-Some-notification_store.store.value; len = 2 }) 0)
          c.in-Some-notification_store.ensures.store (inl (refl, c.in-Some-here.ensures.some, refl, refl)),
    )

pub returns-in-None : goal.returns-in-None
returns-in-None c =
    let filled = c.nothing-in-None.result in
    inr (
      c.in-Some.ensures.is,
      c.in-Some.checked,
      c.in-Some.ensures.checked,
      subst (λ (o : Option Store). FillsStore c.args.handle.now.regions o filled 77) c.in-Some-notification_store.ensures.store
          (inr (refl, c.in-None.ensures.none refl, c.nothing-in-None.ensures)),
    )
