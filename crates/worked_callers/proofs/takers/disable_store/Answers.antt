use Rattle.std.proofs.Common.{Option, subst, sym}
use Rattle.fs_queue.specs.Returning.{Store}
use Rattle.fs_notify.specs.Takers.{MutesBy}
use Rattle.fs_turn_calls.specs.Calls.{HasMuted}
use Rattle.worked_callers.proofs.takers.disable_store.Goals as goal

pub returns-clause-mutes : goal.returns-clause-mutes
returns-clause-mutes c s of walker =
    let q = c.args.queue.now in
    let law = c.law_takers.ensures.mutes q s of walker in
    (subst (λ (store : Option Store). MutesBy q s store) (sym c.notification_store.ensures.store) law.0, law.1)

pub returns-clause-reports : goal.returns-clause-reports
returns-clause-reports c w of =
    let q = c.args.queue.now in
    let law = c.law_turn_calls.ensures.muted q w of in
    (subst (λ (store : Option Store). HasMuted q w store) (sym c.notification_store.ensures.store) law.0, law.1, law.2)
