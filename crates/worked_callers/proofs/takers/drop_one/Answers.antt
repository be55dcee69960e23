use Rattle.worked_callers.proofs.ModelActs.{drop_reported, drops_so}
use Rattle.worked_callers.proofs.Results.{on_ok_two}
use Rattle.worked_callers.proofs.takers.drop_one.Goals as goal

pub returns-clause-drops : goal.returns-clause-drops
returns-clause-drops c =
    on_ok_two c.give_up.result _ _ _
    (λ clear left.
    drops_so c.law_takers.ensures.drops c.args.handle.now.state c.args.queue.now c.give_up.new.queue c.have_u16_numbers.ensures clear left)
    c.give_up.ensures.ok c.give_up.ensures.queue

pub returns-clause-reports : goal.returns-clause-reports
returns-clause-reports c =
    on_ok_two c.give_up.result _ _ _
    (λ clear left.
    drop_reported c.law_turn_calls.ensures.dropped c.args.handle.now.state c.args.queue.now c.give_up.new.queue c.have_u16_numbers.ensures
    clear left)
    c.give_up.ensures.ok c.give_up.ensures.queue
