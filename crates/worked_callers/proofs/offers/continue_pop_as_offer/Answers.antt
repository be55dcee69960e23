use Rattle.worked_callers.proofs.Offered.{offered_so, read_so}
use Rattle.worked_callers.proofs.Results.{if_ok}
use Rattle.worked_callers.proofs.offers.continue_pop_as_offer.Goals as goal

pub returns-clause-offered : goal.returns-clause-offered
returns-clause-offered c =
    let runs = c.requires.proceeds in
    if_ok c.pop.result _ _
    (λ came pops.
    offered_so c.law_walks.ensures c.args.handle.now c.pop.new.self c.args.queue.now c.pop.new.queue c.args.bytes.now came runs pops)
    c.pop.ensures.step

pub returns-clause-read_out : goal.returns-clause-read_out
returns-clause-read_out c =
    if_ok c.pop.result _ _
    (λ came pops. read_so c.law_read_out.ensures c.args.handle.now c.pop.new.self c.args.bytes.now came)
    c.pop.ensures.step
