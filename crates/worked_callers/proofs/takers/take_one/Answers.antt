use Rattle.worked_callers.proofs.ModelActs.{takes_so}
use Rattle.worked_callers.proofs.Popped.{pop_ends, popped_ends}
use Rattle.worked_callers.proofs.Results.{if_ok}
use Rattle.worked_callers.proofs.takers.take_one.Goals as goal

pub returns-clause-takes : goal.returns-clause-takes
returns-clause-takes c =
    let old = c.args.handle.now in
    let new = c.pop.new.self in
    let q = c.args.queue.now in
    let q' = c.pop.new.queue in
    let runs = c.requires.proceeds in
    if_ok c.pop.result _ _
    (λ came pops returned m i p s is popped from there places index small of walker.
    let end = popped_ends returned popped in
    let ends = pop_ends old new q q' c.args.bytes.now came returned m i p runs pops is end from there places index small in
    let counted = c.have_u16_numbers.ensures in
    let takes = takes_so c.law_takers.ensures.takes m i q q' ends.0 new returned counted popped there ends.2 s of walker in
    (ends.0, ends.1, takes.0, takes.1, takes.2))
    c.pop.ensures.step

pub returns-clause-reports : goal.returns-clause-reports
returns-clause-reports c =
    let old = c.args.handle.now in
    let new = c.pop.new.self in
    let q = c.args.queue.now in
    let q' = c.pop.new.queue in
    let runs = c.requires.proceeds in
    if_ok c.pop.result _ _
    (λ came pops returned m i p w fresh is popped from there places index small of.
    let end = popped_ends returned popped in
    let ends = pop_ends old new q q' c.args.bytes.now came returned m i p runs pops is end from there places index small in
    let counted = c.have_u16_numbers.ensures in
    let report = c.law_turn_calls.ensures.popped m i q q' ends.0 new returned w fresh counted popped there ends.2 of in
    (ends.0, ends.1, report.0, report.1, report.2))
    c.pop.ensures.step
