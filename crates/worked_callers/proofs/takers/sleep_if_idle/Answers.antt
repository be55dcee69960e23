use Rattle.fs_chain.specs.declared.popping.PopOutcome.TheVariants as shows
use Rattle.worked_callers.proofs.ModelActs.{sleeps_so}
use Rattle.worked_callers.proofs.Popped.{pop_ends}
use Rattle.worked_callers.proofs.Results.{if_ok}
use Rattle.worked_callers.proofs.takers.sleep_if_idle.Goals as goal

pub returns-clause-sleeps : goal.returns-clause-sleeps
returns-clause-sleeps c =
    let old = c.args.handle.now in
    let new = c.pop.new.self in
    let q = c.args.queue.now in
    let q' = c.pop.new.queue in
    let runs = c.requires.proceeds in
    if_ok c.pop.result _ _
    (λ came pops m i p s is from there places index small of walker fits.
    let ends = pop_ends old new q q' c.args.bytes.now came shows.Idle m i p runs pops is tt from there places index small in
    let law = c.law_takers.ensures in
    let sleeps = sleeps_so law.rearms law.none m i q q' ends.0 new c.have_u16_numbers.ensures there ends.2 s of walker fits in
    (ends.0, ends.1, sleeps.0, sleeps.1, sleeps.2))
    c.pop.ensures.step

pub returns-clause-order : goal.returns-clause-order
returns-clause-order c =
    λ s of walker at. let law = c.law_takers.ensures.order c.args.queue.now s of walker at in (law.0, law.2)
