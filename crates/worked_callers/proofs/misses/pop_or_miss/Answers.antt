use Rattle.worked_callers.proofs.Popped.{missed_so}
use Rattle.worked_callers.proofs.Results.{if_ok}
use Rattle.worked_callers.proofs.misses.pop_or_miss.Goals as goal

pub returns : goal.returns
returns c =
    let law = c.law_misses_can_be_mapped.ensures in
    let old = c.args.handle.now in
    record {
      missed = if_ok c.pop.result _ _
          (λ came pops. missed_so law old c.pop.new.self c.args.queue.now c.pop.new.queue came c.requires.free pops)
          c.pop.ensures.step;
    }
