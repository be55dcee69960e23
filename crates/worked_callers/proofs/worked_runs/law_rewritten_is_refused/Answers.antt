use Rattle.std.proofs.Common.{[]}
use Rattle.fs_queue.specs.declared.fault.QueueError.TheVariants.{HeadOutOfTable}
use Rattle.fs_regions.specs.declared.step.CourseStep.TheVariants as step
use Rattle.live_machine.specs.Rewritten.{second_loads}
use Rattle.worked_callers.proofs.worked_runs.law_rewritten_is_refused.Goals as goal

pub returns : goal.returns
returns g c before after so =
    let run = c.law_examples.ensures.rewritten before after so in
    let s = run.0 in
    let mid = run.2.0 in
    let refused = run.2.1 in (
      s,
      mid,
      refused.w,
      refused.there,
      refused,
      λ m first. c.law_steps.ensures.pop s mid 0 second_loads [] (step.Refused HeadOutOfTable) refused.w m refused.there refused first,
    )
