use Rattle.fs_chain.proofs.HoldsAhead.{pops_ahead}
use Rattle.fs_chain.proofs.chain_handle.ChainHandle.pop_ahead.Goals as goal

pub returns-else-not-may_take-clause-step : goal.returns-else-not-may_take-clause-step
returns-else-not-may_take-clause-step c =
    pops_ahead _ c.args.self.now c.begin_course_ahead.new.self c.args.queue.now c.begin_course_ahead.new.queue
    c.begin_course_ahead.result c.begin_course_ahead.ensures.pops
