use Rattle.std.proofs.Common.{List, None, subst, sym}
use Rattle.fs_queue.specs.Chain.{Descriptor}
use Rattle.fs_regions.specs.declared.step.CourseStep.TheVariants as comes
use Rattle.fs_chain.specs.Walks.{LeavesNone}
use Rattle.fs_chain.proofs.PoppingAhead.{pops_apart}
use Rattle.fs_chain.proofs.Steps.{leaves_none}
use Rattle.fs_chain.proofs.chain_handle.ChainHandle.begin_there_ahead.Goals as goal

pub returns-in-Some : goal.returns-in-Some
returns-in-Some c =
    let s = c.settle-walked.ensures in
    let step = comes.Chain c.in-Some.head None in
    let ds = c.straight.new.descriptors in
    let leaves = subst (λ (xs : List Descriptor). LeavesNone step xs) (sym s.left) (leaves_none step ds.items) in
    record {
      pops = pops_apart c.args.self.now c.settle-walked.new.self c.clear_part.new.self c.args.queue.now c.settle-walked.new.queue _ ds step
          c.pop_id-pop_id.result c.settle-walked.result c.requires.free c.requires.proceeds c.requires.events c.requires.room
          (rw c.in-Some.is at c.straight.ensures) c.pop_id-pop_id.ensures (s.returned, s.state, s.queue, leaves, s.same) s.left s.stays
          s.apart.1 c.clear_part.ensures.cleared c.clear_part.ensures.apart;
    }

pub returns-in-None : goal.returns-in-None
returns-in-None c =
    let s = c.settle_stepwise-walked.ensures in
    let step = c.begin_stepwise-step.result in
    let ds = c.begin_stepwise-step.new.descriptors in
    let leaves = subst (λ (xs : List Descriptor). LeavesNone step xs) (sym s.left) (leaves_none step ds.items) in
    record {
      pops = pops_apart c.args.self.now c.settle_stepwise-walked.new.self c.clear_part-in-None.new.self c.args.queue.now
          c.settle_stepwise-walked.new.queue _ ds step c.pop_id-pop_id.result c.settle_stepwise-walked.result c.requires.free
          c.requires.proceeds c.requires.events c.requires.room c.begin_stepwise-step.ensures c.pop_id-pop_id.ensures
          (s.returned, s.state, s.queue, leaves, s.same) s.left s.stays s.apart.1 c.clear_part-in-None.ensures.cleared
          c.clear_part-in-None.ensures.apart;
    }
