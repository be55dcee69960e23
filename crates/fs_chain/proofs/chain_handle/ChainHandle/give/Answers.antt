use Rattle.std.proofs.Common.{refl, ap}
use Rattle.fs_regions.specs.declared.step.CourseStep.TheVariants as step
use Rattle.fs_chain.specs.declared.popping.PopOutcome.TheVariants as reports
use Rattle.fs_chain.proofs.Steps.{by_left, comes_taken, leaves_none, walks_on}
use Rattle.fs_chain.proofs.chain_handle.ChainHandle.give.Goals as goal

pub returns-in-Load-clause-walks : goal.returns-in-Load-clause-walks
returns-in-Load-clause-walks c =
    let w = c.args.self.now in
    walks_on c.in-Popping.course c.in-Popping.pop_id c.in-Popping.walk _ _ _ _ _ _ c.requires.proceeds c.in-Popping.is (
      step.Load c.in-Load.next,
      (ap reports.Load c.len-len.ensures.len, refl, refl, tt, (refl, refl, refl, refl)),
      comes_taken c.in-Popping.course c.in-Popping.walk c.take-taken.result c.args.loaded.now (step.Load c.in-Load.next) w.regions
          w.descriptors.items c.give.new.descriptors.items
          c.take-taken.ensures c.in-Load.ensures,
    )

pub returns-in_default-give-clause-walks : goal.returns-in_default-give-clause-walks
returns-in_default-give-clause-walks c =
    let w = c.args.self.now in
    let comes = comes_taken c.in-Popping.course c.in-Popping.walk c.take-taken.result c.args.loaded.now c.give.result w.regions
    w.descriptors.items c.give.new.descriptors.items c.take-taken.ensures c.give.ensures in
    let settled = c.settle.ensures in
    walks_on c.in-Popping.course c.in-Popping.pop_id c.in-Popping.walk _ _ _ _ _ _ c.requires.proceeds c.in-Popping.is (
      c.give.result,
      (settled.returned, settled.state, settled.queue, rw settled.left (leaves_none _ _), settled.same),
      λ loaded stands. rw settled.left (by_left _ _ _ _ _ _ _ _ (comes loaded stands)),
    )
