use Rattle.std.proofs.Common.{All, List, subst, sym}
use Rattle.std.proofs.lemmas.List.{take_all}
use Rattle.std.proofs.lemmas.List.Elements.{All-more}
use Rattle.fs_queue.specs.Chain.{Descriptor}
use Rattle.fs_regions.specs.Using.{IsUntouched}
use Rattle.fs_regions.proofs.using.uses.Goals as goal

pub loop-descriptor-preserved : goal.loop-descriptor-preserved
loop-descriptor-preserved c =
    All-more (IsUntouched c.args.iova c.args.len) c.args.descriptors.now c.loop-descriptor.descriptor-index c.descriptor-item.result
    c.loop-descriptor-test.true c.loop-descriptor.invariant
    (subst (IsUntouched c.args.iova c.args.len) c.descriptor-item.is (c.touches.ensures.no c.if-touches.false))

pub returns-then-touches-clause-used : goal.returns-then-touches-clause-used
returns-then-touches-clause-used c = λ yes all.
    subst (IsUntouched c.args.iova c.args.len) (sym c.descriptor-item.is)
    (all c.loop-descriptor.descriptor-index c.descriptor-item.result c.loop-descriptor-test.true)
    (c.touches.ensures.yes c.if-touches.true)

pub returns-clause-unused : goal.returns-clause-unused
returns-clause-unused c = λ no.
    subst (λ (ds : List Descriptor). All (IsUntouched c.args.iova c.args.len) ds)
    (take_all c.loop-descriptor.descriptor-index c.args.descriptors.now c.loop-descriptor-test.false)
    c.loop-descriptor.invariant
