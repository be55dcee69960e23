use Rattle.std.proofs.Common.{◌-◌, ap, arith}
use Rattle.std.proofs.lemmas.Bool.{ltb-true}
use Rattle.fs_queue.specs.Chain.{Descriptor}
use Rattle.fs_regions.proofs.using.touches.Goals as goal

pub returns-then-iova-descriptor-2-clause-yes : goal.returns-then-iova-descriptor-2-clause-yes
returns-then-iova-descriptor-2-clause-yes c = λ yes.
    let some = ltb-true 0 c.args.len yes in
    let at = ap (λ (d : Descriptor). d.addr) c.descriptor.view_is in
    let len = ap (λ (d : Descriptor). d.len) c.descriptor.view_is in
    let low = c.if-iova-descriptor.false in
    let within = c.if-iova-descriptor-2.true in
    let long = c.from.ensures in (
      c.args.iova - c.args.descriptor.now.addr,
      omega (arith, at, len, low, within, long),
      omega (arith, at, low),
      omega (arith, at, low, some),
    )
