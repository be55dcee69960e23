use Rattle.std.proofs.Common.{◌-◌, ◌+◌, arith, sym}
use Rattle.vm_memory.specs.Layout.{Region}
use Rattle.vm_memory.proofs.ChangeLemmas.{any_back, collides_by}
use Rattle.vm_memory.proofs.collection.GuestRegionCollection.collides.Goals as goal

pub returns-then-ends_past : goal.returns-then-ends_past
returns-then-ends_past g c =
    let past = c.if-ends_past.ensures.past in
    let r : Region = record { start = c.args.start; size = c.args.last - c.args.start + 1; block = 0 } in
    sym (any_back c.args.self.now (c.args.at - 1) r (omega (arith, past.0)) (c.requires.below past.0) past.1 (omega arith))

pub returns : goal.returns
returns g c =
    collides_by c.args.self.now c.args.at c.args.start c.args.last c.begins_by.result c.begins_by.ensures.layout c.requires.order
    c.requires.most c.if-ends_past.ensures.before c.requires.above
    c.begins_by.ensures.by c.begins_by.ensures.above
