use Rattle.std.proofs.Common.{rules}
use Rattle.vm_memory.proofs.LayoutLemmas.{copied_more}
use Rattle.vm_memory.proofs.collection.GuestRegionCollection.copied.Goals as goal

pub loop-region-preserved : goal.loop-region-preserved
loop-region-preserved g c =
    copied_more g.R.GuestMemoryRegion.region c.deref-region-items.result.now c.loop-region.all.items c.push.new.self.items
    c.loop-region.region-index c.region-item.result c.in_ok-held_again.field-0
    c.loop-region-test.true c.region-item.is c.in_ok-held_again.ensures.again (search rules) c.loop-region.invariant
