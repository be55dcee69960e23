use Rattle.std.proofs.Common.{map, sym, ap, ◌∙◌}
use Rattle.vm_memory.specs.Collecting.{fault_of}
use Rattle.vm_memory.proofs.LayoutLemmas.{refused_for}
use Rattle.vm_memory.proofs.collection.GuestRegionCollection.from_regions.Goals as goal

pub returns-in-Some : goal.returns-in-Some
returns-in-Some g c =
    refused_for (map g.R.GuestMemoryRegion.region c.args.regions.items) c.in-Some.fault
    (sym (c.in-Some.ensures.fault ∙ ap (λ items. fault_of (map g.R.GuestMemoryRegion.region items)) c.deref.ensures.value))
