use Rattle.std.proofs.Common.{◌∙◌, ap, eqb}
use Rattle.std.specs.Prelude.{is_some}
use Rattle.vm_memory.specs.Memory.{io_memory, location}
use Rattle.vm_memory.proofs.RangeLemmas.{count_located, range_on}
use Rattle.vm_memory.proofs.iommu_memory.IommuMemoryGuestRegionCollectionGuestMemory.check_range.Goals as goal

pub returns-then-not-self : goal.returns-then-not-self
returns-then-not-self g c = rw c.if-not-self.true c.check_range.ensures

pub returns-in-Ok : goal.returns-in-Ok
returns-in-Ok g c =
    ap (λ k. eqb k c.args.count) c.io_reached-reached.ensures
    ∙ count_located (location (io_memory (g.H.HostBlocks.host c.args.h.now) c.args.self.now.backend c.table-table.result
    c.args.self.now.io_bitmap) c.args.access) c.args.addr.0 c.args.count
    ∙ ap is_some (range_on (g.H.HostBlocks.host c.args.h.now) c.args.self.now.backend (g.I.Iommu.number c.args.self.now.iommu)
    c.table-table.result
    c.args.self.now.io_bitmap c.args.self.now.use_iommu c.args.access
    c.args.addr.0 c.args.count c.table-table.ensures c.if-not-self.false c.in-Ok.ensures.0 c.in-Ok.ensures.1)
