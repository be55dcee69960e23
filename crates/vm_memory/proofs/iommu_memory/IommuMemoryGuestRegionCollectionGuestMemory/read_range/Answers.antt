use Rattle.std.proofs.Common.{◌∙◌, ap, eqb, length, map, refl}
use Rattle.std.specs.Prelude.{is_some}
use Rattle.vm_iotlb.specs.declared.permissions.Permissions.TheVariants.{Read}
use Rattle.vm_memory.specs.Memory.{Memory, byte, circular, io_memory, location}
use Rattle.vm_memory.proofs.RangeLemmas.{count_located, memory_on, range_on, read_whole}
use Rattle.vm_memory.proofs.iommu_memory.IommuMemoryGuestRegionCollectionGuestMemory.read_range.Goals as goal

pub returns-then-not-self-clause-found : goal.returns-then-not-self-clause-found
returns-then-not-self-clause-found g c = rw c.if-not-self.true c.read_range.ensures.found

pub returns-in-Ok-clause-found : goal.returns-in-Ok-clause-found
returns-in-Ok-clause-found g c =
    ap (λ k. eqb k (length c.args.buffer.now)) c.read_io.ensures.count
    ∙ count_located (location (io_memory (g.H.HostBlocks.host c.args.h.now) c.args.self.now.backend c.table-table.result
    c.args.self.now.io_bitmap) Read) c.args.addr.0 (length c.args.buffer.now)
    ∙ ap is_some (range_on (g.H.HostBlocks.host c.args.h.now) c.args.self.now.backend (g.I.Iommu.number c.args.self.now.iommu)
    c.table-table.result
    c.args.self.now.io_bitmap c.args.self.now.use_iommu Read c.args.addr.0
    (length c.args.buffer.now) c.table-table.ensures c.if-not-self.false c.in-Ok.ensures.0 c.in-Ok.ensures.1)

pub returns-in-Ok-clause-bytes : goal.returns-in-Ok-clause-bytes
returns-in-Ok-clause-bytes g c all =
    read_whole (io_memory (g.H.HostBlocks.host c.args.h.now) c.args.self.now.backend c.table-table.result c.args.self.now.io_bitmap)
    c.args.addr.0
    (length c.args.buffer.now) c.read_io.result c.args.buffer.now
    c.read_io.new.buffer refl all c.read_io.ensures.bytes
    ∙ ap (λ (m : Memory). map (byte m) (circular c.args.addr.0 (length c.args.buffer.now)))
    (memory_on (g.H.HostBlocks.host c.args.h.now) c.args.self.now.backend (g.I.Iommu.number c.args.self.now.iommu) c.table-table.result
    c.args.self.now.io_bitmap
    c.args.self.now.use_iommu c.table-table.ensures
    c.if-not-self.false)
