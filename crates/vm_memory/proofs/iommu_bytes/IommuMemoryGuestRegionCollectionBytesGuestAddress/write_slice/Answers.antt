use Rattle.std.proofs.Common.{inl, length, refl}
use Rattle.std.specs.Prelude.{Err}
use Rattle.vm_iotlb.specs.declared.permissions.Permissions.TheVariants.{Write}
use Rattle.vm_memory.specs.Bytes.{MayReach}
use Rattle.vm_memory.specs.Memory.{memory_behind}
use Rattle.vm_memory.proofs.BytesLemmas.{refused_write_slice, writes_all_of}
use Rattle.vm_memory.proofs.iommu_bytes.IommuMemoryGuestRegionCollectionBytesGuestAddress.write_slice.Goals as goal

pub returns-in-Err-clause-written : goal.returns-in-Err-clause-written
returns-in-Err-clause-written g c =
    refused_write_slice (memory_behind c.args.h.now c.args.self.now.backend (g.I.Iommu.number c.args.self.now.iommu)
    c.args.self.now.io_bitmap
    c.args.self.now.use_iommu) Write c.args.addr c.args.buf.now
    c.in-Err.error c.in-Err.ensures.refused (Err c.in-Err.error) refl

pub returns-in-Ok-clause-written : goal.returns-in-Ok-clause-written
returns-in-Ok-clause-written g c =
    let m = memory_behind c.args.h.now c.args.self.now.backend (g.I.Iommu.number c.args.self.now.iommu) c.args.self.now.io_bitmap
    c.args.self.now.use_iommu in
    writes_all_of m (MayReach m Write c.args.addr (length c.args.buf.now)) c.write_mapped-completed.new.h c.args.addr c.args.buf.now
    c.write_mapped-completed.result c.outcome.result
    (inl (c.in-Ok.ensures.mapped, refl)) c.write_mapped-completed.ensures.count c.write_mapped-completed.ensures.stored c.outcome.ensures
