use Rattle.std.proofs.Common.{inl, length, refl}
use Rattle.std.specs.Prelude.{Err}
use Rattle.vm_iotlb.specs.declared.permissions.Permissions.TheVariants.{Read}
use Rattle.vm_memory.specs.Bytes.{MayReach}
use Rattle.vm_memory.specs.Memory.{memory_behind}
use Rattle.vm_memory.proofs.BytesLemmas.{reads_some_of, refused_read}
use Rattle.vm_memory.proofs.iommu_bytes.IommuMemoryGuestRegionCollectionBytesGuestAddress.read.Goals as goal

pub returns-in-Err : goal.returns-in-Err
returns-in-Err g c =
    refused_read (memory_behind c.args.h.now c.args.self.now.backend (g.I.Iommu.number c.args.self.now.iommu) c.args.self.now.io_bitmap
    c.args.self.now.use_iommu) Read c.args.addr c.args.buf.now
    c.in-Err.error c.in-Err.ensures.refused (Err c.in-Err.error) refl

pub returns-in-Ok : goal.returns-in-Ok
returns-in-Ok g c =
    let m = memory_behind c.args.h.now c.args.self.now.backend (g.I.Iommu.number c.args.self.now.iommu) c.args.self.now.io_bitmap
    c.args.self.now.use_iommu in
    reads_some_of m (MayReach m Read c.args.addr (length c.args.buf.now)) c.args.addr c.args.buf.now c.read_mapped-completed.new.buffer
    c.read_mapped-completed.result c.some_of.result
    (inl (c.in-Ok.ensures.mapped, refl)) c.read_mapped-completed.ensures.count c.read_mapped-completed.ensures.bytes c.some_of.ensures
