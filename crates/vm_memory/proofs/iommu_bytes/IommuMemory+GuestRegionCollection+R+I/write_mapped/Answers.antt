use Rattle.std.proofs.Common.{◌∙◌, ap, length, sym, take}
use Rattle.std.specs.List.{zip}
use Rattle.vm_iotlb.specs.declared.permissions.Permissions.TheVariants.{Write}
use Rattle.vm_memory_core.specs.Window.{put_all}
use Rattle.vm_memory.specs.Bytes.{places_at}
use Rattle.vm_memory.specs.Layout.{place}
use Rattle.vm_memory.specs.Memory.{circular, memory_of, stored_all}
use Rattle.vm_memory.proofs.BytesLemmas.{stored-placed}
use Rattle.vm_memory.proofs.Places.{Where}
use Rattle.vm_memory.proofs.RangeLemmas.{location_off}
use Rattle.vm_memory.proofs.iommu_bytes.IommuMemory+GuestRegionCollection+R+I.write_mapped.Goals as goal

pub returns-else-get_iommu_enabled-clause-stored : goal.returns-else-get_iommu_enabled-clause-stored
returns-else-get_iommu_enabled-clause-stored g c =
    let xs = circular c.args.addr.0 (length c.args.bytes.now) in
    let off = location_off c.args.h.now c.args.self.now.backend (g.I.Iommu.number c.args.self.now.iommu) c.args.self.now.io_bitmap
    c.args.self.now.use_iommu Write
    (sym c.get_iommu_enabled.ensures ∙ c.if-get_iommu_enabled.false) in
    stored-placed c.get_backend-backend.result.now c.args.h.now c.write_some.new.host xs c.args.bytes.now
    (c.write_some.ensures.stored ∙ ap (λ k. stored_all (memory_of c.args.h.now c.get_backend-backend.result.now)
    (zip (take k xs) c.args.bytes.now)) c.write_some.ensures.count)
    ∙ ap (λ (f : Where). put_all c.args.h.now (zip (places_at f xs) c.args.bytes.now)) (ap place c.get_backend-backend.ensures ∙ sym off)
