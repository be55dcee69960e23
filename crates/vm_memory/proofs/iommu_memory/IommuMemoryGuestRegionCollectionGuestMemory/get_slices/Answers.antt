use Rattle.std.proofs.Common.{ℕ, subst}
use Rattle.vm_memory.specs.Memory.{circular}
use Rattle.vm_memory.specs.MemorySlices.{slices_of}
use Rattle.vm_memory.specs.Slices.{AreAllOf, PhysicalSlices, slices_in}
use Rattle.vm_memory.specs.Translated.{TranslatedSlices, ranges_in, slices_translated}
use Rattle.vm_memory.specs.declared.memory.GuestMemorySlices.TheVariants.{Backend, Iommu}
use Rattle.vm_memory.proofs.JoinedLemmas.{all_of_drained}
use Rattle.vm_memory.proofs.iommu_memory.IommuMemoryGuestRegionCollectionGuestMemory.get_slices.Goals as goal

pub returns-then-not-self-clause-joined : goal.returns-then-not-self-clause-joined
returns-then-not-self-clause-joined g c items drained =
    rw c.if-not-self.true (subst (λ (s : PhysicalSlices). AreAllOf (slices_in s) items) c.new-slices.ensures
    (all_of_drained (λ s. slices_of s) (Backend c.new-slices.result) items drained))

pub returns-in-Ok-clause-joined : goal.returns-in-Ok-clause-joined
returns-in-Ok-clause-joined g c items drained =
    let all = subst (λ (s : TranslatedSlices). AreAllOf (slices_translated s) items) c.new.ensures
    (all_of_drained (λ s. slices_of s) (Iommu c.new.result) items drained) in
    rw c.if-not-self.false (subst (λ (t : ℕ). AreAllOf (slices_translated (record {
      layout = c.args.self.now.backend;
      ranges = ranges_in (g.H.HostBlocks.host c.args.h.now) t;
      set = c.args.self.now.io_bitmap;
      access = c.args.access;
      left = circular c.args.addr.0 c.args.count;
    })) items) c.table-table.ensures all)
