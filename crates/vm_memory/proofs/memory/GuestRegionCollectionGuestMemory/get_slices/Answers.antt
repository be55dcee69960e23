use Rattle.std.proofs.Common.{subst}
use Rattle.vm_memory.specs.MemorySlices.{slices_of}
use Rattle.vm_memory.specs.Slices.{AreAllOf, PhysicalSlices, slices_in}
use Rattle.vm_memory.specs.declared.memory.GuestMemorySlices.TheVariants.{Backend}
use Rattle.vm_memory.proofs.JoinedLemmas.{all_of_drained}
use Rattle.vm_memory.proofs.memory.GuestRegionCollectionGuestMemory.get_slices.Goals as goal

pub returns-clause-joined : goal.returns-clause-joined
returns-clause-joined g c items drained =
    subst (λ (s : PhysicalSlices). AreAllOf (slices_in s) items) c.new-slices.ensures
    (all_of_drained (λ s. slices_of s) (Backend c.new-slices.result) items drained)
