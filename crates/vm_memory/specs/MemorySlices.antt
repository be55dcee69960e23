-- The windows of any guest memory.
use Rattle.vm_memory.specs.Slices.{Slices, slices_in}
use Rattle.vm_memory.specs.Translated.{slices_translated}
use Rattle.vm_memory.specs.declared.memory.GuestMemorySlices.{GuestMemorySlices}
use Rattle.vm_memory.specs.declared.memory.GuestMemorySlices.TheVariants.{Backend, Iommu}

-- the windows that an iterator still returns, by the addresses that are left
abbrev pub slices_of : {M R : Type 0} → GuestMemorySlices M R → Slices
slices_of (Backend s) = slices_in s
slices_of (Iommu s) = slices_translated s
