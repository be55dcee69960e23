-- Memory behind an IOMMU. A host has its blocks, its table and its set of I/O pages.
use Rattle.std.specs.Prelude.{ℕ, List}
use Rattle.vm_memory_core.specs.Host.{Host}
use Rattle.vm_memory.specs.Layout.{Region}
use Rattle.vm_memory.specs.Memory.{Memory, memory_behind}
use Rattle.vm_memory.specs.Translated.{HoldsBehind}
use Rattle.vm_memory.specs.declared.iommu_memory.IommuMemory.{IommuMemory}

-- the memory that a device sees behind an IOMMU, over a host: `number` is that of the IOMMU's table
abbrev pub seen_through : {I R : Type 0} → (number : I → ℕ) → IommuMemory (List Region) I R → Host → Memory
seen_through number m h = memory_behind h m.backend (number m.iommu) m.io_bitmap m.use_iommu

-- a host has the blocks, the table and the set of I/O pages of a memory behind an IOMMU
abbrev pub HoldsThrough : {I R : Type 0} → (number : I → ℕ) → IommuMemory (List Region) I R → Host → Type 0
HoldsThrough number m h = HoldsBehind h m.backend (number m.iommu) m.io_bitmap
