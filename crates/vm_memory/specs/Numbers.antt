-- The numbers of errors.
use Rattle.std.specs.Prelude.{ℕ}
use Rattle.vm_memory.specs.declared.error.MmapRegionError.{MmapRegionError}
use Rattle.vm_memory.specs.declared.error.MmapRegionError.TheVariants as mmap
use Rattle.vm_memory.specs.declared.error.GuestRegionCollectionError.{GuestRegionCollectionError}
use Rattle.vm_memory.specs.declared.error.GuestRegionCollectionError.TheVariants as collection
use Rattle.vm_memory.specs.declared.error.FromRangesError.{FromRangesError}
use Rattle.vm_memory.specs.declared.error.FromRangesError.TheVariants as ranges
use Rattle.vm_memory.specs.declared.error.GuestMemoryError.{GuestMemoryError}
use Rattle.vm_memory.specs.declared.error.GuestMemoryError.TheVariants as memory

-- the number of the error for which no block was made
abbrev pub mmap_number : MmapRegionError → ℕ
mmap_number mmap.Mmap = 1
mmap_number mmap.OutOfMemory = 2

-- the number of the error for which regions are no layout
abbrev pub collection_number : GuestRegionCollectionError → ℕ
collection_number collection.NoMemoryRegion = 1
collection_number collection.MemoryRegionOverlap = 2
collection_number collection.UnsortedMemoryRegions = 3
collection_number collection.OutOfMemory = 4

-- the number of the error for which ranges have no memory
abbrev pub ranges_number : FromRangesError → ℕ
ranges_number (ranges.Collection fault) = 1
ranges_number (ranges.MmapRegion error) = 2
ranges_number ranges.InvalidGuestRegion = 3
ranges_number ranges.OutOfMemory = 4

-- the number of the error for which guest memory isn't read or written
abbrev pub memory_number : GuestMemoryError → ℕ
memory_number (memory.InvalidGuestAddress addr) = 1
memory_number (memory.PartialBuffer expected completed) = 2
memory_number memory.InvalidBackendAddress = 3
memory_number memory.GuestAddressOverflow = 4
memory_number (memory.IommuError error) = 5
memory_number memory.HostAddressNotAvailable = 6
memory_number memory.OutOfMemory = 7
