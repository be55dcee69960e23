-- The regions that are a guest's memory.
use Rattle.std.specs.Prelude.{◌≡◌, List, ◌∷◌, length, Option, Some, None, Result, Ok, Err}
use Rattle.vm_memory.specs.Layout.{Region}
use Rattle.vm_memory.specs.Collecting.{RegionsWereRefused, fault_of}
use Rattle.vm_memory.specs.declared.error.GuestRegionCollectionError.TheVariants as collection
use Rattle.fs_regions.specs.declared.regions.RegionsError.{RegionsError}
use Rattle.fs_regions.specs.declared.regions.RegionsError.TheVariants.{NoRegion, Unsorted, Overlap}
use Rattle.fs_regions.specs.declared.regions.RegionsError.TheVariants.{OutOfMemory}

-- some regions are a memory if no fault is among them; else the error is their first fault. If no fault
-- is among them, the allocation may still fail
abbrev pub Makes : List Region → Result (List Region) RegionsError → Type 0
Makes regions (Ok memory) = (fault_of regions ≡ None) × (memory ≡ regions)
Makes regions (Err NoRegion) = fault_of regions ≡ Some collection.NoMemoryRegion
Makes regions (Err Unsorted) = fault_of regions ≡ Some collection.UnsortedMemoryRegions
Makes regions (Err Overlap) = fault_of regions ≡ Some collection.MemoryRegionOverlap
Makes regions (Err OutOfMemory) = (fault_of regions ≡ None) × RegionsWereRefused (length regions)

-- regions begin with this one
abbrev pub BeginsWith : Option Region → List Region → Type 0
BeginsWith None regions = Unit {0}
BeginsWith (Some first) regions = (rest : List Region) × (regions ≡ first ∷ rest)
