-- The lists of regions that are a layout, and changes of a layout.
use Rattle.std.specs.Prelude.{◌≡◌, ◌⊎◌, ℕ, length, false, true, nat_lt, List, [], ◌∷◌, find, Option, Some}
use Rattle.std.specs.Prelude.{None, IsSome, if◌then◌else◌, Result, Ok, Err}
use Rattle.std.specs.List.{list_any}
use Rattle.std.specs.Option.{option_or}
use Rattle.std.specs.Arc.{arc_value}
use Rattle.std.specs.declared.sync.Arc.{Arc}
use Rattle.memory_requests.specs.Refused.{MemoryWasRefused, RoomWasRefused}
use Rattle.vm_memory.specs.Layout.{Region, overlap, with_region, is_region, without_region}
use Rattle.vm_memory.specs.declared.error.GuestRegionCollectionError.{GuestRegionCollectionError}
use Rattle.vm_memory.specs.declared.error.GuestRegionCollectionError.TheVariants.{NoMemoryRegion}
use Rattle.vm_memory.specs.declared.error.GuestRegionCollectionError.TheVariants.{MemoryRegionOverlap}
use Rattle.vm_memory.specs.declared.error.GuestRegionCollectionError.TheVariants.{UnsortedMemoryRegions}
use Rattle.vm_memory.specs.declared.error.GuestRegionCollectionError.TheVariants.{OutOfMemory}

-- the error of two consecutive regions of a list, if they have one
abbrev pub fault_between : Region → Region → Option GuestRegionCollectionError
fault_between r s =
    if nat_lt s.start r.start then Some UnsortedMemoryRegions
    else if overlap r s then Some MemoryRegionOverlap
    else None

-- the first error of two consecutive regions, from this region on
unfoldable pub fault_after : Region → List Region → Option GuestRegionCollectionError
fault_after r [] = None
fault_after r (s ∷ rest) = option_or (fault_between r s) (fault_after s rest)

-- the error of a list of regions, if it has one
abbrev pub fault_of : List Region → Option GuestRegionCollectionError
fault_of [] = Some NoMemoryRegion
fault_of (r ∷ rest) = fault_after r rest

-- a list of regions, or its error
abbrev pub unless :
    Option GuestRegionCollectionError → List Region → Result (List Region) GuestRegionCollectionError
unless None regions = Ok regions
unless (Some fault) regions = Err fault

-- the allocator refused memory for a list of n regions, or for one region
abbrev pub RegionsWereRefused : ℕ → Type 0
RegionsWereRefused n = RoomWasRefused n ⊎ RoomWasRefused 1

-- the result of making a layout: the regions, or their error; if they have none, an allocation may fail
abbrev pub Collects : List Region → Result (List Region) GuestRegionCollectionError → Type 0
Collects regions (Ok layout) = (fault_of regions ≡ None) × (layout ≡ regions)
Collects regions (Err NoMemoryRegion) = fault_of regions ≡ Some NoMemoryRegion
Collects regions (Err MemoryRegionOverlap) = fault_of regions ≡ Some MemoryRegionOverlap
Collects regions (Err UnsortedMemoryRegions) = fault_of regions ≡ Some UnsortedMemoryRegions
Collects regions (Err OutOfMemory) = (fault_of regions ≡ None) × RegionsWereRefused (length regions)

-- the result of inserting a region that has no address in common with those of a layout. An allocation
-- fails only if it has none
abbrev pub Inserts : Region → List Region → Result (List Region) GuestRegionCollectionError → Type 0
Inserts r layout (Ok new) = (list_any (overlap r) layout ≡ false) × (new ≡ with_region r layout)
Inserts r layout (Err NoMemoryRegion) = ⊥
Inserts r layout (Err MemoryRegionOverlap) = list_any (overlap r) layout ≡ true
Inserts r layout (Err UnsortedMemoryRegions) = ⊥
Inserts r layout (Err OutOfMemory) = (list_any (overlap r) layout ≡ false) × MemoryWasRefused

-- the layout after a removal, and the removed region in place of its `Arc`
abbrev pub with_removed :
    {X Z : Type 0} → (X → Region) → Result (List Region × Arc X Z) GuestRegionCollectionError
    → Result (List Region × Region) GuestRegionCollectionError
with_removed region (Ok left) = Ok (left.0, region (arc_value left.1))
with_removed region (Err e) = Err e

-- the result of removing the region of a base and a size; an allocation fails only if it is in the
-- layout
abbrev pub Removes :
    (base size : ℕ) → List Region → Result (List Region × Region) GuestRegionCollectionError → Type 0
Removes base size layout (Ok left) =
    (find (is_region base size) layout ≡ Some left.1) × (left.0 ≡ without_region base size layout)
Removes base size layout (Err NoMemoryRegion) = find (is_region base size) layout ≡ None
Removes base size layout (Err MemoryRegionOverlap) = ⊥
Removes base size layout (Err UnsortedMemoryRegions) = ⊥
Removes base size layout (Err OutOfMemory) = IsSome (find (is_region base size) layout) × MemoryWasRefused
