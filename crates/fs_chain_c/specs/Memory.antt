-- The memory that C passes: regions in any order.
use Rattle.std.specs.Prelude.{◌≡◌, ◌≤◌, ◌<◌, ◌+◌, ◌%◌, ◌^◌, ◌⊎◌, IsTrue, List, [], ◌∷◌, ◌++◌, ℕ, All, map}
use Rattle.std.specs.Prelude.{Some, None, IsPermutation, length}
use Rattle.std.specs.List.Sorted.{IsNonDecreasingBy}
use Rattle.vm_memory.specs.Layout.{Region}
use Rattle.vm_memory.specs.Collecting.{RegionsWereRefused, fault_of}
use Rattle.vm_memory.specs.declared.error.GuestRegionCollectionError.{GuestRegionCollectionError}
use Rattle.fs_regions.specs.Places.{HasWholePages}
use Rattle.server_replies.specs.PageSizes.{is_page_size}
use Rattle.fs_chain.specs.declared.error.ChainError.TheVariants.{OutOfMemory}
use Rattle.fs_chain_c.specs.declared.device.FsDevice.{FsDevice}
use Rattle.fs_chain_c.specs.declared.memory.FsRegion.{FsRegion}
use Rattle.fs_chain_c.specs.declared.status.StatusRefusal.{StatusRefusal}
use Rattle.fs_chain_c.specs.declared.status.StatusRefusal.TheVariants.{Of, Invalid}
use Rattle.fs_chain_c.specs.Statuses.{many_status, overlap_status, region_status}

-- a device's page size and limit are valid
abbrev pub IsDevice : FsDevice → Type 0
IsDevice d = IsTrue (is_page_size d.page_size) × (0x101000 ≤ d.limit) × (d.limit ≤ 2 ^ 31)

-- the core's region with these numbers: its block is the host address
abbrev pub region_of : FsRegion → Region
region_of r = record { start = r.guest; size = r.len; block = r.host }

-- a region of whole pages: it begins and ends at a page of host memory too
abbrev pub IsRegion : FsRegion → Type 0
IsRegion r = HasWholePages (region_of r) × (r.host % 4096 ≡ 0) × (r.host + r.len ≤ 2 ^ 64)

-- there are no regions, or they ascend and have no address in common
abbrev pub StandApart : List Region → Type 0
StandApart [] = Unit {0}
StandApart (r ∷ rs) = fault_of (r ∷ rs) ≡ None

-- a memory of these regions, by ascending address
abbrev pub IsMemory : List FsRegion → List Region → Type 0
IsMemory regions memory =
    (length regions ≤ 512)
    × (sorted : List FsRegion)
    × IsPermutation regions sorted
    × All IsRegion sorted
    × (memory ≡ map region_of sorted)
    × StandApart memory

-- two regions have an address in common: there is a fault among the regions by ascending address
abbrev pub DoOverlap : List FsRegion → Type 0
DoOverlap regions =
    (0 < length regions)
    × (sorted : List FsRegion) × (fault : GuestRegionCollectionError)
    × IsPermutation regions sorted
    × IsNonDecreasingBy (λ (r : FsRegion). r.guest) sorted
    × (fault_of (map region_of sorted) ≡ Some fault)

-- the first of these regions that isn't one has this status
pub record HasNoRegion (regions : List FsRegion) (status : ℕ) : Type 0 where
  pub before : List FsRegion
  pub region : FsRegion
  pub after : List FsRegion
  pub parts : regions ≡ before ++ region ∷ after
  pub are : All IsRegion before
  pub is_none : IsRegion region → ⊥
  pub why : status ≡ region_status region

-- why these regions aren't a memory, in this order: one isn't a region; there are too many; two have an
-- address in common; or they are a memory, and their allocation failed
abbrev pub IsNoMemory : List FsRegion → StatusRefusal → Type 0
IsNoMemory regions (Invalid status) =
    HasNoRegion regions status
    ⊎ (All IsRegion regions × (512 < length regions) × (status ≡ many_status))
    ⊎ (All IsRegion regions × (length regions ≤ 512) × DoOverlap regions × (status ≡ overlap_status))
IsNoMemory regions (Of OutOfMemory) =
    (0 < length regions)
    × RegionsWereRefused (length regions)
    × (memory : List Region)
    × IsMemory regions memory
IsNoMemory regions _ = ⊥

-- among the regions, in their order, is a fault
abbrev pub HaveFault : List FsRegion → Type 0
HaveFault regions =
    (0 < length regions)
    × (fault : GuestRegionCollectionError)
    × (fault_of (map region_of regions) ≡ Some fault)

-- why these regions, in their order, aren't a memory: a fault, or their allocation failed
abbrev pub IsNoSortedMemory : List FsRegion → StatusRefusal → Type 0
IsNoSortedMemory regions (Invalid status) = HaveFault regions × (status ≡ overlap_status)
IsNoSortedMemory regions (Of OutOfMemory) =
    (fault_of (map region_of regions) ≡ None) × RegionsWereRefused (length regions)
IsNoSortedMemory regions _ = ⊥
