-- Results of making blocks, regions and layouts, and the host after them.
use Rattle.std.specs.Prelude.{◌≡◌, ℕ, ◌+◌, ◌<◌, ◌≤◌, ◌^◌, nat_le, nat_lt, Bool, true, false, ◌&&◌, ◌⊎◌}
use Rattle.std.specs.Prelude.{List, [], ◌∷◌, ◌++◌, length, map, take, replicate, Option, Some, None}
use Rattle.std.specs.Prelude.{if◌then◌else◌, option_map, slice_get, Result, Ok, Err}
use Rattle.std.specs.List.{list_all}
use Rattle.vm_values.specs.declared.address.GuestAddress.{GuestAddress}
use Rattle.vm_memory_core.specs.Host.{Block, Host, with_block, with_blocks}
use Rattle.std.specs.declared.sync.Arc.{Arc}
use Rattle.std.specs.declared.vec.Vec.{Vec}
use Rattle.vm_memory.specs.Layout.{Backing, Region, regions_of}
use Rattle.vm_memory.specs.Collecting.{fault_of}
use Rattle.vm_memory.specs.declared.error.FromRangesError.{FromRangesError}
use Rattle.vm_memory.specs.declared.error.FromRangesError.TheVariants.{Collection, MmapRegion}
use Rattle.vm_memory.specs.declared.error.FromRangesError.TheVariants.{InvalidGuestRegion, OutOfMemory}
use Rattle.vm_memory.specs.declared.error.MmapRegionError.{MmapRegionError}
use Rattle.vm_memory.specs.declared.error.MmapRegionError.TheVariants as mmap

-- a new block of zeros without a mark
abbrev pub zero_block : (ℕ → ℕ) → ℕ → Block
zero_block count size = record { bytes = replicate size 0; marks = replicate (count size) false }

-- the host with a new block
abbrev pub grown : (ℕ → ℕ) → Host → ℕ → Host
grown count h size = with_block h (zero_block count size)

-- the result of making a block: `Mmap` if its size is 0
abbrev pub IsMapped :
    (count : ℕ → ℕ) → (before after : Host) → (size : ℕ) → Result Backing MmapRegionError → Type 0
IsMapped count before after size (Ok m) =
    (0 < size)
    × (m ≡ record { size = size; block = length before.blocks })
    × (after ≡ grown count before size)
IsMapped count before after size (Err mmap.Mmap) = (size ≡ 0) × (after ≡ before)
IsMapped count before after size (Err mmap.OutOfMemory) = (0 < size) × (after ≡ before)

-- a block of the host with its length, if it has one
abbrev pub backing_at : Host → ℕ → Option Backing
backing_at h b =
    option_map (λ block. record { size = length block.bytes; block = b }) (slice_get h.blocks b)

-- a block, if it has at least one byte
abbrev not_empty : Option Backing → Option Backing
not_empty None = None
not_empty (Some m) = if nat_lt 0 m.size then Some m else None

-- a block of the host with its length, if it has at least one byte
abbrev pub backing_over : Host → ℕ → Option Backing
backing_over h b = not_empty (backing_at h b)

-- the region over a block from an address on, if its last address fits 64 bits
abbrev pub region_over : Backing → (base : ℕ) → Option Region
region_over m base =
    if nat_le (base + m.size) (2 ^ 64) then Some (record { start = base; size = m.size; block = m.block })
    else None

-- the result of making a region over a new block. A size of 0 makes no block. If the last address
-- doesn't fit 64 bits, the block stays in the host
abbrev pub IsRegionMade :
    (count : ℕ → ℕ) → (before after : Host) → (base size : ℕ) → Result Region FromRangesError → Type 0
IsRegionMade count before after base size (Ok r) =
    (0 < size)
    × (base + size ≤ 2 ^ 64)
    × (r ≡ record { start = base; size = size; block = length before.blocks })
    × (after ≡ grown count before size)
IsRegionMade count before after base size (Err (Collection e)) = ⊥
IsRegionMade count before after base size (Err (MmapRegion mmap.Mmap)) = (size ≡ 0) × (after ≡ before)
IsRegionMade count before after base size (Err (MmapRegion mmap.OutOfMemory)) = ⊥
IsRegionMade count before after base size (Err InvalidGuestRegion) =
    (0 < size) × (2 ^ 64 < base + size) × (after ≡ grown count before size)
IsRegionMade count before after base size (Err OutOfMemory) = (0 < size) × (after ≡ before)

-- whether a range, a first address and a length, isn't empty and ends by 2^64
abbrev pub is_good : GuestAddress × ℕ → Bool
is_good range = nat_lt 0 range.1 && nat_le (range.0.0 + range.1) (2 ^ 64)

-- the regions of ranges, over the blocks from the n-th on
abbrev pub regions_from : ℕ → List (GuestAddress × ℕ) → List Region
regions_from n [] = []
regions_from n (range ∷ rest) =
    record { start = range.0.0; size = range.1; block = n } ∷ regions_from (n + 1) rest

-- the host with a new block for each of some ranges
abbrev pub grown_by : (ℕ → ℕ) → Host → List (GuestAddress × ℕ) → Host
grown_by count h ranges = with_blocks h (h.blocks ++ map (λ range. zero_block count range.1) ranges)

-- the k-th range is the first bad one
abbrev pub IsFirstBad : List (GuestAddress × ℕ) → (k : ℕ) → GuestAddress × ℕ → Type 0
IsFirstBad ranges k bad = (list_all is_good (take k ranges) ≡ true) × (slice_get ranges k ≡ Some bad)

-- the first k ranges are good, and the host has a new block for each
abbrev pub AreBlocksMade :
    (count : ℕ → ℕ) → (before after : Host) → List (GuestAddress × ℕ) → (k : ℕ) → Type 0
AreBlocksMade count before after ranges k =
    (list_all is_good (take k ranges) ≡ true) × (after ≡ grown_by count before (take k ranges))

-- the result of making regions over new blocks, one for each range up to the first bad one. The blocks
-- stay in the host. An allocation may fail at a range that isn't empty, before its block is made or
-- after
abbrev pub AreRegionsMade : (count : ℕ → ℕ) → (before after : Host) → List (GuestAddress × ℕ)
    → Result (List Region) FromRangesError → Type 0
AreRegionsMade count before after ranges (Ok regions) =
    (list_all is_good ranges ≡ true)
    × (regions ≡ regions_from (length before.blocks) ranges)
    × (after ≡ grown_by count before ranges)
AreRegionsMade count before after ranges (Err (Collection e)) = ⊥
AreRegionsMade count before after ranges (Err (MmapRegion mmap.Mmap)) =
    (k : ℕ) × (bad : GuestAddress × ℕ)
    × IsFirstBad ranges k bad
    × (bad.1 ≡ 0)
    × (after ≡ grown_by count before (take k ranges))
AreRegionsMade count before after ranges (Err (MmapRegion mmap.OutOfMemory)) = ⊥
AreRegionsMade count before after ranges (Err InvalidGuestRegion) =
    (k : ℕ) × (bad : GuestAddress × ℕ) × IsFirstBad ranges k bad × (2 ^ 64 < bad.0.0 + bad.1) × (0 < bad.1)
    × (after ≡ grown_by count before (take (k + 1) ranges))
AreRegionsMade count before after ranges (Err OutOfMemory) =
    (k : ℕ) × (range : GuestAddress × ℕ) × (slice_get ranges k ≡ Some range) × (0 < range.1)
    × (AreBlocksMade count before after ranges k ⊎ AreBlocksMade count before after ranges (k + 1))

-- the result of making a layout of new regions: an error if the list of regions has one
abbrev pub IsMadeOf : (count : ℕ → ℕ) → (before after : Host) → List (GuestAddress × ℕ) →
    Result (List Region) FromRangesError → Type 0
IsMadeOf count before after ranges (Ok layout) =
    AreRegionsMade count before after ranges (Ok layout) × (fault_of layout ≡ None)
IsMadeOf count before after ranges (Err (Collection e)) =
    AreRegionsMade count before after ranges (Ok (regions_from (length before.blocks) ranges))
    × (fault_of (regions_from (length before.blocks) ranges) ≡ Some e)
IsMadeOf count before after ranges (Err e) = AreRegionsMade count before after ranges (Err e)

-- the regions in a list of `Arc`s, or the error
abbrev pub shared_regions :
    {X Z W E : Type 0} → (X → Region) → Result (Vec (Arc X Z) W) E → Result (List Region) E
shared_regions region (Ok shared) = Ok (regions_of region shared.items)
shared_regions region (Err e) = Err e
