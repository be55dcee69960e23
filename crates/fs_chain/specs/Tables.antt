-- An IOMMU's table, which the caller keeps in a place, and lends to a handle.
use Rattle.std.specs.Prelude.{◌≡◌, ◌⊎◌, ◌==◌, ◌&&◌, ◌+◌, ◌-◌, ◌%◌, ◌^◌, ◌≤◌, ◌<◌, ℕ, Bool, true, false, min}
use Rattle.std.specs.Prelude.{not, List, Option, Some, None, Result, Ok, Err}
use Rattle.vm_iotlb.specs.declared.error.IommuError.{IommuError}
use Rattle.vm_iotlb.specs.declared.error.IommuError.TheVariants as iommu
use Rattle.vm_iotlb.specs.declared.iova.IovaRange.{IovaRange}
use Rattle.vm_iotlb.specs.declared.permissions.Permissions.{Permissions}
use Rattle.vm_iotlb.specs.declared.range.IotlbRange.{IotlbRange}
use Rattle.vm_iotlb.specs.Changes.{InvalidatesMapping, SetsMapping}
use Rattle.vm_memory.specs.Memory.{Memory}
use Rattle.fs_queue.specs.Chain.{Descriptor}
use Rattle.fs_regions.specs.Misses.{area_from, miss_of}
use Rattle.fs_regions.specs.Places.{own_table}
use Rattle.fs_regions.specs.Places as places
use Rattle.fs_chain.specs.declared.error.ChainError.{ChainError}
use Rattle.fs_chain.specs.declared.error.ChainError.TheVariants.{BadArgument, ChainInFlight, OutOfMemory}
use Rattle.fs_chain.specs.declared.error.ChainError.TheVariants.{WrongOrder}
use Rattle.fs_chain.specs.declared.iotlb_place.IotlbPlace.{IotlbPlace}
use Rattle.fs_chain.specs.declared.state.ChainState as state
use Rattle.fs_chain.specs.declared.state.ChainState.TheVariants as at
use Rattle.fs_chain.specs.declared.chain_handle.ChainHandle.{ChainHandle}

-- ---- lending

-- whether a pop is under way
abbrev pub is_popping : state.ChainState → Bool
is_popping (at.Popping course pop_id walk) = true
is_popping _ = false

-- the handle with another table
abbrev pub with_table : ChainHandle → Option (List IotlbRange) → ChainHandle
with_table w table = record w { regions = places.with_table w.regions table }

-- the handle's table is exchanged. While a pop is under way the given one is handed back, and nothing changes
abbrev pub ExchangesTable : (old new : ChainHandle) → (given : Option (List IotlbRange)) →
    Result (Option (List IotlbRange)) (Option (List IotlbRange)) → Type 0
ExchangesTable old new given (Ok was) =
    (is_popping old.state ≡ false) × (was ≡ own_table old.regions) × (new ≡ with_table old given)
ExchangesTable old new given (Err back) =
    (is_popping old.state ≡ true) × (back ≡ given) × (new ≡ old)

-- the tables of handle and place are exchanged, or nothing changes, since a pop is under way
abbrev pub ExchangesWith :
    (old new : ChainHandle) → (before after : IotlbPlace) → {X : Type 0} → Result X ChainError → Type 0
ExchangesWith old new before after (Ok done) =
    (is_popping old.state ≡ false)
    × (after.table ≡ own_table old.regions)
    × (new ≡ with_table old before.table)
ExchangesWith old new before after (Err e) =
    (is_popping old.state ≡ true) × (e ≡ ChainInFlight) × (after ≡ before) × (new ≡ old)

-- the first miss of a descriptor's buffer from an address on, if there is such a descriptor
abbrev pub miss_at : Memory → Option Descriptor → (from : ℕ) → Option (IovaRange × Permissions)
miss_at m None from = None
miss_at m (Some d) from = miss_of m (area_from d from)

-- ---- changing the table in its place

-- whether n addresses from a on are whole pages, and there are some
abbrev pub are_pages : (a n : ℕ) → Bool
are_pages a n = a % 4096 == 0 && (n % 4096 == 0 && not (n == 0))

-- the error that is returned for one of the table
abbrev pub mapping_error : IommuError → ChainError
mapping_error iommu.OutOfMemory = OutOfMemory
mapping_error _ = BadArgument

abbrev pub of_table : {X : Type 0} → Result X IommuError → Result X ChainError
of_table (Ok done) = Ok done
of_table (Err e) = Err (mapping_error e)

-- a table in its place maps whole pages; a call that is refused changes nothing
abbrev pub MapsIn : (old : Option (List IotlbRange)) → (iova len guest : ℕ) → Permissions →
    (new : Option (List IotlbRange)) → {X : Type 0} → Result X ChainError → Type 0
MapsIn None iova len guest access new result = (result ≡ Err WrongOrder) × (new ≡ None)
MapsIn (Some old) iova len guest access None result = ⊥
MapsIn (Some old) iova len guest access (Some new) {X} result =
    (((are_pages iova len && guest % 4096 == 0) ≡ false) × (result ≡ Err BadArgument) × (new ≡ old))
    ⊎ (((are_pages iova len && guest % 4096 == 0) ≡ true)
    × (set : Result X IommuError)
    × SetsMapping iova guest len access old new set
    × (result ≡ of_table set))

-- a table in its place loses the mappings of whole pages, which end at 2^64 or below. The last address, of
-- 2^64 - 1, is never mapped
abbrev pub UnmapsIn : (old : Option (List IotlbRange)) → (iova len : ℕ) → (new : Option (List IotlbRange)) →
    {X : Type 0} → Result X ChainError → Type 0
UnmapsIn None iova len new result = (result ≡ Err WrongOrder) × (new ≡ None)
UnmapsIn (Some old) iova len None result = ⊥
UnmapsIn (Some old) iova len (Some new) {X} result =
    (((are_pages iova len ≡ false) ⊎ (2 ^ 64 < iova + len)) × (result ≡ Err BadArgument) × (new ≡ old))
    ⊎ ((are_pages iova len ≡ true)
    × (iova + len ≤ 2 ^ 64)
    × (removed : Result X IommuError)
    × InvalidatesMapping iova (min len (2 ^ 64 - 1 - iova)) old new removed
    × (result ≡ of_table removed))
