-- The changes of a table, and their errors.
use Rattle.std.specs.Prelude.{◌≡◌, ℕ, ◌+◌, ◌<◌, ◌≤◌, ◌^◌, true, List, ◌⊎◌, Result, Ok, Err}
use Rattle.vm_iotlb.specs.declared.permissions.Permissions.{Permissions}
use Rattle.vm_iotlb.specs.declared.range.IotlbRange.{IotlbRange}
use Rattle.vm_iotlb.specs.declared.error.IommuError.{IommuError}
use Rattle.vm_iotlb.specs.declared.error.IommuError.TheVariants.{CannotResolve, Fragmented}
use Rattle.vm_iotlb.specs.declared.error.IommuError.TheVariants.{IommuMisconfigured, OutOfMemory}
use Rattle.vm_iotlb.specs.Table.{AreSame, mapped, unmapped}
use Rattle.vm_iotlb.specs.Ranges.{table_held}
use Rattle.vm_iotlb.specs.AddressRuns.{begins_anew_about, carries_on_at}

-- n addresses from iova on are mapped to those from target on, or an error changes nothing.
-- IommuMisconfigured: an end doesn't fit 64 bits. OutOfMemory: an allocation failed. That can be only if a
-- run begins at the first address or right behind the last where none began before
abbrev pub SetsMapping : (iova target n : ℕ) → Permissions → (old new : List IotlbRange) → {X : Type 0} →
    Result X IommuError → Type 0
SetsMapping iova target n perm old new (Ok done) =
    (iova + n < 2 ^ 64)
    × (target + n < 2 ^ 64)
    × AreSame (table_held new) (mapped iova target n perm (table_held old))
SetsMapping iova target n perm old new (Err IommuMisconfigured) =
    ((2 ^ 64 ≤ iova + n) ⊎ (2 ^ 64 ≤ target + n)) × (new ≡ old)
SetsMapping iova target n perm old new (Err OutOfMemory) =
    (iova + n < 2 ^ 64)
    × (target + n < 2 ^ 64)
    × (0 < n)
    × (begins_anew_about (table_held old) (mapped iova target n perm (table_held old)) iova (iova + n) ≡ true)
    × (new ≡ old)
SetsMapping iova target n perm old new (Err (CannotResolve range)) = ⊥
SetsMapping iova target n perm old new (Err Fragmented) = ⊥

-- the mappings of n addresses from iova on are removed, or an error changes nothing. IommuMisconfigured:
-- their end doesn't fit 64 bits. OutOfMemory: an allocation failed. That can be only if the address behind
-- them is mapped as one with the last
abbrev pub InvalidatesMapping :
    (iova n : ℕ) → (old new : List IotlbRange) → {X : Type 0} → Result X IommuError → Type 0
InvalidatesMapping iova n old new (Ok done) =
    (iova + n < 2 ^ 64) × AreSame (table_held new) (unmapped iova n (table_held old))
InvalidatesMapping iova n old new (Err IommuMisconfigured) = (2 ^ 64 ≤ iova + n) × (new ≡ old)
InvalidatesMapping iova n old new (Err OutOfMemory) =
    (iova + n < 2 ^ 64) × (0 < n) × (carries_on_at (table_held old) (iova + n) ≡ true) × (new ≡ old)
InvalidatesMapping iova n old new (Err (CannotResolve range)) = ⊥
InvalidatesMapping iova n old new (Err Fragmented) = ⊥
