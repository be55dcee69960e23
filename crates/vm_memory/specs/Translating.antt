-- Results of translating I/O addresses.
use Rattle.std.specs.Prelude.{◌≡◌, ℕ, ◌+◌, ◌<◌, ◌≤◌, ◌^◌, true, false, List, ◌⊎◌, Result, Ok, Err}
use Rattle.vm_iotlb.specs.declared.permissions.Permissions.{Permissions}
use Rattle.vm_iotlb.specs.declared.iova.MappedRange.{MappedRange}
use Rattle.vm_iotlb.specs.declared.error.IommuError.{IommuError}
use Rattle.vm_iotlb.specs.declared.error.IommuError.TheVariants.{CannotResolve, Fragmented}
use Rattle.vm_iotlb.specs.declared.error.IommuError.TheVariants.{IommuMisconfigured, OutOfMemory}
use Rattle.vm_iotlb.specs.Table.{Table}
use Rattle.vm_iotlb.specs.AddressRuns.{addresses_joined, may_all, pieces, run_of, targets}

-- n addresses from iova on can't be translated: their end doesn't fit 64 bits, or the table doesn't
-- allow the access to each
abbrev pub CannotTranslate : Table → (iova n : ℕ) → Permissions → Type 0
CannotTranslate table iova n access = (2 ^ 64 ≤ iova + n) ⊎ (may_all table access iova n ≡ false)

-- the result of translating n addresses from iova on: the pieces to which they are mapped, or an error.
-- An allocation fails only if they can't be translated
abbrev pub Translates : Table → (iova n : ℕ) → Permissions → Result (List MappedRange) IommuError → Type 0
Translates table iova n access (Ok all) =
    (iova + n < 2 ^ 64)
    × (may_all table access iova n ≡ true)
    × (all ≡ pieces table iova n)
    × (addresses_joined all ≡ targets table iova n)
Translates table iova n access (Err (CannotResolve range)) =
    (range ≡ run_of iova n) × CannotTranslate table iova n access
Translates table iova n access (Err OutOfMemory) = CannotTranslate table iova n access
Translates table iova n access (Err Fragmented) = ⊥
Translates table iova n access (Err IommuMisconfigured) = ⊥
