-- The addresses of an IOMMU's table that descriptors use.
use Rattle.std.specs.Prelude.{◌≡◌, ℕ, ◌+◌, ◌<◌, ◌≤◌, All, List}
use Rattle.vm_iotlb.specs.declared.permissions.Permissions.{Permissions}
use Rattle.vm_iotlb.specs.Table.{Table, mapped, unmapped}
use Rattle.fs_queue.specs.Chain.{Descriptor}

-- a descriptor's buffer has one of n addresses from `iova` on
abbrev pub Touches : (iova n : ℕ) → Descriptor → Type 0
Touches iova n d = (k : ℕ) × (k < d.len) × (iova ≤ d.addr + k) × (d.addr + k < iova + n)

-- a descriptor's buffer has none of n addresses from `iova` on
abbrev pub IsUntouched : (iova n : ℕ) → Descriptor → Type 0
IsUntouched iova n d = Touches iova n d → ⊥

-- two tables map a descriptor's addresses alike
abbrev pub StaysFor : (old new : Table) → Descriptor → Type 0
StaysFor old new d = (k : ℕ) → k < d.len → new (d.addr + k) ≡ old (d.addr + k)

-- theorem: changing or removing the mappings of some addresses doesn't change those of descriptors that
-- have none of them
abbrev pub OthersStay : Type 0
OthersStay =
    (iova n target : ℕ) (perm : Permissions) (table : Table) (ds : List Descriptor) →
    All (IsUntouched iova n) ds →
    All (StaysFor table (unmapped iova n table)) ds
    × All (StaysFor table (mapped iova target n perm table)) ds
