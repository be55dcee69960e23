-- An IOMMU's table as a partial function of addresses: the meaning of the ranges, however they are kept.
use Rattle.std.specs.Prelude.{◌≡◌, ℕ, ◌+◌, ◌-◌, Bool, true, false, not, ◌&&◌, ◌||◌, nat_le, nat_lt, Option}
use Rattle.std.specs.Prelude.{Some, None, if◌then◌else◌}
use Rattle.vm_iotlb.specs.declared.permissions.Permissions.{Permissions}
use Rattle.vm_iotlb.specs.declared.permissions.Permissions.TheVariants.{No, Read, Write, ReadWrite}

-- whether a permission allows reading
abbrev pub can_read : Permissions → Bool
can_read No = false
can_read Read = true
can_read Write = false
can_read ReadWrite = true

-- whether a permission allows writing
abbrev pub can_write : Permissions → Bool
can_write No = false
can_write Read = false
can_write Write = true
can_write ReadWrite = true

-- whether a given permission allows all accesses of the one that is asked for
abbrev pub allows : Permissions → Permissions → Bool
allows given asked = (can_read given || not (can_read asked)) && (can_write given || not (can_write asked))

-- a permission allows the accesses that either of two permissions allows
abbrev pub HasEither : (one other both : Permissions) → Type 0
HasEither one other both =
    (can_read both ≡ can_read one || can_read other) × (can_write both ≡ can_write one || can_write other)

-- a permission allows the accesses that both of two permissions allow
abbrev pub HasShared : (one other both : Permissions) → Type 0
HasShared one other both =
    (can_read both ≡ can_read one && can_read other) × (can_write both ≡ can_write one && can_write other)

-- whether a is one of the n addresses from start on
abbrev pub is_within : ℕ → ℕ → ℕ → Bool
is_within start n a = nat_le start a && nat_lt a (start + n)

-- the mapping of an address: its target and its permission
pub record Mapping : Type 0 where
  pub target : ℕ
  pub perm : Permissions

-- a table: each address has a mapping or none
abbrev pub Table : Type 0
Table = ℕ → Option Mapping

-- the table without a mapping
abbrev pub nothing_mapped : Table
nothing_mapped = λ a. None

-- the table after n addresses from iova on were mapped to those from target on; all others keep theirs
abbrev pub mapped : ℕ → ℕ → ℕ → Permissions → Table → Table
mapped iova target n perm table =
    λ a. if is_within iova n a then Some (record { target = target + (a - iova); perm = perm }) else table a

-- the table after the mappings of n addresses from iova on were removed; all others keep theirs
abbrev pub unmapped : ℕ → ℕ → Table → Table
unmapped iova n table = λ a. if is_within iova n a then None else table a

-- two tables map each address alike
abbrev pub AreSame : Table → Table → Type 0
AreSame table other = (a : ℕ) → table a ≡ other a
