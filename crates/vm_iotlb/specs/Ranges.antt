-- The table that a list of ranges keeps. Contracts use the table alone; the ranges are its representation.
use Rattle.std.specs.Prelude.{◌≡◌, ℕ, ◌+◌, ◌-◌, ◌<◌, ◌≤◌, ◌^◌, Bool, ◌&&◌, nat_le, nat_lt, List, [], ◌∷◌}
use Rattle.std.specs.Prelude.{Option, Some, None, if◌then◌else◌}
use Rattle.vm_iotlb.specs.declared.range.IotlbRange.{IotlbRange}
use Rattle.vm_iotlb.specs.Table.{Mapping, Table}

-- whether a range contains an address
abbrev pub has : IotlbRange → ℕ → Bool
has r a = nat_le r.start a && nat_lt a r.end

-- the mapping that a range gives an address of its own
abbrev pub mapping_in : IotlbRange → ℕ → Mapping
mapping_in r a = record { target = r.target + (a - r.start); perm = r.perm }

-- the table that ranges keep: an address has the mapping of the first range that contains it
unfoldable pub table_held : List IotlbRange → ℕ → Option Mapping
table_held [] a = None
table_held (r ∷ rs) a = if has r a then Some (mapping_in r a) else table_held rs a

-- a range isn't empty, and its end and the end of its targets fit 64 bits
abbrev pub IsRange : IotlbRange → Type 0
IsRange r = (r.start < r.end) × (r.end < 2 ^ 64) × (r.target + (r.end - r.start) < 2 ^ 64)

-- one range goes on in another, so that one range could replace both
abbrev pub ContinuesIn : IotlbRange → IotlbRange → Type 0
ContinuesIn r s = (r.end ≡ s.start) × (r.target + (r.end - r.start) ≡ s.target) × (r.perm ≡ s.perm)

-- one range ends before another, and doesn't go on in it
abbrev pub Precedes : IotlbRange → IotlbRange → Type 0
Precedes r s = (r.end ≤ s.start) × (ContinuesIn r s → ⊥)

-- a range precedes the first of others, if there are any
abbrev pub PrecedesAll : IotlbRange → List IotlbRange → Type 0
PrecedesAll r [] = Unit {0}
PrecedesAll r (s ∷ rest) = Precedes r s

-- ranges ascend, have no address in common, and none goes on in the next
abbrev pub AreRanges : List IotlbRange → Type 0
AreRanges [] = Unit {0}
AreRanges (r ∷ rs) = IsRange r × PrecedesAll r rs × AreRanges rs

-- the first range, if there is one, ends above an address
abbrev pub EndsAbove : ℕ → List IotlbRange → Type 0
EndsAbove a [] = Unit {0}
EndsAbove a (r ∷ rs) = a < r.end

-- a table after a range was added: its addresses have its mapping, and all others keep theirs
abbrev pub with_range : IotlbRange → Table → Table
with_range r table = λ a. if has r a then Some (mapping_in r a) else table a

-- the new ranges keep the old ranges' table with one range added
abbrev pub AddsRange : IotlbRange → (old new : List IotlbRange) → Type 0
AddsRange r old new = (a : ℕ) → table_held new a ≡ with_range r (table_held old) a

-- ranges map each address from a up to e, excluded, as a table does
abbrev pub Agree : Table → List IotlbRange → ℕ → ℕ → Type 0
Agree table l a e = (x : ℕ) → a ≤ x → x < e → table x ≡ table_held l x
