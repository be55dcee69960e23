-- The mapped ranges that an iterator over a table will still return.
use Rattle.std.specs.Prelude.{◌≡◌, ℕ, ◌-◌, true, List, [], Option, Some, None}
use Rattle.std.specs.Map.{values_of}
use Rattle.std.specs.BTreeMap.{BTreeMap as SeenMap}
use denote.Ref.{Bor}
use Rattle.vm_iotlb.specs.declared.permissions.Permissions.{Permissions}
use Rattle.vm_iotlb.specs.declared.range.IotlbRange.{IotlbRange}
use Rattle.vm_iotlb.specs.declared.iova.MappedRange.{MappedRange}
use Rattle.vm_iotlb.specs.Table.{Table}
use Rattle.vm_iotlb.specs.Ranges.{table_held, AreRanges}
use Rattle.vm_iotlb.specs.Keys.{AreKeyed, IsLastUpTo}
use Rattle.vm_iotlb.specs.AddressRuns.{may_all, pieces}

-- the addresses from a up to e, excluded, are mapped, and some access is allowed at each of them
abbrev pub AreMapped : Table → ℕ → ℕ → Type 0
AreMapped table a e = (access : Permissions) × (may_all table access a (e - a) ≡ true)

-- the mapped ranges of the addresses from a up to e, excluded; none without a table
abbrev pub pieces_left : Option (Bor (SeenMap ℕ IotlbRange)) → ℕ → ℕ → List MappedRange
pieces_left None a e = []
pieces_left (Some m) a e = pieces (table_held (values_of m.now.entries)) a (e - a)

-- the range, if there is one, has the greatest start that is at most a
abbrev pub IsFoundAt : List (ℕ × IotlbRange) → Option (Bor IotlbRange) → ℕ → Type 0
IsFoundAt es None a = Unit {0}
IsFoundAt es (Some r) a = IsLastUpTo es a r.now

-- the table, if there is one, maps the addresses from a up to e, excluded, and the range is found at a
abbrev pub CanGoOn : Option (Bor (SeenMap ℕ IotlbRange)) → Option (Bor IotlbRange) → ℕ → ℕ → Type 0
CanGoOn None found a e = Unit {0}
CanGoOn (Some m) found a e =
    AreKeyed m.now.entries
    × AreRanges (values_of m.now.entries)
    × AreMapped (table_held (values_of m.now.entries)) a e
    × IsFoundAt m.now.entries found a
