-- Memory behind a table: the places of I/O addresses, and the greatest length of a window of them.
use Rattle.std.specs.Prelude.{◌≡◌, ℕ, zero, suc, ◌+◌, ◌-◌, ◌<◌, ◌^◌, min, length, Bool, true, false, refl}
use Rattle.std.specs.Prelude.{List, [], ◌∷◌, Option, if◌then◌else◌, option_map, slice_get, map, unwrap_or}
use Rattle.std.specs.Borrow.{Bor}
use Rattle.vm_iotlb.specs.declared.permissions.Permissions.{Permissions}
use Rattle.vm_iotlb.specs.declared.range.IotlbRange.{IotlbRange}
use Rattle.vm_iotlb.specs.declared.iova.MappedRange.{MappedRange}
use Rattle.vm_iotlb.specs.AddressRuns.{go_together, may_all, pieces, target_of}
use Rattle.vm_iotlb.specs.Ranges.{table_held}
use Rattle.vm_iotlb.specs.Table.{Table}
use Rattle.std.proofs.Common.{ap, arith}
use Rattle.std.proofs.lemmas.List.{length-map}
use Rattle.vm_memory_core.specs.Host.{Host, Place, shape}
use Rattle.vm_memory.specs.Layout.{Region, HostHolds, held-same, left_at}
use Rattle.vm_memory.specs.Memory.{for_io, place_behind, table_in}
use Rattle.vm_memory.specs.Slices.{Slices}

-- the place of an I/O address by a layout and a table, if the access is allowed; a write there marks the
-- address's page in a set
abbrev pub translated : List Region → Table → (set : ℕ) → Permissions → ℕ → Option Place
translated layout table set access a = for_io set a (place_behind layout access (table a))

-- the number of addresses, of n from a on, that go together: mapped as one piece, or none of them mapped
unfoldable pub run_len : Table → (a n : ℕ) → ℕ
run_len table a zero = 0
run_len table a (suc n) = if go_together (table a) (table (a + 1)) then suc (run_len table (a + 1) n) else 1

-- the greatest length of a window from an I/O address on: the window ends with the piece that is mapped
-- as one, and with its region
abbrev pub translated_left : List Region → Table → ℕ → ℕ
translated_left layout table a = min (run_len table a (2 ^ 64 - a)) (left_at layout (target_of (table a)))

-- n addresses from a on end below 2^64 and are mapped with a permission to these pieces
abbrev pub AreMappedTo : Table → Permissions → (a n : ℕ) → List MappedRange → Type 0
AreMappedTo table access a n mapped =
    (a + n < 2 ^ 64) × (may_all table access a n ≡ true) × (mapped ≡ pieces table a n)

-- n addresses from a on are mapped to these pieces: to the first, unless it is empty, and to the rest
abbrev pub AreLeft : Table → (a n : ℕ) → MappedRange → List MappedRange → Type 0
AreLeft table a n piece rest =
    (piece.base.0 + piece.length < 2 ^ 64)
    × (0 < piece.length → pieces table a n ≡ piece ∷ rest)
    × (piece.length ≡ 0 → pieces table a n ≡ rest)

-- n addresses from a on, at least one, are mapped with a permission throughout, to these pieces
abbrev pub MappedLeft : Table → Permissions → (a n : ℕ) → MappedRange → List MappedRange → Type 0
MappedLeft table access a n piece rest =
    (0 < n) × (a + n < 2 ^ 64) × (may_all table access a n ≡ true) × AreLeft table a n piece rest

-- windows of I/O addresses: layout, table, set of I/O pages, access, and the addresses that are left
pub record TranslatedSlices : Type 0 where
  pub layout : List Region
  pub ranges : List IotlbRange
  pub set : ℕ
  pub access : Permissions
  pub left : List ℕ

-- windows of I/O addresses, with the places of their layout and table
abbrev pub slices_translated : TranslatedSlices → Slices
slices_translated s = record {
  where_is = translated s.layout (table_held s.ranges) s.set s.access;
  longest = translated_left s.layout (table_held s.ranges);
  left = s.left;
}

-- the ranges of a table; a missing table maps nothing
abbrev pub ranges_of : Option (Bor (List IotlbRange)) → List IotlbRange
ranges_of table = unwrap_or (option_map (λ t. t.now) table) []

-- the ranges of the table of this number in a host
abbrev pub ranges_in : Host → (number : ℕ) → List IotlbRange
ranges_in h number = unwrap_or (slice_get h.tables number) []

-- the greatest length of a window from an address on, behind an IOMMU that is on or off
abbrev pub left_behind : (on : Bool) → Host → List Region → (number : ℕ) → ℕ → ℕ
left_behind on h layout number a =
    if on then translated_left layout (table_in h number) a else left_at layout a

-- a host has the blocks of a layout, a table of this number, and a set of I/O pages of this number
abbrev pub HoldsBehind : Host → List Region → (number set : ℕ) → Type 0
HoldsBehind h layout number set = HostHolds h layout × (number < length h.tables) × (set < length h.io_marks)

-- proofs that ghost members need, which nobody has to believe
pub left-off : (on : Bool) (x y : ℕ) → on ≡ false → (if on then x else y) ≡ y
left-off on x y off = rw off refl

pub holds-same : (layout : List Region) (number set : ℕ) (h g : Host) → shape g ≡ shape h →
    HoldsBehind h layout number set → HoldsBehind g layout number set
holds-same layout number set h g same held =
    let tables : length g.tables ≡ length h.tables = ap (λ s. s.table_count) same in
    let sets : length (map length g.io_marks) ≡ length (map length h.io_marks) =
    ap (λ s. length s.io_sizes) same in (
      held-same layout h g same held.0,
      omega (arith, tables, held.1),
      omega (arith, sets, held.2, length-map g.io_marks length, length-map h.io_marks length),
    )
