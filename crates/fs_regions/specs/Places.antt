-- The mapped addresses of a guest's memory, without its bytes: its regions, and the IOMMU's table, if
-- there is one (VIRTIO 1.2, 2.7).
use Rattle.std.specs.Prelude.{◌≡◌, ℕ, ◌+◌, ◌%◌, ◌^◌, ◌==◌, ◌||◌, not, nat_lt, Bool, false, true, [], ◌∷◌}
use Rattle.std.specs.Prelude.{List, Option, Some, None, if◌then◌else◌, is_some, unwrap_or}
use Rattle.vm_iotlb.specs.declared.range.IotlbRange.{IotlbRange}
use Rattle.vm_memory_core.specs.Host.{Host}
use Rattle.vm_memory.specs.Layout.{Region, IsLawful}
use Rattle.vm_memory.specs.Memory.{Memory, memory_behind}
use Rattle.vm_memory.specs.Translated.{left_behind}

-- a region isn't empty, its last address fits 64 bits, and it has whole pages of 4096 bytes
abbrev pub HasWholePages : Region → Type 0
HasWholePages r = IsLawful r × (r.start % 4096 ≡ 0) × (r.size % 4096 ≡ 0)

-- this region, or None if the numbers aren't those of a region
abbrev pub is_no_region : (start size : ℕ) → Option Region → Option Region
is_no_region start size r =
    if size == 0 || not (start % 4096 == 0) || not (size % 4096 == 0)
    || nat_lt (2 ^ 64) (start + size) then None else r

-- the region with these numbers, if they are a region's
abbrev pub region_if : (start size number : ℕ) → Option Region
region_if start size number =
    is_no_region start size (Some (record { start = start; size = size; block = number }))

-- regions, and the table that translates a device's addresses to theirs, if there is one. `away`: the table
-- was taken away, and in its place is one that maps nothing
pub record Mapped : Type 0 where
  pub layout : List Region
  pub table : Option (List IotlbRange)
  pub away : Bool

-- regions without a table
abbrev pub untranslated : List Region → Mapped
untranslated regions = record { layout = regions; table = None; away = false }

-- regions behind a table
abbrev pub behind : List Region → List IotlbRange → Mapped
behind regions table = record { layout = regions; table = Some table; away = false }

-- regions whose table is taken away, if they have one
abbrev pub without : List Region → Option (List IotlbRange) → Mapped
without regions None = untranslated regions
without regions (Some table) = record { layout = regions; table = Some []; away = true }

-- the regions with another table, or with none
abbrev pub with_table : Mapped → Option (List IotlbRange) → Mapped
with_table g None = without g.layout g.table
with_table g (Some table) = behind g.layout table

-- the table that can be taken away
abbrev pub own_table : Mapped → Option (List IotlbRange)
own_table g = if g.away then None else g.table

-- the memory that a host's blocks are by these regions and their table; the host's own tables don't matter
abbrev pub memory_over : Host → Mapped → Memory
memory_over h g =
    memory_behind (record h { tables = unwrap_or g.table [] ∷ [] }) g.layout 0 0 (is_some g.table)

-- the same memory without a byte in it: only its mapping
abbrev pub places_in : Mapped → Memory
places_in g = memory_over (record { blocks = []; tables = []; io_marks = [] }) g

-- the greatest length of a window from an address on: it ends with its region and with the piece that
-- is mapped as one
abbrev pub left_in : Memory → ℕ → ℕ
left_in m a = left_behind m.translates m.host m.layout m.table a
