-- The host after a mutable borrow of one of its tables or sets of I/O pages: it has the value that the borrow
-- leaves there.
use Rattle.std.specs.Prelude.{ℕ, Option, List, Bool, slice_set}
use Rattle.std.specs.Borrow.{LendsIf, Fml, RattleType, MutBor}
use Rattle.vm_iotlb.specs.declared.range.IotlbRange.{IotlbRange}
use Rattle.vm_iotlb.specs.contracts.iotlb.Iotlb.{the_row as table_row}
use Rattle.vm_memory_core.specs.Host.{Host}
use Rattle.vm_memory_core.specs.contracts.host.HostMemory.{the_row}
use Rattle.vm_memory_core.specs.contracts.io_pages.IoPages.{the_row as io_pages_row}

-- the ghost members of `NewBitmap`, which a contract has as B.NewBitmap
abbrev pub BitmapMembers : Type 0 → Type 1
BitmapMembers X =
    record { page_size : X → ℕ; base : X → ℕ; marks : X → List Bool; Keeps : X → X → Type 0; count : ℕ → ℕ }

-- the host after its table t was replaced
abbrev pub with_table_at : Host → (t : ℕ) → List IotlbRange → Host
with_table_at h t ranges = record h { tables = slice_set h.tables t ranges }

-- the host after its set i of I/O pages was replaced
abbrev pub with_io_pages_at : Host → (i : ℕ) → List Bool → Host
with_io_pages_at h i marks = record h { io_marks = slice_set h.io_marks i marks }

module _ (B : RattleType) (g : BitmapMembers B.Denot) (h : MutBor Host) (number : ℕ) where
  -- the type of a host with bitmaps of the type B
  abbrev pub host_row : RattleType
  host_row =
      the_row B (record { count = g.count })
      (record { page_size = g.page_size; base = g.base; marks = g.marks; Keeps = g.Keeps })

  -- the type of the host's sets of I/O pages
  abbrev pub pages_row : RattleType
  pages_row =
      io_pages_row B (record { count = g.count })
      (record { page_size = g.page_size; base = g.base; marks = g.marks; Keeps = g.Keeps })

  -- a table is borrowed; if there is none, the host is unchanged
  abbrev pub LendsTable : Option (MutBor (List IotlbRange)) → Fml
  LendsTable r = LendsIf host_row table_row h r (with_table_at h.now number) h.now

  -- a set of I/O pages is borrowed; if there is none, the host is unchanged
  abbrev pub LendsIoPages : Option (MutBor (List Bool)) → Fml
  LendsIoPages r = LendsIf host_row pages_row h r (with_io_pages_at h.now number) h.now
