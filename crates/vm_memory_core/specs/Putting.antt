-- A store in its two parts: bytes in one block, whose pages are marked unless I/O pages are, and the marks of
-- those I/O pages.
use Rattle.std.specs.Prelude.{ℕ, ◌+◌, ◌-◌, Bool, List, ◌++◌, length, map, take, drop, Option, None, Some}
use Rattle.std.specs.Prelude.{if◌then◌else◌}
use Rattle.std.specs.Option.{is_none}
use Rattle.vm_bitmaps.specs.Pages.{marked_range}
use Rattle.vm_memory_core.specs.Host.{Block, Host, changed_at, with_blocks}
use Rattle.vm_memory_core.specs.Window.{Window, byte_in, places_of}
use Rattle.vm_memory_core.specs.declared.window.IoMarks.{IoMarks}

-- the marks after the pages of n bytes were marked, if mark is true
abbrev pub marked_if : Bool → List Bool → (offset n : ℕ) → List Bool
marked_if mark marks offset n = if mark then marked_range 4096 marks offset n else marks

-- a block after bytes were put from an offset on, and their pages marked if mark is true
abbrev pub block_put : Bool → (offset : ℕ) → List ℕ → Block → Block
block_put mark offset bytes b =
    record {
      bytes = take offset b.bytes ++ bytes ++ drop (offset + length bytes) b.bytes;
      marks = marked_if mark b.marks offset (length bytes);
    }

-- the host after bytes were put at the front of a window, and marked in its block unless it marks I/O pages
abbrev pub put_in_block : Host → Window → List ℕ → Host
put_in_block h w bytes = with_blocks h (changed_at h.blocks w.block (block_put (is_none w.io) w.offset bytes))

-- the host after the bytes of one window were copied into another, and marked in its block unless that window
-- marks I/O pages
abbrev pub copied_in_block : Host → (source dest : Window) → Host
copied_in_block h source dest = put_in_block h dest (map (byte_in h) (places_of source))

-- the host after the I/O pages of n bytes from an offset on were marked, if there are any
abbrev pub io_marked_by : Option IoMarks → Host → (offset n : ℕ) → Host
io_marked_by None h offset n = h
io_marked_by (Some m) h offset n =
    record h {
      io_marks = changed_at h.io_marks m.set
          (λ marks. marked_range 4096 marks (m.base + (offset - m.from)) n);
    }

-- the host after the I/O pages of the first n bytes of a window were marked, if the window marks I/O pages
abbrev pub io_marked : Host → Window → (n : ℕ) → Host
io_marked h w n = io_marked_by w.io h w.offset n
