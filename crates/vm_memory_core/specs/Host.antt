-- The memory of the host: numbered blocks of bytes with their marked pages, numbered tables, and numbered
-- sets of marked I/O pages.
use Rattle.std.specs.Prelude.{ℕ, zero, suc, ◌+◌, ◌/◌, Bool, true, false, List, [], ◌∷◌, ◌++◌, length, map}
use Rattle.std.specs.Prelude.{replicate, Option, Some, None, slice_get, slice_set, option_and_then}
use Rattle.vm_bitmaps.specs.Pages.{marked_at}
use Rattle.vm_iotlb.specs.declared.range.IotlbRange.{IotlbRange}

-- an address in a set of I/O pages
pub record IoAddress : Type 0 where
  pub set : ℕ
  pub address : ℕ

-- the place of a byte: a block and an offset in it, and the page that a write there marks: its own in the
-- block, or that of an I/O address
pub record Place : Type 0 where
  pub block : ℕ
  pub offset : ℕ
  pub io : Option IoAddress

-- a block: its bytes, and a mark for each of its pages
pub record Block : Type 0 where
  pub bytes : List ℕ
  pub marks : List Bool

-- a host: its blocks, its tables and its sets of I/O pages. A table is the list of its ranges (`table_held`),
-- since a value in a contract can't hold a function
pub record Host : Type 0 where
  pub blocks : List Block
  pub tables : List (List IotlbRange)
  pub io_marks : List (List Bool)

-- the host with other blocks
abbrev pub with_blocks : Host → List Block → Host
with_blocks h blocks = record h { blocks = blocks }

-- the list with its element at i changed; nothing changes past the end
abbrev pub changed_at : {X : Type 0} → List X → ℕ → (X → X) → List X
changed_at [] i f = []
changed_at (x ∷ xs) zero f = f x ∷ xs
changed_at (x ∷ xs) (suc i) f = x ∷ changed_at xs i f

-- the byte at a place, or None if there is no such place
abbrev pub byte_at : Host → Place → Option ℕ
byte_at h p = option_and_then (λ b. slice_get b.bytes p.offset) (slice_get h.blocks p.block)

-- the host with this byte at a place
abbrev pub with_byte : Host → Place → ℕ → Host
with_byte h p byte =
    with_blocks h (changed_at h.blocks p.block (λ b. record b { bytes = slice_set b.bytes p.offset byte }))

-- the number of pages, of 4096 bytes each, of n bytes
abbrev pub page_count : ℕ → ℕ
page_count n = (n + 4095) / 4096

-- the marks after the page of an offset was marked; a page past the end is ignored
abbrev pub marked : List Bool → ℕ → List Bool
marked marks offset = slice_set marks (offset / 4096) true

-- the host with the page of a place marked in its block
abbrev pub with_block_mark : Host → Place → Host
with_block_mark h p =
    with_blocks h (changed_at h.blocks p.block (λ b. record b { marks = marked b.marks p.offset }))

-- the host with the page of an I/O address marked in its set; addresses from 2^64 on are ignored
abbrev pub with_io_mark : Host → IoAddress → Host
with_io_mark h a =
    record h { io_marks = changed_at h.io_marks a.set (λ marks. marked_at 4096 marks a.address) }

-- the host with a place's page marked: the page of its I/O address, if it has one, or its page in the block
abbrev pub with_mark_by : Option IoAddress → Place → Host → Host
with_mark_by None p h = with_block_mark h p
with_mark_by (Some a) p h = with_io_mark h a

-- a new block of n bytes, all zero, with no page marked
abbrev pub new_block : ℕ → Block
new_block n = record { bytes = replicate n 0; marks = replicate (page_count n) false }

-- a block with no page marked
abbrev pub unmarked : Block → Block
unmarked b = record b { marks = map (λ _. false) b.marks }

-- the host with no page of any block marked; the marks of I/O pages stay
abbrev pub cleared : Host → Host
cleared h = with_blocks h (map unmarked h.blocks)

-- the host with one more block
abbrev pub with_block : Host → Block → Host
with_block h b = with_blocks h (h.blocks ++ b ∷ [])

-- the host with one more table
abbrev pub with_table : Host → List IotlbRange → Host
with_table h t = record h { tables = h.tables ++ t ∷ [] }

-- the host with one more set of I/O pages
abbrev pub with_io_pages : Host → List Bool → Host
with_io_pages h marks = record h { io_marks = h.io_marks ++ marks ∷ [] }

-- the lengths of the blocks
abbrev pub lengths : Host → List ℕ
lengths h = map (λ b. length b.bytes) h.blocks

-- the parts of a host that no write changes: the lengths of its blocks, the number of its tables, and the
-- number of pages of each set of I/O pages
pub record Shape : Type 0 where
  pub block_lengths : List ℕ
  pub table_count : ℕ
  pub io_sizes : List ℕ

-- a host's shape
abbrev pub shape : Host → Shape
shape h =
    record { block_lengths = lengths h; table_count = length h.tables; io_sizes = map length h.io_marks }
