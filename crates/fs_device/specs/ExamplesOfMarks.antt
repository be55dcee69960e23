-- Worked examples that compute: the length in a reply's header, and the pages that writes mark.
use Rattle.std.specs.Prelude.{◌≡◌, ℕ, Bool, true, false, List, [], ◌∷◌, refl, Option, Some, None}
use Rattle.vm_iotlb.specs.declared.permissions.Permissions.TheVariants.{ReadWrite}
use Rattle.vm_iotlb.specs.Ranges.{table_held}
use Rattle.vm_memory_core.specs.Host.{Host, new_block}
use Rattle.vm_memory.specs.Layout.{place}
use Rattle.vm_memory.specs.Memory.{Memory, memory_behind, stored_all}
use Rattle.vm_values.specs.Fields as fields
use Rattle.server_replies.specs.WholeReplies.{reply_bytes, error_bytes}
use Rattle.plain_machine.specs.UsedLength.{header_length}
use Rattle.plain_machine.specs.MarkedPages.{block_mark, io_mark}

-- ---- the length in a header

-- an error is only its header, of 16 bytes
reports_length_of_error : header_length (error_bytes 1 38) ≡ 16 ∷ 0 ∷ 0 ∷ 0 ∷ []
unfolding error_bytes fields.field_bytes
reports_length_of_error = refl

-- with three bytes behind it, the header has the length 19
reports_length_of_data : header_length (reply_bytes 1 (7 ∷ 8 ∷ 9 ∷ [])) ≡ 19 ∷ 0 ∷ 0 ∷ 0 ∷ []
unfolding reply_bytes fields.field_bytes
reports_length_of_data = refl

-- ---- pages

-- two pages at 0 behind an IOMMU that is on or off, whose table maps sixteen addresses from 0x1ff8 on to
-- those from 0xff8 on, and a set of two I/O pages
abbrev two_pages : (on : Bool) → Memory
two_pages on =
    memory_behind
    (record {
      blocks = new_block 0x2000 ∷ [];
      tables = (record { start = 0x1ff8; end = 0x2008; target = 0xff8; perm = ReadWrite } ∷ []) ∷ [];
      io_marks = (false ∷ false ∷ []) ∷ [];
    })
    (record { start = 0; size = 0x2000; block = 0 } ∷ []) 0 0 on

-- the marks of both pages of the block, and of three pages of the set, after a write of one byte
abbrev marks_after : (on : Bool) (address : ℕ) → List (Option Bool)
marks_after on address =
    let h : Host = (stored_all (two_pages on) ((address, 7) ∷ [])).host in
    block_mark h 0 0 ∷ block_mark h 0 1 ∷ io_mark h 0 0 ∷ io_mark h 0 1 ∷ io_mark h 0 2 ∷ []

-- with the IOMMU off, a write marks the page of the place in its block
marks_page_of_place : marks_after false 0x1000 ≡ Some false ∷ Some true ∷ Some false ∷ Some false ∷ None ∷ []
unfolding place stored_all
marks_page_of_place = refl

-- with the IOMMU on, a write marks the page of the address in the set, not that of its place
marks_page_of_address : marks_after true 0x1ff8 ≡ Some false ∷ Some false ∷ Some false ∷ Some true ∷ None ∷ []
unfolding place stored_all table_held
marks_page_of_address = refl

-- a page past the end of the set isn't marked
marks_none_past_the_set :
    marks_after true 0x2000 ≡ Some false ∷ Some false ∷ Some false ∷ Some false ∷ None ∷ []
unfolding place stored_all table_held
marks_none_past_the_set = refl

-- an address that isn't mapped: nothing is written, and nothing is marked
marks_none_without_a_place :
    marks_after true 0x1000 ≡ Some false ∷ Some false ∷ Some false ∷ Some false ∷ None ∷ []
unfolding place stored_all table_held
marks_none_without_a_place = refl
