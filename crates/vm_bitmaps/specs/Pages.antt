-- The dirty pages of a range of bytes: a truth value for each page (vm-memory, bitmap).
use Rattle.std.specs.Prelude.{◌≡◌, ℕ, zero, suc, ◌+◌, ◌*◌, ◌/◌, ◌^◌, ◌<◌, ◌≤◌, Bool, true, false, nat_lt}
use Rattle.std.specs.Prelude.{if◌then◌else◌}
use Rattle.std.specs.Prelude.{List, length, map, replicate, Option, Some, None, slice_set, slice_get}
use Rattle.std.specs.Prelude.{unwrap_or}
use Rattle.std.specs.Int.{div_ceil}
use Rattle.std.specs.List.{range_with_len}

-- the pages of byte_size bytes with a mark for each. A page has page_size bytes; the last one may have fewer
pub record PageSet : Type 0 where
  pub page_size : ℕ
  pub byte_size : ℕ
  pub marks : List Bool

-- the number of pages of n bytes
abbrev pub pages_of : (size : ℕ) → (n : ℕ) → ℕ
pages_of size n = div_ceil n size

-- the marks of the pages of n bytes, all clear
abbrev pub clear_pages : (size : ℕ) → (n : ℕ) → List Bool
clear_pages size n = replicate (pages_of size n) false

-- n bytes in pages of size bytes, all marks clear
abbrev pub clear_set : (size : ℕ) → (n : ℕ) → PageSet
clear_set size n = record { page_size = size; byte_size = n; marks = clear_pages size n }

-- the marks after the page of one byte is marked. Offsets from 2^64 on and pages past the end are ignored
abbrev pub marked_at : (size : ℕ) → List Bool → (offset : ℕ) → List Bool
marked_at size marks offset = if nat_lt offset (2 ^ 64) then slice_set marks (offset / size) true else marks

-- the marks after the pages of n bytes from offset on are marked, byte by byte
unfoldable pub marked_range : (size : ℕ) → List Bool → (offset n : ℕ) → List Bool
marked_range size marks offset zero = marks
marked_range size marks offset (suc n) = marked_range size (marked_at size marks offset) (offset + 1) n

-- the marks after the page of one byte is cleared. Offsets from 2^64 on and pages past the end are ignored
abbrev pub cleared_at : (size : ℕ) → List Bool → (offset : ℕ) → List Bool
cleared_at size marks offset = if nat_lt offset (2 ^ 64) then slice_set marks (offset / size) false else marks

-- the marks after the pages of n bytes from offset on are cleared, byte by byte
unfoldable pub cleared_range : (size : ℕ) → List Bool → (offset n : ℕ) → List Bool
cleared_range size marks offset zero = marks
cleared_range size marks offset (suc n) = cleared_range size (cleared_at size marks offset) (offset + 1) n

-- whether page p is marked; a page past the end isn't
abbrev pub mark_of : List Bool → (p : ℕ) → Bool
mark_of marks p = unwrap_or (slice_get marks p) false

-- the option is the first marked page from page `from` on, or None if no page from there on is marked
abbrev pub IsNextMarked : List Bool → (from : ℕ) → Option ℕ → Type 0
IsNextMarked marks from None = (p : ℕ) → from ≤ p → mark_of marks p ≡ false
IsNextMarked marks from (Some p) =
    (from ≤ p) × (mark_of marks p ≡ true) × ((q : ℕ) → from ≤ q → q < p → mark_of marks q ≡ false)

-- whether the page of the byte at offset is marked; from 2^64 on there is no byte
abbrev pub is_marked : (size : ℕ) → List Bool → (offset : ℕ) → Bool
is_marked size marks offset =
    if nat_lt offset (2 ^ 64) then unwrap_or (slice_get marks (offset / size)) false else false

-- the number of k bits whose bit j is the mark of page first + j
unfoldable pub word_from : List Bool → (first k : ℕ) → ℕ
word_from marks first zero = 0
word_from marks first (suc k) = (if mark_of marks (first + k) then 1 else 0) * 2 ^ k + word_from marks first k

-- the marks as words of 64 bits. Bit k of word i is the mark of page 64 * i + k; past the last page it is 0
abbrev pub words_of : List Bool → List ℕ
words_of marks = map (λ i. word_from marks (64 * i) 64) (range_with_len 0 (div_ceil (length marks) 64))
