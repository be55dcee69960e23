-- Summary words, with a set bit for each word that isn't 0, and the search for the next set bit of a page.
use Rattle.std.specs.Prelude.{◌≡◌, ℕ, ◌<◌, ◌≤◌, nat_lt, List, length, Option, Some, None, slice_index}
use Rattle.std.specs.Int.{div_ceil}
use Rattle.vm_bitmaps.specs.Words.{page_bit, bit_of}

-- bit w mod 64 of summary word w / 64 is 1 exactly if word w isn't 0
abbrev pub Summarizes : (words summary : List ℕ) → (w : ℕ) → Type 0
Summarizes words summary w = page_bit summary w ≡ bit_of (nat_lt 0 (slice_index words w))

-- the summary has exactly the words needed for a bit a word, and each bit is 1 exactly if its word isn't 0
pub record IsSummary (words summary : List ℕ) : Type 0 where
  pub count : length summary ≡ div_ceil (length words) 64
  pub reports : (w : ℕ) → Summarizes words summary w

-- the option is the first page from `from` up to `end`, excluded, whose bit is set, or None if there is none
abbrev pub IsFirstSet : List ℕ → (from end : ℕ) → Option ℕ → Type 0
IsFirstSet words from end None = (p : ℕ) → from ≤ p → p < end → page_bit words p ≡ 0
IsFirstSet words from end (Some p) =
    (from ≤ p) × (p < end) × (page_bit words p ≡ 1) × ((q : ℕ) → from ≤ q → q < p → page_bit words q ≡ 0)

-- the option is the first page from `from` on whose bit is set, or None if there is none
abbrev pub IsNextSet : List ℕ → (from : ℕ) → Option ℕ → Type 0
IsNextSet words from None = (p : ℕ) → from ≤ p → page_bit words p ≡ 0
IsNextSet words from (Some p) =
    (from ≤ p) × (page_bit words p ≡ 1) × ((q : ℕ) → from ≤ q → q < p → page_bit words q ≡ 0)
