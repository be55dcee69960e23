-- Pages as the bits of words: page p is bit p mod 64 of word p / 64.
use Rattle.std.specs.Prelude.{◌≡◌, ℕ, ◌<◌, ◌≤◌, ◌/◌, ◌%◌, Bool, if◌then◌else◌, nat_eq, List, map, length}
use Rattle.std.specs.Prelude.{slice_index}
use Rattle.std.specs.Int.{bit_at, div_ceil}
use Rattle.std.specs.List.{range_with_len}

-- the bit of page p, which is 0 past the words
unfoldable pub page_bit : List ℕ → (p : ℕ) → ℕ
page_bit words p = bit_at (slice_index words (p / 64)) (p % 64)

-- the bit of a mark: 1 if marked, 0 if clear
abbrev pub bit_of : Bool → ℕ
bit_of mark = if mark then 1 else 0

-- the marks of the first n pages
unfoldable pub marks_of : (n : ℕ) → List ℕ → List Bool
marks_of n words = map (λ p. nat_eq (page_bit words p) 1) (range_with_len 0 n)

-- there are exactly the words that n pages need, and no bit past the last page is set
pub record IsClean (n : ℕ) (words : List ℕ) : Type 0 where
  pub count : length words ≡ div_ceil n 64
  pub rest : (p : ℕ) → n ≤ p → page_bit words p ≡ 0

-- the bits of the pages from first up to end, excluded, are the mark, and all others are unchanged
pub record WritesRun (old new : List ℕ) (first end : ℕ) (mark : Bool) : Type 0 where
  pub inside : (p : ℕ) → first ≤ p → p < end → page_bit new p ≡ bit_of mark
  pub below : (p : ℕ) → p < first → page_bit new p ≡ page_bit old p
  pub above : (p : ℕ) → end ≤ p → page_bit new p ≡ page_bit old p

-- the bits of a word from `from` up to `to`, excluded, are the mark, and all others are unchanged
pub record WritesBits (old new from to : ℕ) (mark : Bool) : Type 0 where
  pub inside : (k : ℕ) → from ≤ k → k < to → bit_at new k ≡ bit_of mark
  pub below : (k : ℕ) → k < from → bit_at new k ≡ bit_at old k
  pub above : (k : ℕ) → to ≤ k → bit_at new k ≡ bit_at old k
