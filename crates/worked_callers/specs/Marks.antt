-- Two threads that mark pages of one bitmap and gather its marks.
use Rattle.std.specs.Prelude.{◌≡◌, ◌↔◌, ℕ, ◌+◌, ◌*◌, ◌^◌, ◌<◌, ◌≤◌, true, ◌||◌, List}
use Rattle.vm_bitmaps.specs.Words.{page_bit}
use Rattle.vm_atomic_bitmaps.specs.declared.counts.PageCounts.{PageCounts}
use Rattle.vm_atomic_bitmaps.specs.Counts.{both_of, no_tally, tally_of}
use Rattle.vm_atomic_bitmaps.specs.Steps.{Settles}
use Rattle.vm_atomic_bitmaps.specs.Passes.{IsPassOf, Pass, SharedPages, marks_page}
use Rattle.worked_callers.specs.declared.marks.ByteRange.{ByteRange}

-- each page below len was gathered by one of two threads or is left exactly if one of the ranges has it
abbrev pub AreMarked :
    (size len : ℕ) → (one other : ByteRange) → (gathered also_gathered left : List ℕ) → Type 0
AreMarked size len one other gathered also_gathered left = (p : ℕ) → p < len →
    (0 < page_bit gathered p + page_bit also_gathered p + page_bit left p)
    ↔ (marks_page size len one.start one.len p || marks_page size len other.start other.len p ≡ true)

-- a pass has half of all parts
abbrev pub HasHalf : PageCounts → Type 0
HasHalf v = 2 * v.parts ≡ 2 ^ v.depth

-- it has half of all parts, and has counted nothing
abbrev pub IsFreshHalf : PageCounts → Type 0
IsFreshHalf v = (v.parts ≡ 1) × (v.depth ≡ 1) × ((p : ℕ) → tally_of v.pages p ≡ no_tally)

-- the joined tallies of two passes determine the bits of the words of len pages
abbrev pub SettleTogether : (first second : PageCounts) → (len : ℕ) → (words : List ℕ) → Type 0
SettleTogether v w len words =
    (p : ℕ) → p < len → Settles (both_of (tally_of v.pages p) (tally_of w.pages p)) (page_bit words p)

-- the pass has half of all parts. By its tallies it marked exactly the pages of the range, and cleared
-- exactly those of the words, each page since the last mark that it has seen
pub record HasWorked (bitmap : SharedPages) (range : ByteRange) (pass : Pass) (words : List ℕ) : Type 0 where
  pub own : IsPassOf bitmap pass
  pub half : HasHalf pass.counts
  pub marked : (p : ℕ)
      → p < bitmap.len
      → (tally_of pass.counts.pages p).marked ≡ marks_page bitmap.page_size bitmap.len range.start range.len p
  pub off : (p : ℕ) → p < bitmap.len → (tally_of pass.counts.pages p).off ≡ page_bit words p
  pub taken : (p : ℕ)
      → p < bitmap.len
      → (tally_of pass.counts.pages p).held ≤ (tally_of pass.counts.pages p).seen
