-- The callers' view of a bitmap that threads share, and of its passes.
use Rattle.std.specs.Prelude.{◌≡◌, ℕ, ◌+◌, ◌*◌, ◌<◌, ◌≤◌, ◌/◌, ◌%◌, min, max, Bool, true, false, not, List}
use Rattle.std.specs.Prelude.{length, replicate}
use Rattle.std.specs.Int.{bit_at}
use Rattle.atomic_table.specs.Seated.{TableId}
use Rattle.vm_bitmaps.specs.Pages.{marked_range, cleared_range, mark_of}
use Rattle.vm_bitmaps.specs.Words.{page_bit}
use Rattle.vm_atomic_bitmaps.specs.declared.counts.Tally.{Tally}
use Rattle.vm_atomic_bitmaps.specs.declared.counts.PageCounts.{PageCounts}
use Rattle.vm_atomic_bitmaps.specs.declared.ranges.PageChange.{PageChange}
use Rattle.vm_atomic_bitmaps.specs.declared.ranges.PageChange.TheVariants as change
use Rattle.vm_atomic_bitmaps.specs.Counts.{tally_of, after_mark, after_clearing, in_word, read_by, with_pages}
use Rattle.vm_atomic_bitmaps.specs.Counts.{IsWhole}
use Rattle.vm_atomic_bitmaps.specs.Steps.{Settles, SettlesWord}

-- a shared bitmap: its unique name, the bytes of a page, the bytes in all, and the number of pages
pub record SharedPages : Type 0 where
  pub name : TableId
  pub page_size : ℕ
  pub byte_size : ℕ
  pub len : ℕ

-- a pass: the name of its bitmap, and its counts
pub record Pass : Type 0 where
  pub name : TableId
  pub counts : PageCounts

-- the pass belongs to this bitmap: it has the bitmap's name, and a tally for each page
abbrev pub IsPassOf : SharedPages → Pass → Type 0
IsPassOf b p = (p.name ≡ b.name) × (length p.counts.pages ≡ b.len)

-- the same pass with other tallies
abbrev pub counting : Pass → List Tally → Pass
counting p pages = record { name = p.name; counts = with_pages p.counts pages }

-- the tally t of a page becomes u by a mark of the pass v, which found its bit 0 or 1. If v has every part, t
-- determines that bit
abbrev pub ByMark : (v : PageCounts) (p : ℕ) → Tally → Tally → Type 0
ByMark v p t u = (was : ℕ) × (was < 2) × (IsWhole v → Settles t was) × (u ≡ after_mark was t)

-- the tally t of a page becomes u by a gather or a clear of the pass v, which found its bit 0 or 1. If v has
-- every part, t determines that bit
abbrev pub ByClearing : (v : PageCounts) (p : ℕ) → Tally → Tally → Type 0
ByClearing v p t u = (was : ℕ) × (was < 2) × (IsWhole v → Settles t was) × (u ≡ after_clearing was t)

-- the tally of a page after this change, which found its bit `was`
abbrev pub after_change : PageChange → (was : ℕ) → Tally → Tally
after_change change.Mark = after_mark
after_change change.Clear = after_clearing

-- the tally t of a page becomes u by this change of the pass v: `ByMark` for a mark, `ByClearing` for a clear
abbrev pub ByChange : PageChange → (v : PageCounts) → (p : ℕ) → Tally → Tally → Type 0
ByChange change v p t u =
    (was : ℕ) × (was < 2) × (IsWhole v → Settles t was) × (u ≡ after_change change was t)

-- the tally t of page p becomes u by a gather, which found the page's bit of the words
abbrev pub ByGathering : List ℕ → (p : ℕ) → Tally → Tally → Type 0
ByGathering words p t u = u ≡ after_clearing (page_bit words p) t

-- the pass has loaded the word of page p, in which the page's bit is b
abbrev pub HasRead : (old new : Pass) (p b : ℕ) → Type 0
HasRead old new p b =
    (found : ℕ)
    × (new ≡ counting old (read_by (in_word (p / 64)) found old.counts.pages))
    × SettlesWord old.counts (p / 64) found
    × (bit_at found (p % 64) ≡ b)

-- the tallies of the pages with `hit` have changed by Change, and no others have
pub record Changes (Change : ℕ → Tally → Tally → Type 0) (hit : ℕ → Bool) (old new : List Tally) :
    Type 0 where
  pub count : length new ≡ length old
  pub changed : (p : ℕ) → p < length old → hit p ≡ true → Change p (tally_of old p) (tally_of new p)
  pub same : (p : ℕ) → hit p ≡ false → tally_of new p ≡ tally_of old p

-- the tallies of the pages from first up to end, excluded, have changed by Change, and no others have
pub record ChangesRun (Change : ℕ → Tally → Tally → Type 0) (old new : List Tally) (first end : ℕ) :
    Type 0 where
  pub count : length new ≡ length old
  pub inside : (p : ℕ) → first ≤ p → p < end → p < length old → Change p (tally_of old p) (tally_of new p)
  pub below : (p : ℕ) → p < first → tally_of new p ≡ tally_of old p
  pub above : (p : ℕ) → end ≤ p → tally_of new p ≡ tally_of old p

-- the tallies of the pages of one word from first to last have changed by Change, and no others have
abbrev pub ChangesInWord :
    (ℕ → Tally → Tally → Type 0) → (old new : List Tally) → (word first last : ℕ) → Type 0
ChangesInWord Change old new word first last =
    ChangesRun Change old new (max first (64 * word)) (min (last + 1) (64 * word + 64))

-- whether to mark n bytes from start on marks page p of a bitmap with len pages (`marked_range`)
abbrev pub marks_page : (size len start n p : ℕ) → Bool
marks_page size len start n p = mark_of (marked_range size (replicate len false) start n) p

-- whether to clear n bytes from start on clears page p of a bitmap with len pages (`cleared_range`)
abbrev pub clears_page : (size len start n p : ℕ) → Bool
clears_page size len start n p = not (mark_of (cleared_range size (replicate len true) start n) p)

-- whether this change of n bytes from start on changes page p of a bitmap with len pages
abbrev pub changes_page : PageChange → (size len start n p : ℕ) → Bool
changes_page change.Mark = marks_page
changes_page change.Clear = clears_page
