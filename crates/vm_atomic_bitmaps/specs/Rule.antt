-- The rule of a bitmap's words and all its passes. It holds between any two steps of any threads.
use Rattle.std.specs.Prelude.{◌≡◌, ◌↔◌, ℕ, ◌+◌, ◌-◌, ◌*◌, ◌^◌, ◌<◌, ◌≤◌, max, List, [], ◌∷◌, length}
use Rattle.std.specs.Int.{div_ceil}
use mathlib.Core.Option.{some}
use lib.ListN.{get_elem?}
use Rattle.atomic_table.specs.Table.{State}
use Rattle.vm_bitmaps.specs.Words.{page_bit, bit_of}
use Rattle.vm_atomic_bitmaps.specs.declared.counts.PageCounts.{PageCounts}
use Rattle.vm_atomic_bitmaps.specs.Counts.{tally_of}

-- the sum of f over the passes
abbrev pub total_by : (PageCounts → ℕ) → List PageCounts → ℕ
total_by f [] = 0
total_by f (v ∷ vs) = f v + total_by f vs

-- 1 if the pass marked page p
abbrev pub marks_at : (p : ℕ) → PageCounts → ℕ
marks_at p v = bit_of (tally_of v.pages p).marked

-- how often the pass found page p clear and set it
abbrev pub on_at : (p : ℕ) → PageCounts → ℕ
on_at p v = (tally_of v.pages p).on

-- how often the pass found page p set and cleared it
abbrev pub off_at : (p : ℕ) → PageCounts → ℕ
off_at p v = (tally_of v.pages p).off

-- the words and the counts of all passes agree about each page
pub record Counted (len : ℕ) (words : List ℕ) (views : List PageCounts) : Type 0 where
  -- no bit past the last page is set
  pub rest : (p : ℕ)
      → len ≤ p
      → page_bit words p ≡ 0
  -- a page was set as often as it was cleared, and once more if it is set now
  pub bits : (p : ℕ)
      → p < len
      → total_by (on_at p) views ≡ total_by (off_at p) views + page_bit words p
  -- some pass marked it exactly if some pass set it
  pub marks : (p : ℕ)
      → p < len
      → (0 < total_by (marks_at p) views) ↔ (0 < total_by (on_at p) views)
  -- no pass has `held` or `seen` above the number of times that all passes set or cleared the page
  pub bounded : (p : ℕ)
      → p < len
      → (id : ℕ) (v : PageCounts)
      → get_elem? views id ≡ some v
      → ((tally_of v.pages p).held ≤ total_by (on_at p) views)
      × ((tally_of v.pages p).seen ≤ total_by (off_at p) views)

-- a pass's part, parts / 2 ^ depth of the whole, as a number of units of 1 / 2 ^ k of the whole
abbrev pub weight : (k : ℕ) → PageCounts → ℕ
weight k v = v.parts * 2 ^ (k - v.depth)

-- the pass has marked, set and cleared nothing
abbrev pub IsIdle : PageCounts → Type 0
IsIdle v = (p : ℕ) → (marks_at p v ≡ 0) × (on_at p v ≡ 0) × (off_at p v ≡ 0)

-- the parts of all passes add up to the whole, and a pass with no part is idle
pub record AddUp (views : List PageCounts) : Type 0 where
  pub unit : ℕ
  pub fits : (id : ℕ) (v : PageCounts) → get_elem? views id ≡ some v → v.depth ≤ unit
  pub whole : total_by (weight unit) views ≡ 2 ^ unit
  pub idle : (id : ℕ) (v : PageCounts) → get_elem? views id ≡ some v → v.parts ≡ 0 → IsIdle v

-- no page is lost or invented: words and counts agree, and the parts of all passes add up to the whole
pub record PageAccount (len : ℕ) (words : List ℕ) (views : List PageCounts) : Type 0 where
  pub counted : Counted len words views
  pub shared : AddUp views

-- the number of words of a table for len pages: at least one, on which passes are split and joined
abbrev pub table_words : (len : ℕ) → ℕ
table_words len = max 1 (div_ceil len 64)

-- a table keeps the rule: it has the words for len pages, and they agree with the passes
abbrev pub KeepsRule : (len : ℕ) → State (Unit {0}) PageCounts → Type 0
KeepsRule len s = (length s.words ≡ table_words len) × PageAccount len s.words s.views

-- the rule holds of the words and of all passes, one of which is v
abbrev pub Stands : (len : ℕ) → List ℕ → PageCounts → Type 0
Stands len words v =
    (views : List PageCounts) × PageAccount len words views × ((id : ℕ) × (get_elem? views id ≡ some v))

-- at some moment the i-th word is `found`, and the rule holds of the words and of all passes, v among them
abbrev pub StandsAt : (len i found : ℕ) → PageCounts → Type 0
StandsAt len i found v = (words : List ℕ) × (get_elem? words i ≡ some found) × Stands len words v
