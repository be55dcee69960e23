-- what a share marked is set in the words that were gathered last, or the harvest took it before
use Rattle.std.proofs.Common.{◌≡◌, ◌⊎◌, ℕ, ◌+◌, ◌*◌, ◌<◌, ◌≤◌, ◌/◌, ◌%◌, Bool, true, false, cond, List, length, set, refl, ap, ◌∙◌, subst}
use Rattle.std.proofs.Common.{inl, inr, arith}
use Rattle.std.proofs.lemmas.Bool.{cases_lt}
use Rattle.std.proofs.lemmas.Nat.Bits.{bit_at-lt, bit_at-zero}
use Rattle.std.proofs.Math.ListN.{get_or-eq_default}
use Rattle.std.specs.Int.{bit_at}
use Rattle.std.specs.Prelude.{slice_index}
use Rattle.vm_bitmaps.specs.Words.{page_bit}
use Rattle.vm_atomic_bitmaps.specs.declared.counts.Tally.{Tally}
use Rattle.vm_atomic_bitmaps.specs.Counts.{both_of, joined_with, tally_of}
use Rattle.vm_atomic_bitmaps.specs.Passes.{Pass}
use Rattle.vm_atomic_bitmaps.specs.Steps.{Settles}
use Rattle.vm_atomic_bitmaps.proofs.AllowedSteps.{bit_else, bit_here}
use Rattle.vm_atomic_bitmaps.proofs.PassTotals.{at_each}
use Rattle.fs_shared.specs.Marks.{Harvest, IsSetOrTaken}

pub either_marked : (b : Bool) → cond b true true ≡ true
either_marked true = refl
either_marked false = refl

pub bit_below : (words : List ℕ) (p : ℕ) → page_bit words p < 2
unfolding page_bit
bit_below words p = bit_at-lt (slice_index words (p / 64)) (p % 64)

-- a page that was set once more than it was cleared in all
set_or_taken : (taken none bit on : ℕ) → 0 < on → on ≡ taken + none + bit → none ≡ 0 → bit < 2 → (bit ≡ 1) ⊎ (0 < taken)
set_or_taken taken none bit on some settled zero below = elim (cases_lt 0 taken) [
  | inl more ↦ inr more
  | inr never ↦ inl (omega arith)
]

pub accounts_for : (h : Harvest) (share : Pass) (words : List ℕ) (page : ℕ) → page < length h.pass.counts.pages
    → Settles (tally_of (joined_with share.counts.pages h.pass.counts.pages) page) (page_bit words page)
    → (tally_of share.counts.pages page).marked ≡ true → (tally_of share.counts.pages page).off ≡ 0 → IsSetOrTaken words h page
accounts_for h share words page within settles marked none =
    let mine = tally_of h.pass.counts.pages page in
    let theirs = tally_of share.counts.pages page in
    let both = subst (λ (t : Tally). Settles t (page_bit words page))
    (at_each (λ p t. both_of t (tally_of share.counts.pages p)) h.pass.counts.pages page within) settles in
    let is_marked : cond mine.marked true theirs.marked ≡ true =
    ap (λ (b : Bool). cond mine.marked true b) marked ∙ either_marked mine.marked in
    set_or_taken mine.off theirs.off (page_bit words page) (mine.on + theirs.on) (both.1.0 is_marked) both.0 none (bit_below words page)

-- a page past the words is clear
pub none_past : (words : List ℕ) (p : ℕ) → length words ≤ p / 64 → page_bit words p ≡ 0
unfolding page_bit
none_past words p beyond = ap (λ (n : ℕ). bit_at n (p % 64)) (get_or-eq_default words 0 beyond) ∙ bit_at-zero (p % 64)

-- so is each page past the last one, in the words so far and the one that is written next
pub past_more : (words : List ℕ) (w bits len : ℕ) → w < length words → ((q : ℕ) → len ≤ q → q / 64 ≡ w → bit_at bits (q % 64) ≡ 0)
    → ((q : ℕ) → len ≤ q → q < 64 * w → page_bit words q ≡ 0) → (p : ℕ) → len ≤ p → p < 64 * w + 64 → page_bit (set words w bits) p ≡ 0
past_more words w bits len inside here before p beyond low = elim (cases_lt p (64 * w)) [
  | inl less ↦ bit_else words w bits p (λ e. absurd (omega arith)) ∙ before p beyond less
  | inr more ↦
      let word : p / 64 ≡ w = omega arith in
      bit_here words w bits p inside word ∙ here p beyond word
]
