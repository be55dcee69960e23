-- What is marked since another pass took the page last.
use Rattle.std.proofs.Common.{◌≡◌, ◌≢◌, ℕ, ◌/◌, ◌%◌, ◌<◌, ◌≤◌, max, Bool, true, false, cond, List, length, sym, ap, ◌∙◌, subst, inl, inr}
use Rattle.std.proofs.Common.{arith}
use Rattle.std.specs.Int.{bit_at}
use Rattle.std.specs.List.{Contains}
use Rattle.std.proofs.lemmas.Bool.{cases_lt, ne_eqb}
use Rattle.vm_atomic_bitmaps.specs.declared.counts.Tally.{Tally}
use Rattle.vm_atomic_bitmaps.specs.declared.counts.PageCounts.{PageCounts}
use Rattle.vm_atomic_bitmaps.specs.Counts.{after_clearing, both_of, cleared_by, each_tally, in_word, joined_with, met_of, met_with}
use Rattle.vm_atomic_bitmaps.specs.Counts.{new_half, no_tally, tally_of}
use Rattle.vm_atomic_bitmaps.specs.Steps.{Settles}
use Rattle.vm_atomic_bitmaps.proofs.PassTotals.{at_each, at_past, length-each_tally}
use Rattle.vm_atomic_bitmaps.proofs.PassParts.{at_clear_of}
use Rattle.fs_shared.specs.Portion.{HasSeen, HasSeenItsOwn, IsMarkedSince, MarksPages}

-- what holds of a page's tally after a change of each: past the list nothing is counted
by_each : (P : Tally → Type 0) (f : ℕ → Tally → Tally) (ts : List Tally) (p : ℕ) → (p < length ts → P (f p (tally_of ts p))) → P no_tally →
    P (tally_of (each_tally f 0 ts) p)
by_each P f ts p within past = elim (cases_lt p (length ts)) [
  | inl below ↦ subst P (sym (at_each f ts p below)) (within below)
  | inr beyond ↦ let k = length-each_tally f 0 ts in subst P (sym (at_past (each_tally f 0 ts) p (omega arith))) past
]

pub own_first : (v : PageCounts) → HasSeenItsOwn (new_half v).pages
own_first v page = subst (λ (t : Tally). t.off ≤ t.seen) (sym (at_clear_of v.pages page)) (omega arith)

-- a clear is seen by who makes it
own_cleared :
    (t : Tally) (hit : Bool) (was : ℕ) → t.off ≤ t.seen → (cond hit (after_clearing was t) t).off ≤ (cond hit (after_clearing was t) t).seen
own_cleared t true was less = omega arith
own_cleared t false was less = less

pub own_gathers : (hit : ℕ → Bool) (found : ℕ) (ts : List Tally) → HasSeenItsOwn ts → HasSeenItsOwn (cleared_by hit found ts)
own_gathers hit found ts own page =
    by_each (λ (t : Tally). t.off ≤ t.seen) (λ p t. cond (hit p) (after_clearing (bit_at found (p % 64)) t) t) ts page
    (λ within. own_cleared (tally_of ts page) (hit page) (bit_at found (page % 64)) (own page))
    (omega arith)

pub own_takes_in : (us ts : List Tally) → ((p : ℕ) → (tally_of us p).off ≡ 0) → HasSeenItsOwn ts → HasSeenItsOwn (joined_with us ts)
own_takes_in us ts none own page =
    by_each (λ (t : Tally). t.off ≤ t.seen) (λ p t. both_of t (tally_of us p)) ts page
    (λ within. let n = none page in let o = own page in omega arith)
    (omega arith)

pub seen_by_meeting : (word : ℕ) (us ts : List Tally) → length us ≡ length ts → HasSeenItsOwn us → HasSeen word us (met_with us ts)
seen_by_meeting word us ts same own page here = elim (cases_lt page (length ts)) [
  | inl below ↦ subst (λ (t : Tally). (tally_of us page).off ≤ t.seen) (sym (at_each (λ p t. met_of t (tally_of us p)) ts page below))
      (let o = own page in omega arith)
  | inr beyond ↦ let none : (tally_of us page).off ≡ 0 = ap (λ (t : Tally). t.off) (at_past us page (omega arith)) in omega arith
]

pub seen_stays : (word : ℕ) (taken : List Tally) (pages : List ℕ) (old new : List Tally) → MarksPages pages old new →
    HasSeen word taken old → HasSeen word taken new
seen_stays word taken pages old new m seen page here = let s = m.seen page in let k = seen page here in omega arith

-- what a share marks once it has seen what the other took is marked since
pub since_by_mark :
    (word : ℕ) (taken : List Tally) (pages : List ℕ) (old new : List Tally) → MarksPages pages old new → HasSeen word taken old
    → (page : ℕ) → page / 64 ≡ word → page < length old → Contains pages page → IsMarkedSince taken new page
since_by_mark word taken pages old new m seen page here within is_marked =
    let s = m.seen page in let k = seen page here in let ahead = (m.marked page within is_marked).1 in omega arith

pub since_stays : (taken : List Tally) (pages : List ℕ) (old new : List Tally) → MarksPages pages old new → (page : ℕ) →
    IsMarkedSince taken old page → IsMarkedSince taken new page
since_stays taken pages old new m page since = let h = m.held page in omega arith

pub since_by_joining : (taken us ts : List Tally) (page : ℕ) → page < length ts →
    (tally_of taken page).off < max (tally_of ts page).held (tally_of us page).held → IsMarkedSince taken (joined_with us ts) page
since_by_joining taken us ts page within either =
    subst (λ (t : Tally). (tally_of taken page).off < t.held) (sym (at_each (λ p t. both_of t (tally_of us p)) ts page within)) either

pub since_by_meeting :
    (taken us ts : List Tally) (page : ℕ) → page < length ts → IsMarkedSince taken ts page → IsMarkedSince taken (met_with us ts) page
since_by_meeting taken us ts page within since =
    subst (λ (t : Tally). (tally_of taken page).off < t.held) (sym (at_each (λ p t. met_of t (tally_of us p)) ts page within)) (omega arith)

-- a gather of another word takes none of this page
pub taken_else : (word found : ℕ) (taken : List Tally) (page : ℕ) → page / 64 ≢ word →
    (tally_of (cleared_by (in_word word) found taken) page).off ≡ (tally_of taken page).off
taken_else word found taken page away = elim (cases_lt page (length taken)) [
  | inl below ↦
      ap (λ (t : Tally). t.off) (at_each (λ p t. cond (in_word word p) (after_clearing (bit_at found (p % 64)) t) t) taken page below)
      ∙ ap (λ (b : Bool). (cond b (after_clearing (bit_at found (page % 64)) (tally_of taken page)) (tally_of taken page)).off)
      (ne_eqb (page / 64) word away)
  | inr beyond ↦
      let k = length-each_tally (λ p t. cond (in_word word p) (after_clearing (bit_at found (p % 64)) t) t) 0 taken in
      ap (λ (t : Tally). t.off) (at_past (cleared_by (in_word word) found taken) page (omega arith) ∙ sym (at_past taken page beyond))
]

-- a page that was marked since is set, by the counts of both passes
pub is_set : (taken marks : List Tally) (page bit : ℕ) → page < length taken → Settles (tally_of (joined_with marks taken) page) bit
    → (tally_of marks page).off ≡ 0 → bit < 2
    → IsMarkedSince taken marks page → bit ≡ 1
is_set taken marks page bit within settles none small since =
    let both = subst (λ (t : Tally). Settles t bit) (at_each (λ p t. both_of t (tally_of marks p)) taken page within) settles in
    let sums = both.0 in let known = both.2 in omega arith
