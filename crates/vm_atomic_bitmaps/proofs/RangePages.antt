-- The pages that bytes lie in are those that the exact bitmap marks, and clears, for them.
use Rattle.std.proofs.Common.{◌≡◌, ◌⊎◌, ℕ, zero, ◌+◌, ◌-◌, ◌/◌, ◌^◌, ◌<◌, ◌≤◌, Bool, true, false, cond, not, ltb, List, length, get_or}
use Rattle.std.proofs.Common.{replicate, map, refl, sym, ap}
use Rattle.std.proofs.Common.{◌∙◌, inl, inr, ⊎_elim, min, arith}
use Rattle.std.specs.List.{range_with_len}
use Rattle.std.proofs.lemmas.Bool.{cases_lt, lt-ltb, le-ltb, true≢false}
use Rattle.std.proofs.lemmas.List.{length-replicate, get_or-replicate}
use Rattle.std.proofs.lemmas.List.FromFn.{length-map-range_with_len, get_or-map-range_with_len}
use Rattle.std.proofs.lemmas.Option.{unwrap_or-slice_get}
use Rattle.vm_bitmaps.specs.Pages.{mark_of, marked_range, cleared_range}
use Rattle.vm_bitmaps.proofs.Marks.{written_range, marked_range-is, cleared_range-is, run_is}
use Rattle.vm_atomic_bitmaps.specs.declared.counts.Tally.{Tally}
use Rattle.vm_atomic_bitmaps.specs.declared.ranges.PageChange.{PageChange}
use Rattle.vm_atomic_bitmaps.specs.declared.ranges.PageChange.TheVariants as change
use Rattle.vm_atomic_bitmaps.specs.Passes.{Changes, ChangesRun, marks_page, clears_page, changes_page}
use Rattle.vm_atomic_bitmaps.proofs.PassTotals.{at_past}

-- whether page p lies between two pages
abbrev pub is_between : (first last p : ℕ) → Bool
is_between first last p = cond (ltb p first) false (cond (ltb last p) false true)

pub between-true : (first last p : ℕ) → is_between first last p ≡ true → (first ≤ p) × (p ≤ last)
between-true first last p e = elim (cases_lt p first) [
  | inl low ↦ absurd (true≢false (sym e ∙ ap (λ (b : Bool). cond b false (cond (ltb last p) false true)) (lt-ltb p first low)))
  | inr from ↦ elim (cases_lt last p) [
    | inl high ↦ absurd (true≢false (sym e ∙ ap (λ (b : Bool). cond b false (cond (ltb last p) false true)) (le-ltb p first from)
        ∙ ap (λ (b : Bool). cond b false true) (lt-ltb last p high)))
    | inr to ↦ (from, to)
  ]
]

pub between-is : (first last p : ℕ) → first ≤ p → p ≤ last → is_between first last p ≡ true
between-is first last p from to = ap (λ (b : Bool). cond b false (cond (ltb last p) false true)) (le-ltb p first from)
    ∙ ap (λ (b : Bool). cond b false true) (le-ltb last p to)

pub between-not : (first last p : ℕ) → (p < first) ⊎ (last < p) → is_between first last p ≡ false
between-not first last p out = elim (cases_lt p first) [
  | inl low ↦ ap (λ (b : Bool). cond b false (cond (ltb last p) false true)) (lt-ltb p first low)
  | inr from ↦ let high : last < p = ⊎_elim (λ (l : p < first). absurd (omega arith)) (λ (h : last < p). h) out in
      ap (λ (b : Bool). cond b false (cond (ltb last p) false true)) (le-ltb p first from)
      ∙ ap (λ (b : Bool). cond b false true) (lt-ltb last p high)
]

pub between-false : (first last p : ℕ) → is_between first last p ≡ false → (p < first) ⊎ (last < p)
between-false first last p e = elim (cases_lt p first) [
  | inl low ↦ inl low
  | inr from ↦ elim (cases_lt last p) [
    | inl high ↦ inr high
    | inr to ↦ absurd (true≢false (sym (between-is first last p from to) ∙ e))
  ]
]

-- bytes written over pages that are all the other way
written_page : (v : Bool) (s len o n p : ℕ) → 0 < s → 0 < n → o < 2 ^ 64 → p < len
    → mark_of (written_range v (2 ^ 64) s (replicate len (not v)) o n) p
    ≡ cond (is_between (o / s) ((min (o + n) (2 ^ 64) - 1) / s) p) v (not v)
written_page v s len o n p some_size some fits within =
    unwrap_or-slice_get (written_range v (2 ^ 64) s (replicate len (not v)) o n) p false ∙ sym (ap (λ (l : List Bool). get_or l p false) is)
    ∙ here p within
  where
    last : ℕ
    last = (min (o + n) (2 ^ 64) - 1) / s

    page : ℕ → Bool
    page q = cond (is_between (o / s) ((min (o + n) (2 ^ 64) - 1) / s) q) v (not v)

    here : (q : ℕ) → q < len → get_or (map page (range_with_len 0 len)) q false ≡ page q
    here q l = get_or-map-range_with_len page 0 len q q false l (omega arith)

    before : (q : ℕ) → q < len → get_or (replicate len (not v)) q false ≡ not v
    before q l = get_or-replicate len q (not v) false l

    long : length (replicate len (not v)) ≡ len
    long = length-replicate len (not v)

    is : map page (range_with_len 0 len) ≡ written_range v (2 ^ 64) s (replicate len (not v)) o n
    is = let k = long in
        run_is v (2 ^ 64) s (replicate len (not v)) (map page (range_with_len 0 len)) o n (min (o + n) (2 ^ 64) - 1) some_size (omega arith)
        (omega arith) (omega arith)
        (λ b x y. omega arith) (length-map-range_with_len page 0 len ∙ sym long)
        (λ q l from to. here q (omega arith) ∙ ap (λ (b : Bool). cond b v (not v)) (between-is (o / s) last q from to))
        (λ q l low. here q (omega arith) ∙ ap (λ (b : Bool). cond b v (not v)) (between-not (o / s) last q (inl low))
        ∙ sym (before q (omega arith)))
        (λ q l high. here q (omega arith) ∙ ap (λ (b : Bool). cond b v (not v)) (between-not (o / s) last q (inr high))
        ∙ sym (before q (omega arith)))

as_it_is : (b : Bool) → cond b true false ≡ b
as_it_is true = refl
as_it_is false = refl

turned_twice : (b : Bool) → not (cond b false true) ≡ b
turned_twice true = refl
turned_twice false = refl

all_the_same : (v : Bool) (len p : ℕ) → p < len → mark_of (replicate len v) p ≡ v
all_the_same v len p l = unwrap_or-slice_get (replicate len v) p false ∙ get_or-replicate len p v false l

marks_page-is : (s len o n p : ℕ) → 0 < s → 0 < n → o < 2 ^ 64 → p < len →
    marks_page s len o n p ≡ is_between (o / s) ((min (o + n) (2 ^ 64) - 1) / s) p
marks_page-is s len o n p some_size some fits within =
    ap (λ (l : List Bool). mark_of l p) (marked_range-is n s (replicate len false) o)
    ∙ written_page true s len o n p some_size some fits within
    ∙ as_it_is (is_between (o / s) ((min (o + n) (2 ^ 64) - 1) / s) p)

clears_page-is : (s len o n p : ℕ) → 0 < s → 0 < n → o < 2 ^ 64 → p < len →
    clears_page s len o n p ≡ is_between (o / s) ((min (o + n) (2 ^ 64) - 1) / s) p
clears_page-is s len o n p some_size some fits within =
    ap (λ (l : List Bool). not (mark_of l p)) (cleared_range-is n s (replicate len true) o)
    ∙ ap not (written_page false s len o n p some_size some fits within)
    ∙ turned_twice (is_between (o / s) ((min (o + n) (2 ^ 64) - 1) / s) p)

-- no bytes lie in no page
marks_page-none : (s len o p : ℕ) → p < len → marks_page s len o zero p ≡ false
unfolding marked_range
marks_page-none s len o p within = all_the_same false len p within

clears_page-none : (s len o p : ℕ) → p < len → clears_page s len o zero p ≡ false
unfolding cleared_range
clears_page-none s len o p within = ap not (all_the_same true len p within)

pub changes_page-is : (change : PageChange) (s len o n p : ℕ) → 0 < s → 0 < n → o < 2 ^ 64 → p < len →
    changes_page change s len o n p ≡ is_between (o / s) ((min (o + n) (2 ^ 64) - 1) / s) p
changes_page-is change.Mark = marks_page-is
changes_page-is change.Clear = clears_page-is

pub changes_page-none : (change : PageChange) (s len o p : ℕ) → p < len → changes_page change s len o zero p ≡ false
changes_page-none change.Mark = marks_page-none
changes_page-none change.Clear = clears_page-none

-- a run of pages, where just those of it are hit
pub range_changes :
    (Change : ℕ → Tally → Tally → Type 0) (hit : ℕ → Bool) (old new : List Tally) (first far last : ℕ) → last ≡ min far (length old - 1)
    → ((p : ℕ) → p < length old → hit p ≡ is_between first far p) → ChangesRun Change old new first (last + 1) → Changes Change hit old new
range_changes Change hit old new first far last is hits r = record {
  count = r.count;
  changed = λ p within h.
      let between = between-true first far p (sym (hits p within) ∙ h) in
      let to = between.1 in
      r.inside p between.0 (omega arith) within;
  same = λ p h. elim (cases_lt p (length old)) [
    | inl within ↦ ⊎_elim (λ (low : p < first). r.below p low) (λ (high : far < p). r.above p (omega arith))
        (between-false first far p (sym (hits p within) ∙ h))
    | inr past ↦ let k = r.count in at_past new p (omega arith) ∙ sym (at_past old p past)
  ];
}

-- no page is hit
pub no_changes : (Change : ℕ → Tally → Tally → Type 0) (hit : ℕ → Bool) (pages : List Tally) →
    ((p : ℕ) → p < length pages → hit p ≡ false) → Changes Change hit pages pages
no_changes Change hit pages none = record {
  count = refl;
  changed = λ p within h. absurd (true≢false (sym h ∙ none p within));
  same = λ p h. refl;
}
