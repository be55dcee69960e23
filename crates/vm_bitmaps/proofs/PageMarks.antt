-- the marks that words stand for
use Rattle.std.proofs.Common.{◌≡◌, ℕ, ◌+◌, ◌-◌, ◌*◌, ◌/◌, ◌%◌, ◌^◌, ◌<◌, ◌≤◌, inl, inr, Bool, true, false, cond, eqb, List, length, get_or}
use Rattle.std.proofs.Common.{replicate, refl, ap, sym}
use Rattle.std.proofs.Common.{◌∙◌, arith, zero, suc, min, bit_and, subst}
use Rattle.std.specs.Int.{bit_at, div_ceil}
use Rattle.std.proofs.lemmas.List.{ext_get_or, length-replicate, get_or-replicate, get_or_past, get_or_read}
use Rattle.std.proofs.lemmas.List.FromFn.{length-map-range_with_len, get_or-map-range_with_len}
use Rattle.std.proofs.lemmas.Option.{unwrap_or-slice_get}
use Rattle.std.proofs.lemmas.Nat.{pow-add}
use Rattle.std.proofs.lemmas.Nat.Bits.{bit_at-zero, bit_at-lt, bit_at_cat_low, bit_at_cat_high, shr_and_one, same_from_bits_below}
use Rattle.std.proofs.lemmas.Bool.{cases_lt, cases_eq, eq-eqb, ne_eqb}
use Rattle.vm_bitmaps.specs.Pages.{PageSet, pages_of, clear_pages, marked_range, cleared_range, mark_of, word_from, words_of}
use Rattle.vm_bitmaps.specs.Words.{page_bit, bit_of, marks_of, IsClean, WritesRun}
use Rattle.vm_bitmaps.proofs.Marks.{written_range, run_is, range_beyond, chosen_range-is}

pub length-marks_of : (n : ℕ) (words : List ℕ) → length (marks_of n words) ≡ n
unfolding marks_of
length-marks_of n words = length-map-range_with_len (λ p. eqb (page_bit words p) 1) 0 n

pub get_or-marks_of : (n : ℕ) (words : List ℕ) (p : ℕ) (d : Bool) → p < n → get_or (marks_of n words) p d ≡ eqb (page_bit words p) 1
unfolding marks_of
get_or-marks_of n words p d h = get_or-map-range_with_len (λ q. eqb (page_bit words q) 1) 0 n p p d h (omega arith)

-- a page's mark is its bit
pub mark_of-marks_of : (n : ℕ) (words : List ℕ) (p : ℕ) → IsClean n words → mark_of (marks_of n words) p ≡ eqb (page_bit words p) 1
mark_of-marks_of n words p clean =
    let count = length-marks_of n words in
    unwrap_or-slice_get (marks_of n words) p false ∙
    elim (cases_lt p n) [
      | inl l ↦ get_or-marks_of n words p false l
      | inr g ↦
          let none : page_bit words p ≡ 0 = clean.rest p g in
          get_or_past (marks_of n words) p false (omega arith) ∙ sym (ap (λ b. eqb b 1) none)
    ]

-- what the code reads
pub bit_read : (words : List ℕ) (p word : ℕ) → p / 64 < length words → word ≡ get_or words (p / 64) word →
    eqb (bit_and (word / 2 ^ (p % 64)) 1) 1 ≡ eqb (page_bit words p) 1
unfolding page_bit
bit_read words p word l e =
    ap (λ b. eqb b 1) (shr_and_one word (p % 64) ∙ ap (λ w. bit_at w (p % 64)) (get_or_read words (p / 64) word l e 0))

-- a mark read back from its bit
pub eqb-bit_of : (mark : Bool) → eqb (bit_of mark) 1 ≡ mark
eqb-bit_of true = refl
eqb-bit_of false = refl

bit_of-eqb : (b : ℕ) → b < 2 → bit_of (eqb b 1) ≡ b
bit_of-eqb b l = elim (cases_eq b 1) [
  | inl one ↦ ap bit_of (eq-eqb b 1 one) ∙ sym one
  | inr other ↦ let none : b ≡ 0 = omega arith in ap bit_of (ne_eqb b 1 other) ∙ sym none
]

page_bit-lt : (words : List ℕ) (p : ℕ) → page_bit words p < 2
unfolding page_bit
page_bit-lt words p = bit_at-lt (get_or words (p / 64) 0) (p % 64)

pub page_bit-is : (n : ℕ) (words : List ℕ) (p : ℕ) → IsClean n words → page_bit words p ≡ bit_of (mark_of (marks_of n words) p)
page_bit-is n words p clean = sym (ap bit_of (mark_of-marks_of n words p clean) ∙ bit_of-eqb (page_bit words p) (page_bit-lt words p))

-- the marks after a run of pages is written
pub run_words : (v : Bool) (top s n o c last : ℕ) (old new : List ℕ) → 0 < s → 0 < c → o < top → o / s < n →
    last ≡ min ((min (o + c) top - 1) / s) (n - 1) → WritesRun old new (o / s) (last + 1) v →
    marks_of n new ≡ written_range v top s (marks_of n old) o c
run_words v top s n o c last old new h some below has e run =
    let before = length-marks_of n old in
    let now = length-marks_of n new in
    run_is v top s (marks_of n old) (marks_of n new) o c (min (o + c) top - 1) h (omega arith) (omega arith) (omega arith)
    (λ b l t. omega arith) (omega arith)
    (λ p l from to. get_or-marks_of n new p false (omega arith) ∙ ap (λ b. eqb b 1) (run.inside p from (omega arith)) ∙ eqb-bit_of v)
    (λ p l low. get_or-marks_of n new p false (omega arith) ∙ ap (λ b. eqb b 1) (run.below p low)
    ∙ sym (get_or-marks_of n old p false (omega arith)))
    (λ p l high. get_or-marks_of n new p false (omega arith) ∙ ap (λ b. eqb b 1) (run.above p (omega arith))
    ∙ sym (get_or-marks_of n old p false (omega arith)))

-- words of zeros
pub get_or-zeros : (k i : ℕ) → get_or {A = ℕ} (replicate k 0) i 0 ≡ 0
get_or-zeros k i = elim (cases_lt i k) [
  | inl l ↦ get_or-replicate k i 0 0 l
  | inr g ↦ get_or_past (replicate k 0) i 0 (omega (arith, length-replicate {A = ℕ} k 0))
]

pub page_bit-zeros : (k p : ℕ) → page_bit (replicate k 0) p ≡ 0
unfolding page_bit
page_bit-zeros k p = ap (λ w. bit_at w (p % 64)) (get_or-zeros k (p / 64)) ∙ bit_at-zero (p % 64)

pub marks_of-zeros : (n k : ℕ) → marks_of n (replicate k 0) ≡ replicate n false
marks_of-zeros n k =
    let count = length-marks_of n (replicate k 0) in
    let clear = length-replicate n false in
    ext_get_or false (marks_of n (replicate k 0)) (replicate n false) (omega arith) (λ p l.
    get_or-marks_of n (replicate k 0) p false (omega arith) ∙ ap (λ b. eqb b 1) (page_bit-zeros k p)
    ∙ sym (get_or-replicate n p false false (omega arith)))

pub clean_zeros : (n k : ℕ) → k ≡ div_ceil n 64 → IsClean n (replicate k 0)
clean_zeros n k e = record {
  count = length-replicate k 0 ∙ e;
  rest = λ p g. page_bit-zeros k p;
}

bit_at-bit_of : (mark : Bool) → bit_at (bit_of mark) 0 ≡ bit_of mark
bit_at-bit_of true = refl
bit_at-bit_of false = refl

times_bit : (mark : Bool) (n : ℕ) → bit_of mark * n ≤ n
times_bit true n = omega arith
times_bit false n = omega arith

word_from-lt : (marks : List Bool) (first k : ℕ) → word_from marks first k < 2 ^ k
unfolding word_from
word_from-lt marks first zero = omega arith
word_from-lt marks first (suc k) =
    let rest = word_from-lt marks first k in
    let next : suc k ≡ 1 + k = omega arith in
    let double : 2 ^ suc k ≡ 2 * 2 ^ k = ap (λ m. 2 ^ m) next ∙ pow-add 2 1 k in
    let top = times_bit (mark_of marks (first + k)) (2 ^ k) in
    omega arith

bit_at-word_from : (marks : List Bool) (first k j : ℕ) → j < k → bit_at (word_from marks first k) j ≡ bit_of (mark_of marks (first + j))
unfolding word_from
bit_at-word_from marks first zero j l = absurd (omega arith)
bit_at-word_from marks first (suc k) j l = elim (cases_eq j k) [
  | inl top ↦
      let low : j - k ≡ 0 = omega arith in
      bit_at_cat_high (bit_of (mark_of marks (first + k))) k (word_from marks first k) j (word_from-lt marks first k) (omega arith) ∙
      ap (λ i. bit_at (bit_of (mark_of marks (first + k))) i) low ∙ bit_at-bit_of (mark_of marks (first + k)) ∙
      ap (λ i. bit_of (mark_of marks (first + i))) (sym top)
  | inr other ↦
      bit_at_cat_low (bit_of (mark_of marks (first + k))) k (word_from marks first k) j (omega arith)
      ∙ bit_at-word_from marks first k j (omega arith)
]

-- bit j of word i tells the page 64 * i + j
pub page_bit-at : (words : List ℕ) (i j : ℕ) → j < 64 → page_bit words (64 * i + j) ≡ bit_at (get_or words i 0) j
unfolding page_bit
page_bit-at words i j l =
    let word : (64 * i + j) / 64 ≡ i = omega arith in
    let bit : (64 * i + j) % 64 ≡ j = omega arith in
    ap (λ k. bit_at (get_or words k 0) ((64 * i + j) % 64)) word ∙ ap (λ k. bit_at (get_or words i 0) k) bit

word_from-is : (n : ℕ) (words : List ℕ) (i : ℕ) → IsClean n words → get_or words i 0 < 2 ^ 64 →
    word_from (marks_of n words) (64 * i) 64 ≡ get_or words i 0
word_from-is n words i clean fits =
    same_from_bits_below 64 (word_from (marks_of n words) (64 * i) 64) (get_or words i 0) (word_from-lt (marks_of n words) (64 * i) 64)
    fits (λ j l.
    bit_at-word_from (marks_of n words) (64 * i) 64 j l ∙ sym (page_bit-is n words (64 * i + j) clean) ∙ page_bit-at words i j l)

pub words_of-is : (n : ℕ) (words : List ℕ) → IsClean n words → ((i : ℕ) → get_or words i 0 < 2 ^ 64) → words ≡ words_of (marks_of n words)
words_of-is n words clean fits =
    let same = ap (λ k. div_ceil k 64) (length-marks_of n words) in
    let total = length-map-range_with_len (λ i. word_from (marks_of n words) (64 * i) 64) 0 (div_ceil (length (marks_of n words)) 64) in
    let count : length words ≡ div_ceil n 64 = clean.count in
    ext_get_or 0 words (words_of (marks_of n words)) (count ∙ sym same ∙ sym total) (λ i l.
    sym (get_or-map-range_with_len (λ i. word_from (marks_of n words) (64 * i) 64) 0 (div_ceil (length (marks_of n words)) 64) i i 0
    (omega arith) (omega arith) ∙
    word_from-is n words i clean (fits i)))

-- the pages after a write to some bytes
abbrev pub set_after : Bool → PageSet → ℕ → ℕ → PageSet
set_after mark p start len =
    record p { marks = cond mark (marked_range p.page_size p.marks start len) (cleared_range p.page_size p.marks start len) }

same_set : (p : PageSet) (marks : List Bool) → p.marks ≡ marks → p ≡ record p { marks = marks }
same_set p marks e = ap (λ (m : List Bool). let q : PageSet = record p { marks = m } in q) e

-- no byte is written
pub none_written : (mark : Bool) (p : PageSet) (start len : ℕ) → len ≡ 0 → p ≡ set_after mark p start len
unfolding marked_range cleared_range
none_written true p start len e = same_set p (marked_range p.page_size p.marks start len) (rw e)
none_written false p start len e = same_set p (cleared_range p.page_size p.marks start len) (rw e)

-- even the first page is past the end
pub past_written : (mark : Bool) (p : PageSet) (size bytes n : ℕ) (words : List ℕ) (start len : ℕ) →
    record { page_size = size; byte_size = bytes; marks = marks_of n words } ≡ p → 0 < size → n ≤ start / size →
    p ≡ set_after mark p start len
past_written mark p size bytes n words start len view h g =
    let count = length-marks_of n words in
    let P : PageSet → Type 0 = λ q. q ≡ set_after mark q start len in
    subst P view (same_set (record { page_size = size; byte_size = bytes; marks = marks_of n words }) _
    (sym (chosen_range-is mark size (marks_of n words) start len
    ∙ range_beyond len mark (2 ^ 64) size (marks_of n words) start h (omega arith))))

-- some page is written
pub some_written : (mark : Bool) (p : PageSet) (size bytes n : ℕ) (old new : List ℕ) (start len last : ℕ) →
    record { page_size = size; byte_size = bytes; marks = marks_of n old } ≡ p → 0 < size → 0 < len → start < 2 ^ 64 → start / size < n →
    last ≡ min ((min (start + len) (2 ^ 64) - 1) / size) (n - 1) → WritesRun old new (start / size) (last + 1) mark →
    record { page_size = size; byte_size = bytes; marks = marks_of n new } ≡ set_after mark p start len
some_written mark p size bytes n old new start len last view h some below has e run =
    let P : PageSet → Type 0 = λ q. record { page_size = size; byte_size = bytes; marks = marks_of n new } ≡ set_after mark q start len in
    let marks : marks_of n new ≡ cond mark (marked_range size (marks_of n old) start len) (cleared_range size (marks_of n old) start len) =
    run_words mark (2 ^ 64) size n start len last old new h some below has e run
    ∙ sym (chosen_range-is mark size (marks_of n old) start len) in
    subst P view (ap (λ (m : List Bool). let q : PageSet = record { page_size = size; byte_size = bytes; marks = m } in q) marks)

-- no page is marked any more
pub cleared_set : (size bytes n : ℕ) (old new : List ℕ) (count : ℕ) (p : PageSet) →
    record { page_size = size; byte_size = bytes; marks = marks_of n old } ≡ p → n ≡ pages_of size bytes → new ≡ replicate count 0 →
    record { page_size = size; byte_size = bytes; marks = marks_of n new } ≡ record p { marks = clear_pages p.page_size p.byte_size }
cleared_set size bytes n old new count p view is e =
    let P : PageSet → Type 0 = λ q. record { page_size = size; byte_size = bytes; marks = marks_of n new }
    ≡ record q { marks = clear_pages q.page_size q.byte_size } in
    let marks : marks_of n new ≡ clear_pages size bytes = ap (marks_of n) e ∙ marks_of-zeros n count ∙ ap (λ k. replicate k false) is in
    subst P view (ap (λ (m : List Bool). let q : PageSet = record { page_size = size; byte_size = bytes; marks = m } in q) marks)

-- ---- what a caller of `get_and_reset` may cite

pub length-words_of : (marks : List Bool) → length (words_of marks) ≡ div_ceil (length marks) 64
length-words_of marks = length-map-range_with_len (λ i. word_from marks (64 * i) 64) 0 (div_ceil (length marks) 64)
