-- Steps that change a run of pages.
use Rattle.std.proofs.Common.{◌≡◌, ◌⊎◌, ℕ, zero, suc, ◌+◌, ◌-◌, ◌*◌, ◌/◌, ◌%◌, ◌^◌, ◌<◌, ◌≤◌, Bool, true, false, cond, eqb, arith}
use Rattle.std.proofs.Common.{List, [], ◌∷◌, length, get_or, set, replicate, refl, sym, ap, ◌∙◌, subst, inl, inr, ⊎_elim}
use Rattle.std.specs.Int.{bit_at, div_ceil, bit_not, w64}
use Rattle.std.proofs.lemmas.Nat.Bits.{bit_at_not, bit_at-zero, bit_at-lt, bit_at_mask_inside, bit_at_mask_below, bit_at_mask_above}
use Rattle.std.proofs.lemmas.Bool.{cases_lt, cases_eq, eq-eqb, ne_eqb}
use Rattle.vm_atomic_bitmaps.specs.declared.counts.Tally.{Tally}
use Rattle.vm_bitmaps.specs.Words.{page_bit}
use Rattle.vm_atomic_bitmaps.specs.Counts.{tally_of, each_tally, after_mark, after_clearing, picks, in_word, marked_by, cleared_by}
use Rattle.vm_atomic_bitmaps.specs.Counts.{first_pass}
use Rattle.vm_atomic_bitmaps.specs.Rule.{table_words, table_words, KeepsRule, PageAccount, Stands}
use Rattle.vm_atomic_bitmaps.specs.Steps.{NoneBeyond, Settles, SettlesWord, SettlesAll}
use Rattle.vm_atomic_bitmaps.specs.Passes.{ChangesRun, ByMark, ByClearing, ByGathering}
use Rattle.std.proofs.lemmas.List.{length-replicate, get_or-replicate, get_or_past, get_or-set_same}
use mathlib.Core.Option.{some, some-injective, some-ne-none}
use lib.ListN.{get_elem?}
use Rattle.atomic_table.specs.Table.{opening, State}
use Rattle.vm_atomic_bitmaps.specs.declared.counts.PageCounts.{PageCounts}
use Rattle.vm_atomic_bitmaps.proofs.PassTotals.{length-each_tally, at_each, at_past, each_same}
use Rattle.vm_atomic_bitmaps.proofs.AllowedSteps.{begins, bit_else, bit_here, rule_same, settles_all}

-- a step on the pages that are hit
at_hit : (F : ℕ → Tally → Tally) (hit : ℕ → Bool) (l : List Tally) (p : ℕ) → p < length l → hit p ≡ true →
    tally_of (each_tally (λ p t. cond (hit p) (F p t) t) 0 l) p ≡ F p (tally_of l p)
at_hit F hit l p h e = at_each (λ p t. cond (hit p) (F p t) t) l p h ∙ ap (λ (c : Bool). cond c (F p (tally_of l p)) (tally_of l p)) e

at_miss : (F : ℕ → Tally → Tally) (hit : ℕ → Bool) (l : List Tally) (p : ℕ) → hit p ≡ false →
    tally_of (each_tally (λ p t. cond (hit p) (F p t) t) 0 l) p ≡ tally_of l p
at_miss F hit l p e = elim (cases_lt p (length l)) [
  | inl h ↦ at_each (λ p t. cond (hit p) (F p t) t) l p h ∙ ap (λ (c : Bool). cond c (F p (tally_of l p)) (tally_of l p)) e
  | inr h ↦ at_past (each_tally (λ p t. cond (hit p) (F p t) t) 0 l) p (let k = length-each_tally (λ p t. cond (hit p) (F p t) t) 0 l in
      omega arith) ∙ sym (at_past l p h)
]

pub run_none : (Change : ℕ → Tally → Tally → Type 0) (l : List Tally) (first end : ℕ) → end ≤ first → ChangesRun Change l l first end
run_none Change l first end h = record {
  count = refl;
  inside = λ p a b c. absurd (omega arith);
  below = λ p h. refl;
  above = λ p h. refl;
}

-- a step on a run of pages
pub one_run : (Change : ℕ → Tally → Tally → Type 0) (F : ℕ → Tally → Tally) (hit : ℕ → Bool) (l : List Tally) (lo hi : ℕ)
    → ((p : ℕ) → lo ≤ p → p < hi → hit p ≡ true) → ((p : ℕ) → (p < lo) ⊎ (hi ≤ p) → hit p ≡ false)
    → ((p : ℕ) → lo ≤ p → p < hi → p < length l → Change p (tally_of l p) (F p (tally_of l p)))
    → ChangesRun Change l (each_tally (λ p t. cond (hit p) (F p t) t) 0 l) lo hi
one_run Change F hit l lo hi on_hit on_miss changes = record {
  count = length-each_tally (λ p t. cond (hit p) (F p t) t) 0 l;
  inside = λ p low high within. subst (Change p (tally_of l p)) (sym (at_hit F hit l p within (on_hit p low high)))
      (changes p low high within);
  below = λ p a. at_miss F hit l p (on_miss p (inl a));
  above = λ p a. at_miss F hit l p (on_miss p (inr a));
}

-- the bits from a up to b of the word w
pub mask_hits : (w a b p : ℕ) → b ≤ 64 → 64 * w + a ≤ p → p < 64 * w + b → picks w (2 ^ b - 2 ^ a) 1 p ≡ true
mask_hits w a b p h low high =
    let word : p / 64 ≡ w = omega arith in
    let bit = bit_at_mask_inside a b (p % 64) (omega arith) (omega arith) in
    ap (λ (c : Bool). cond c (eqb (bit_at (2 ^ b - 2 ^ a) (p % 64)) 1) false) (eq-eqb (p / 64) w word)
    ∙ eq-eqb (bit_at (2 ^ b - 2 ^ a) (p % 64)) 1 bit

pub mask_misses : (w a b p : ℕ) → b ≤ 64 → (p < 64 * w + a) ⊎ (64 * w + b ≤ p) → picks w (2 ^ b - 2 ^ a) 1 p ≡ false
mask_misses w a b p h out = elim (cases_eq (p / 64) w) [
  | inl here ↦ ap (λ (c : Bool). cond c (eqb (bit_at (2 ^ b - 2 ^ a) (p % 64)) 1) false) (eq-eqb (p / 64) w here) ∙ elim out [
    | inl low ↦ let z = bit_at_mask_below a b (p % 64) (omega arith) in
        ne_eqb (bit_at (2 ^ b - 2 ^ a) (p % 64)) 1 (λ e. absurd (omega arith))
    | inr high ↦ let z = bit_at_mask_above a b (p % 64) (omega arith) in
        ne_eqb (bit_at (2 ^ b - 2 ^ a) (p % 64)) 1 (λ e. absurd (omega arith))
  ]
  | inr away ↦ ap (λ (c : Bool). cond c (eqb (bit_at (2 ^ b - 2 ^ a) (p % 64)) 1) false) (ne_eqb (p / 64) w away)
]

pub mask_inside : (len w a b : ℕ) → b ≤ 64 → 64 * w + b ≤ len → NoneBeyond len w (2 ^ b - 2 ^ a)
mask_inside len w a b h l p past here = bit_at_mask_above a b (p % 64) (omega arith)

-- one run after another
pub run_then : (Change : ℕ → Tally → Tally → Type 0) (old cur new : List Tally) (first end lo hi : ℕ) → ChangesRun Change old cur first end
    → ChangesRun Change cur new lo hi
    → first ≤ lo → end ≤ lo → ((p : ℕ) → first ≤ p → p < lo → p < end) → lo ≤ hi → ChangesRun Change old new first hi
run_then Change old cur new first end lo hi r q start before covers order = record {
  count = q.count ∙ r.count;
  inside = λ p a b c. let k = r.count in elim (cases_lt p lo) [
    | inl low ↦ subst (Change p (tally_of old p)) (sym (q.below p low)) (r.inside p a (covers p a low) c)
    | inr high ↦ subst (λ (t : Tally). Change p t (tally_of new p)) (r.above p (omega arith)) (q.inside p high b (omega arith))
  ];
  below = λ p a. q.below p (omega arith) ∙ r.below p a;
  above = λ p a. q.above p a ∙ r.above p (omega arith);
}

pub is_cleared : (v : PageCounts) (w found p : ℕ) → SettlesWord v w found → p < length v.pages → p / 64 ≡ w
    → ByClearing v p (tally_of v.pages p) (after_clearing (bit_at found (p % 64)) (tally_of v.pages p))
is_cleared v w found p settled within here = (bit_at found (p % 64), bit_at-lt found (p % 64), (λ whole. settled whole p within here), refl)

-- a mark of the bits from a up to b
pub marks_bits : (v : PageCounts) (w a b found lo hi : ℕ) → b ≤ 64 → lo ≡ 64 * w + a → hi ≡ 64 * w + b → SettlesWord v w found
    → ChangesRun (ByMark v) v.pages (marked_by (picks w (2 ^ b - 2 ^ a) 1) found v.pages) lo hi
marks_bits v w a b found lo hi h low_is high_is settled =
    one_run (ByMark v) (λ p. after_mark (bit_at found (p % 64))) (picks w (2 ^ b - 2 ^ a) 1) v.pages lo hi
    (λ p low high. mask_hits w a b p h (omega arith) (omega arith))
    (λ p out. mask_misses w a b p h (⊎_elim (λ (x : p < lo). inl (omega arith)) (λ (x : hi ≤ p). inr (omega arith)) out))
    (λ p low high within. (bit_at found (p % 64), bit_at-lt found (p % 64), (λ whole. settled whole p within (omega arith)), refl))

-- a clear of the bits from a up to b
pub clears_bits : (v : PageCounts) (w a b found lo hi : ℕ) → b ≤ 64 → lo ≡ 64 * w + a → hi ≡ 64 * w + b → SettlesWord v w found
    → ChangesRun (ByClearing v) v.pages (cleared_by (picks w (2 ^ b - 2 ^ a) 1) found v.pages) lo hi
clears_bits v w a b found lo hi h low_is high_is settled =
    one_run (ByClearing v) (λ p. after_clearing (bit_at found (p % 64))) (picks w (2 ^ b - 2 ^ a) 1) v.pages lo hi
    (λ p low high. mask_hits w a b p h (omega arith) (omega arith))
    (λ p out. mask_misses w a b p h (⊎_elim (λ (x : p < lo). inl (omega arith)) (λ (x : hi ≤ p). inr (omega arith)) out))
    (λ p low high within. is_cleared v w found p settled within (omega arith))

-- a gather of the word w, whatever is said of its pages
pub gathers_word : (Change : ℕ → Tally → Tally → Type 0) (l : List Tally) (w found : ℕ)
    → ((p : ℕ) → p < length l → p / 64 ≡ w → Change p (tally_of l p) (after_clearing (bit_at found (p % 64)) (tally_of l p)))
    → ChangesRun Change l (cleared_by (in_word w) found l) (64 * w) (64 * w + 64)
gathers_word Change l w found shows =
    one_run Change (λ p. after_clearing (bit_at found (p % 64))) (in_word w) l (64 * w) (64 * w + 64)
    (λ p low high. eq-eqb (p / 64) w (omega arith))
    (λ p out. ne_eqb (p / 64) w
    (λ e. ⊎_elim (λ (x : p < 64 * w). absurd (omega arith)) (λ (x : 64 * w + 64 ≤ p). absurd (omega arith)) out))
    (λ p low high within. shows p within (omega arith))

-- the words with the bits that were found
pub is_gathered : (words : List ℕ) (w found p : ℕ) (t : Tally) → w < length words → p / 64 ≡ w →
    ByGathering (set words w found) p t (after_clearing (bit_at found (p % 64)) t)
unfolding page_bit
is_gathered words w found p t inside here = ap (λ (b : ℕ). after_clearing b t)
    (sym (ap (λ (k : ℕ). bit_at k (p % 64)) (ap (λ (k : ℕ). get_or (set words w found) k 0) here ∙ get_or-set_same words w found 0 inside)))

pub run_as :
    (C D : ℕ → Tally → Tally → Type 0) (old new : List Tally) (first end : ℕ) → ((p : ℕ) (t u : Tally) → p < end → C p t u → D p t u) →
    ChangesRun C old new first end → ChangesRun D old new first end
run_as C D old new first end h r = record {
  count = r.count;
  inside = λ p a b c. h p (tally_of old p) (tally_of new p) b (r.inside p a b c);
  below = r.below;
  above = r.above;
}

-- the bits that a mask has are those that its complement has not
picks_not : (w m p : ℕ) → m < 2 ^ 64 → picks w (bit_not w64 m) 0 p ≡ picks w m 1 p
picks_not w m p h =
    let n = bit_at_not w64 m (p % 64) h (omega arith) in
    let l = bit_at-lt m (p % 64) in
    ap (λ (b : Bool). cond (eqb (p / 64) w) b false) (elim (cases_eq (bit_at m (p % 64)) 1) [
      | inl one ↦ eq-eqb (bit_at (bit_not w64 m) (p % 64)) 0 (omega arith) ∙ sym (eq-eqb (bit_at m (p % 64)) 1 one)
      | inr none ↦ ne_eqb (bit_at (bit_not w64 m) (p % 64)) 0 (λ e. absurd (omega arith)) ∙ sym (ne_eqb (bit_at m (p % 64)) 1 none)
    ])

pub cleared_not :
    (w m found : ℕ) (l : List Tally) → m < 2 ^ 64 → cleared_by (picks w (bit_not w64 m) 0) found l ≡ cleared_by (picks w m 1) found l
cleared_not w m found l h = each_same (λ p t. cond (picks w (bit_not w64 m) 0 p) (after_clearing (bit_at found (p % 64)) t) t)
    (λ p t. cond (picks w m 1 p) (after_clearing (bit_at found (p % 64)) t) t)
    (λ p t. ap (λ (b : Bool). cond b (after_clearing (bit_at found (p % 64)) t) t) (picks_not w m p h)) 0 l

pub none_of_past : (len w a b : ℕ) → b ≤ 64 → 64 * w + b ≤ len → (m : ℕ) → m ≡ 2 ^ b - 2 ^ a → NoneBeyond len w m
none_of_past len w a b h l m e p past here = ap (λ (k : ℕ). bit_at k (p % 64)) e ∙ mask_inside len w a b h l p past here

-- words of zeros, and the first pass
pub clear_words : (len k : ℕ) → k ≡ table_words len → KeepsRule len (opening (replicate k 0) [] (first_pass len))
clear_words len k e = begins len (replicate k 0) (length-replicate {A = ℕ} k 0 ∙ e) (λ i. elim (cases_lt i k) [
  | inl l ↦ get_or-replicate k i 0 0 l
  | inr g ↦ get_or_past (replicate {A = ℕ} k 0) i 0 (omega (arith, length-replicate {A = ℕ} k 0))
])

-- what was taken before stays, when the word w is written
pub into_before :
    (words : List ℕ) (w bits : ℕ) (p : ℕ) (t u : Tally) → p < 64 * w → ByGathering words p t u → ByGathering (set words w bits) p t u
into_before words w bits p t u low e = e ∙ ap (λ (b : ℕ). after_clearing b t) (sym (bit_else words w bits p (λ here. absurd (omega arith))))

-- what a pass with all parts knows of the words before the word w, and of that word, when it is written
pub settles_more :
    (old cur : List Tally) (words : List ℕ) (w bits : ℕ) → w < length words → ChangesRun (ByGathering words) old cur 0 (64 * w)
    → ((p : ℕ) → p / 64 ≡ w → p < length cur → Settles (tally_of cur p) (bit_at bits (p % 64)))
    → ((p : ℕ) → p < length old → p < 64 * w → Settles (tally_of old p) (page_bit words p))
    → (p : ℕ) → p < length old → p < 64 * w + 64 → Settles (tally_of old p) (page_bit (set words w bits) p)
settles_more old cur words w bits inside r here before p l low = elim (cases_lt p (64 * w)) [
  | inl less ↦ subst (Settles (tally_of old p)) (sym (bit_else words w bits p (λ e. absurd (omega arith)))) (before p l less)
  | inr more ↦
      let word : p / 64 ≡ w = omega arith in
      let k = r.count in
      let found = here p word (omega arith) in
      let same = subst (λ (t : Tally). Settles t (bit_at bits (p % 64))) (r.above p more) found in
      subst (Settles (tally_of old p)) (sym (bit_here words w bits p inside word)) same
]

pub zero_bits : (words : List ℕ) (k : ℕ) → words ≡ replicate k 0 → (p : ℕ) → page_bit words p ≡ 0
unfolding page_bit
zero_bits words k e p =
    ap (λ (l : List ℕ). bit_at (get_or l (p / 64) 0) (p % 64)) e ∙ ap (λ (n : ℕ). bit_at n (p % 64)) (none (p / 64)) ∙ bit_at-zero (p % 64)
  where
    none : (i : ℕ) → get_or {A = ℕ} (replicate k 0) i 0 ≡ 0
    none i = elim (cases_lt i k) [
      | inl l ↦ get_or-replicate k i 0 0 l
      | inr g ↦ get_or_past (replicate {A = ℕ} k 0) i 0 (omega (arith, length-replicate {A = ℕ} k 0))
    ]

elem_is : (l : List ℕ) (i x : ℕ) → get_elem? l i ≡ some x → get_or l i 0 ≡ x
elem_is [] i x e = absurd (some-ne-none x (sym e))
elem_is (y ∷ ys) zero x e = some-injective y x e
elem_is (y ∷ ys) (suc i) x e = elem_is ys i x e

-- the first words of a table have the bits of all pages
pub same_bits : (len : ℕ) (all words : List ℕ) → length words ≡ div_ceil len 64
    → ((i : ℕ) → i < length words → get_elem? all i ≡ some (get_or words i 0)) → ((p : ℕ) → len ≤ p → page_bit all p ≡ 0)
    → (p : ℕ) → page_bit words p ≡ page_bit all p
unfolding page_bit
same_bits len all words count same rest p = elim (cases_lt (p / 64) (length words)) [
  | inl h ↦ ap (λ (n : ℕ). bit_at n (p % 64)) (sym (elem_is all (p / 64) (get_or words (p / 64) 0) (same (p / 64) h)))
  | inr h ↦ ap (λ (n : ℕ). bit_at n (p % 64)) (get_or_past words (p / 64) 0 h) ∙ bit_at-zero (p % 64) ∙ sym (rest p (omega arith))
]

-- what `close` answers: the rule of the words that it read, with the pass among the passes
pub closes : (key len : ℕ) (s : State (Unit {0}) PageCounts) (id : ℕ) (v : PageCounts) (all words : List ℕ) → key ≡ len → KeepsRule key s
    → get_elem? s.views id ≡ some v → s.words ≡ all
    → length words ≡ div_ceil len 64 → ((i : ℕ) → i < length words → get_elem? all i ≡ some (get_or words i 0)) → Stands len words v
closes key len s id v all words k h at_id is count same =
    let r : PageAccount len s.words s.views = subst (λ (n : ℕ). PageAccount n s.words s.views) k h.1 in
    let same' : (i : ℕ) → i < length words → get_elem? s.words i ≡ some (get_or words i 0) =
    λ i l. ap (λ (ws : List ℕ). get_elem? ws i) is ∙ same i l in
    (s.views, rule_same len s.words words s.views (same_bits len s.words words count same' r.counted.rest) r, (id, at_id))

pub settles_closed : (len : ℕ) (words : List ℕ) (v : PageCounts) → length v.pages ≡ len → Stands len words v → SettlesAll v words
settles_closed len words v long s all p l = settles_all len words s.0 s.2.0 v s.2.1 s.1 all p (omega arith)
