-- Each step on the words keeps the rule, and a bitmap begins with it.
use Rattle.std.proofs.Common.{◌≡◌, ◌≢◌, ◌⊎◌, ℕ, zero, suc, ◌+◌, ◌-◌, ◌*◌, ◌/◌, ◌%◌, ◌^◌, ◌<◌, ◌≤◌, arith}
use Rattle.std.proofs.Common.{Bool, true, false, cond, eqb, List, [], ◌∷◌, length, get_or, set, replicate, refl, sym, ap, ◌∙◌, subst, inl}
use Rattle.std.proofs.Common.{inr, ⊎_elim, bit_and, bit_or}
use Rattle.std.specs.Int.{bit_at, div_ceil}
use Rattle.std.proofs.lemmas.List.{length-set, get_or-set_same, get_or-set_other, get_or-replicate, length-replicate}
use Rattle.std.proofs.lemmas.Nat.Bits.{bit_at-lt, bit_at_or, bit_at_and, bit_at-zero}
use Rattle.std.proofs.lemmas.Bool.{cases_lt, cases_eq, eq-eqb, ne_eqb}
use Rattle.std.proofs.lemmas.Nat.{pow-add, pow_pos}
use mathlib.Core.Option.{none, some, some-ne-none}
use lib.ListN.{get_elem?}
use Rattle.atomic_table.specs.Table.{State, step, keeps, Allows, opening}
use Rattle.atomic_table.proofs.Lists.{at_set, at_snoc}
use Rattle.vm_atomic_bitmaps.specs.declared.counts.Tally.{Tally}
use Rattle.vm_atomic_bitmaps.specs.declared.counts.PageCounts.{PageCounts}
use Rattle.vm_bitmaps.specs.Words.{page_bit, bit_of}
use Rattle.vm_atomic_bitmaps.specs.Counts.{no_tally, tally_of, each_tally, after_mark, after_clearing, after_read, picks, in_word}
use Rattle.vm_atomic_bitmaps.specs.Counts.{marked_by, cleared_by, read_by, first_pass, with_pages, IsWhole}
use Rattle.vm_atomic_bitmaps.specs.Rule.{table_words, total_by, marks_at, on_at, off_at, Counted, weight, IsIdle, AddUp, PageAccount}
use Rattle.vm_atomic_bitmaps.specs.Rule.{KeepsRule, StandsAt}
use Rattle.vm_atomic_bitmaps.specs.Steps.{NoneBeyond, Settles, SettlesWord, PassSeat, MarkStep, GatherStep, ClearStep, ReadStep}
use Rattle.vm_atomic_bitmaps.proofs.PassTotals.{total_set, total_part, total_alone, at_each, at_past}

-- what a step may do to the tally of a page, whose bit goes from b to b'
pub record Moves (t u : Tally) (b b' : ℕ) : Type 0 where
  pub on : t.on ≤ u.on
  pub off : t.off ≤ u.off
  pub sums : u.on + t.off + b ≡ t.on + u.off + b'
  pub keep : bit_of t.marked ≤ bit_of u.marked
  pub marks : (bit_of u.marked ≤ bit_of t.marked) ⊎ (b' ≡ 1)
  pub sets : (u.on ≡ t.on) ⊎ (bit_of u.marked ≡ 1)
  pub bounded : (a o : ℕ) → a ≡ o + b → t.held ≤ a → t.seen ≤ o → (u.held + t.on ≤ a + u.on) × (u.seen + t.off ≤ o + u.off)

still : (t : Tally) (b b' : ℕ) → b' ≡ b → Moves t t b b'
still t b b' e = record {
  on = omega arith;
  off = omega arith;
  sums = omega arith;
  keep = omega arith;
  marks = inl (omega arith);
  sets = inl refl;
  bounded = λ a o s h k. (omega arith, omega arith);
}

bit_of-le : (b : Bool) → bit_of b ≤ 1
bit_of-le true = omega arith
bit_of-le false = omega arith

mark_moves : (t : Tally) (b b' : ℕ) → b < 2 → b' ≡ 1 → Moves t (after_mark b t) b b'
mark_moves t b b' l e = record {
  on = omega arith;
  off = omega arith;
  sums = omega arith;
  keep = bit_of-le t.marked;
  marks = inr e;
  sets = inr refl;
  bounded = λ a o s h k. (omega arith, omega arith);
}

clear_moves : (t : Tally) (b b' : ℕ) → b' ≡ 0 → Moves t (after_clearing b t) b b'
clear_moves t b b' e = record {
  on = omega arith;
  off = omega arith;
  sums = omega arith;
  keep = omega arith;
  marks = inl (omega arith);
  sets = inl refl;
  bounded = λ a o s h k. (omega arith, omega arith);
}

read_moves : (t : Tally) (b b' : ℕ) → b < 2 → b' ≡ b → Moves t (after_read b t) b b'
read_moves t b b' l e = record {
  on = omega arith;
  off = omega arith;
  sums = omega arith;
  keep = omega arith;
  marks = inl (omega arith);
  sets = inl refl;
  bounded = λ a o s h k. (omega arith, omega arith);
}

pub counted_step : (len : ℕ) (words words' : List ℕ) (views : List PageCounts) (id : ℕ) (v w : PageCounts) → get_elem? views id ≡ some v
    → Counted len words views → ((p : ℕ) → len ≤ p → page_bit words' p ≡ 0)
    → ((p : ℕ) → p < len → Moves (tally_of v.pages p) (tally_of w.pages p) (page_bit words p) (page_bit words' p))
    → Counted len words' (set views id w)
counted_step len words words' views id v w at_id c rest moves = record {
  rest = rest;
  bits = λ p l. let m = moves p l in let x = m.sums in let s = total_set (on_at p) views id v w at_id in
      let t = total_set (off_at p) views id v w at_id in let b = c.bits p l in omega arith;
  marks = λ p l. (forth p l, back p l);
  bounded = λ p l j u e. ⊎_elim (λ (x : (j ≡ id) × (w ≡ u)). mine p l u x.1)
      (λ (x : (j ≢ id) × (get_elem? views j ≡ some u)). theirs p l j u x.1) (at_set views id j w u e);
}
  where
    forth : (p : ℕ) → p < len → 0 < total_by (marks_at p) (set views id w) → 0 < total_by (on_at p) (set views id w)
    forth p l h =
        let m = moves p l in
        let up = m.on in
        let s = total_set (on_at p) views id v w at_id in
        let t = total_set (off_at p) views id v w at_id in
        let k = total_set (marks_at p) views id v w at_id in
        let b = c.bits p l in
        let x = m.sums in
        elim m.marks [
          | inl fewer ↦ let before = (c.marks p l).0 (omega arith) in omega arith
          | inr now ↦ omega arith
        ]

    back : (p : ℕ) → p < len → 0 < total_by (on_at p) (set views id w) → 0 < total_by (marks_at p) (set views id w)
    back p l h =
        let m = moves p l in
        let keep = m.keep in
        let s = total_set (on_at p) views id v w at_id in
        let k = total_set (marks_at p) views id v w at_id in
        let part = total_part (marks_at p) views id v at_id in
        elim m.sets [
          | inl same_on ↦ let before = (c.marks p l).1 (omega arith) in omega arith
          | inr now ↦ omega arith
        ]

    mine : (p : ℕ) → p < len → (u : PageCounts) → w ≡ u
        → ((tally_of u.pages p).held ≤ total_by (on_at p) (set views id w))
        × ((tally_of u.pages p).seen ≤ total_by (off_at p) (set views id w))
    mine p l u e =
        let m = moves p l in
        let s = total_set (on_at p) views id v w at_id in
        let t = total_set (off_at p) views id v w at_id in
        let r = c.bounded p l id v at_id in
        let r0 = r.0 in
        let r1 = r.1 in
        let n = m.bounded (total_by (on_at p) views) (total_by (off_at p) views) (c.bits p l) r0 r1 in
        let n0 = n.0 in
        let n1 = n.1 in
        subst (λ (x : PageCounts). ((tally_of x.pages p).held ≤ total_by (on_at p) (set views id w))
        × ((tally_of x.pages p).seen ≤ total_by (off_at p) (set views id w))) e (omega arith, omega arith)

    theirs : (p : ℕ) → p < len → (j : ℕ) (u : PageCounts) → get_elem? views j ≡ some u
        → ((tally_of u.pages p).held ≤ total_by (on_at p) (set views id w))
        × ((tally_of u.pages p).seen ≤ total_by (off_at p) (set views id w))
    theirs p l j u e =
        let m = moves p l in
        let up = m.on in
        let up' = m.off in
        let s = total_set (on_at p) views id v w at_id in
        let t = total_set (off_at p) views id v w at_id in
        let r = c.bounded p l j u e in
        let r0 = r.0 in
        let r1 = r.1 in
        (omega arith, omega arith)

pub shared_step : (views : List PageCounts) (id : ℕ) (v w : PageCounts) → get_elem? views id ≡ some v → w.parts ≡ v.parts
    → w.depth ≡ v.depth → 0 < v.parts
    → AddUp views → AddUp (set views id w)
shared_step views id v w at_id parts depth some_part c = record {
  unit = c.unit;
  fits = λ j u e. ⊎_elim
      (λ (x : (j ≡ id) × (w ≡ u)). let f = c.fits id v at_id in subst (λ (y : PageCounts). y.depth ≤ c.unit) x.1 (omega arith))
      (λ (x : (j ≢ id) × (get_elem? views j ≡ some u)). c.fits j u x.1)
      (at_set views id j w u e);
  whole =
      let s = total_set (weight c.unit) views id v w at_id in
      let same : weight c.unit w ≡ weight c.unit v = λ i. parts i * 2 ^ (c.unit - depth i) in
      let all = c.whole in omega arith;
  idle = λ j u e none. ⊎_elim
      (λ (x : (j ≡ id) × (w ≡ u)). absurd (let y : w.parts ≡ u.parts = ap (λ (z : PageCounts). z.parts) x.1 in omega arith))
      (λ (x : (j ≢ id) × (get_elem? views j ≡ some u)). c.idle j u x.1 none)
      (at_set views id j w u e);
}

-- the bits after the word i becomes n
pub bit_here : (words : List ℕ) (i n p : ℕ) → i < length words → p / 64 ≡ i → page_bit (set words i n) p ≡ bit_at n (p % 64)
unfolding page_bit
bit_here words i n p inside e =
    ap (λ (k : ℕ). bit_at k (p % 64)) (ap (λ (k : ℕ). get_or (set words i n) k 0) e ∙ get_or-set_same words i n 0 inside)

pub bit_was : (words : List ℕ) (i p : ℕ) → p / 64 ≡ i → page_bit words p ≡ bit_at (get_or words i 0) (p % 64)
unfolding page_bit
bit_was words i p e = ap (λ (k : ℕ). bit_at (get_or words k 0) (p % 64)) e

pub bit_else : (words : List ℕ) (i n p : ℕ) → p / 64 ≢ i → page_bit (set words i n) p ≡ page_bit words p
unfolding page_bit
bit_else words i n p ne = ap (λ (k : ℕ). bit_at k (p % 64)) (get_or-set_other words i (p / 64) n 0 ne)

-- each kind of step, at one page
mark_page : (words : List ℕ) (i mask p : ℕ) (t : Tally) → i < length words
    → Moves t (cond (picks i mask 1 p) (after_mark (bit_at (get_or words i 0) (p % 64)) t) t) (page_bit words p)
    (page_bit (set words i (bit_or (get_or words i 0) mask)) p)
mark_page words i mask p t inside =
    let n : ℕ = get_or words i 0 in
    let P : Bool → Type 0 =
    λ c. Moves t (cond c (after_mark (bit_at n (p % 64)) t) t) (page_bit words p) (page_bit (set words i (bit_or n mask)) p) in
    elim (cases_eq (p / 64) i) [
      | inl here ↦
          let was = bit_was words i p here in
          let now = bit_here words i (bit_or n mask) p inside here in
          let both = bit_at_or n mask (p % 64) in
          let small = bit_at-lt n (p % 64) in
          let small' = bit_at-lt mask (p % 64) in
          let word : picks i mask 1 p ≡ eqb (bit_at mask (p % 64)) 1 =
          ap (λ (c : Bool). cond c (eqb (bit_at mask (p % 64)) 1) false) (eq-eqb (p / 64) i here) in
          elim (cases_eq (bit_at mask (p % 64)) 1) [
            | inl hit ↦ subst P (sym (word ∙ eq-eqb (bit_at mask (p % 64)) 1 hit))
                (subst (λ (x : ℕ). Moves t (after_mark x t) (page_bit words p) (page_bit (set words i (bit_or n mask)) p))
                was (mark_moves t (page_bit words p) (page_bit (set words i (bit_or n mask)) p)
                (omega arith) (omega arith)))
            | inr miss ↦ subst P (sym (word ∙ ne_eqb (bit_at mask (p % 64)) 1 miss))
                (still t (page_bit words p) (page_bit (set words i (bit_or n mask)) p) (omega arith))
          ]
      | inr away ↦ subst P (sym (ap (λ (c : Bool). cond c (eqb (bit_at mask (p % 64)) 1) false) (ne_eqb (p / 64) i away)))
          (still t (page_bit words p) (page_bit (set words i (bit_or n mask)) p) (bit_else words i (bit_or n mask) p away))
    ]

clear_page : (words : List ℕ) (i mask p : ℕ) (t : Tally) → i < length words
    → Moves t (cond (picks i mask 0 p) (after_clearing (bit_at (get_or words i 0) (p % 64)) t) t) (page_bit words p)
    (page_bit (set words i (bit_and (get_or words i 0) mask)) p)
clear_page words i mask p t inside =
    let n : ℕ = get_or words i 0 in
    let P : Bool → Type 0 =
    λ c. Moves t (cond c (after_clearing (bit_at n (p % 64)) t) t) (page_bit words p) (page_bit (set words i (bit_and n mask)) p) in
    elim (cases_eq (p / 64) i) [
      | inl here ↦
          let was = bit_was words i p here in
          let now = bit_here words i (bit_and n mask) p inside here in
          let both = bit_at_and n mask (p % 64) in
          let small = bit_at-lt n (p % 64) in
          let small' = bit_at-lt mask (p % 64) in
          let word : picks i mask 0 p ≡ eqb (bit_at mask (p % 64)) 0 =
          ap (λ (c : Bool). cond c (eqb (bit_at mask (p % 64)) 0) false) (eq-eqb (p / 64) i here) in
          elim (cases_eq (bit_at mask (p % 64)) 0) [
            | inl hit ↦ subst P (sym (word ∙ eq-eqb (bit_at mask (p % 64)) 0 hit))
                (subst (λ (x : ℕ). Moves t (after_clearing x t) (page_bit words p) (page_bit (set words i (bit_and n mask)) p))
                was (clear_moves t (page_bit words p) (page_bit (set words i (bit_and n mask)) p) (omega arith)))
            | inr miss ↦ subst P (sym (word ∙ ne_eqb (bit_at mask (p % 64)) 0 miss))
                (still t (page_bit words p) (page_bit (set words i (bit_and n mask)) p) (omega arith))
          ]
      | inr away ↦ subst P (sym (ap (λ (c : Bool). cond c (eqb (bit_at mask (p % 64)) 0) false) (ne_eqb (p / 64) i away)))
          (still t (page_bit words p) (page_bit (set words i (bit_and n mask)) p) (bit_else words i (bit_and n mask) p away))
    ]

gather_page : (words : List ℕ) (i p : ℕ) (t : Tally) → i < length words
    → Moves t (cond (in_word i p) (after_clearing (bit_at (get_or words i 0) (p % 64)) t) t) (page_bit words p) (page_bit (set words i 0) p)
gather_page words i p t inside =
    let n : ℕ = get_or words i 0 in
    let P : Bool → Type 0 =
    λ c. Moves t (cond c (after_clearing (bit_at n (p % 64)) t) t) (page_bit words p) (page_bit (set words i 0) p) in
    elim (cases_eq (p / 64) i) [
      | inl here ↦
          let was = bit_was words i p here in
          let now = bit_here words i 0 p inside here in
          let gone = bit_at-zero (p % 64) in
          subst P (sym (eq-eqb (p / 64) i here))
          (subst (λ (x : ℕ). Moves t (after_clearing x t) (page_bit words p) (page_bit (set words i 0) p)) was
          (clear_moves t (page_bit words p) (page_bit (set words i 0) p) (omega arith)))
      | inr away ↦ subst P (sym (ne_eqb (p / 64) i away))
          (still t (page_bit words p) (page_bit (set words i 0) p) (bit_else words i 0 p away))
    ]

read_page : (words : List ℕ) (i p : ℕ) (t : Tally) → i < length words
    → Moves t (cond (in_word i p) (after_read (bit_at (get_or words i 0) (p % 64)) t) t) (page_bit words p)
    (page_bit (set words i (get_or words i 0)) p)
read_page words i p t inside =
    let n : ℕ = get_or words i 0 in
    let b : ℕ = page_bit words p in
    let b' : ℕ = page_bit (set words i n) p in
    let P : Bool → Type 0 = λ c. Moves t (cond c (after_read (bit_at n (p % 64)) t) t) b b' in
    elim (cases_eq (p / 64) i) [
      | inl here ↦
          let was = bit_was words i p here in
          let now = bit_here words i n p inside here in
          let small = bit_at-lt n (p % 64) in
          subst P (sym (eq-eqb (p / 64) i here))
          (subst (λ (x : ℕ). Moves t (after_read x t) b b') was (read_moves t b b' (omega arith) (omega arith)))
      | inr away ↦ subst P (sym (ne_eqb (p / 64) i away)) (still t b b' (bit_else words i n p away))
    ]

-- the bits past the last page, after a step on the word i that leaves them clear
pub rest_after : (len : ℕ) (words : List ℕ) (i n : ℕ) → i < length words → ((p : ℕ) → len ≤ p → page_bit words p ≡ 0)
    → ((p : ℕ) → len ≤ p → p / 64 ≡ i → bit_at (get_or words i 0) (p % 64) ≡ 0 → bit_at n (p % 64) ≡ 0) → (p : ℕ) → len ≤ p
    → page_bit (set words i n) p ≡ 0
rest_after len words i n inside was clear p l = elim (cases_eq (p / 64) i) [
  | inl here ↦ bit_here words i n p inside here ∙ clear p l here (sym (bit_was words i p here) ∙ was p l)
  | inr away ↦ bit_else words i n p away ∙ was p l
]

-- a step on the word i, with what it leaves there and the pass's tallies afterwards
rule_step : (len : ℕ) (s : State (Unit {0}) PageCounts) (id i n : ℕ) (v : PageCounts) (f : ℕ → Tally → Tally) → length v.pages ≡ len
    → 0 < v.parts → i < length s.words
    → get_elem? s.views id ≡ some v → PageAccount len s.words s.views
    → ((p : ℕ) → len ≤ p → p / 64 ≡ i → bit_at (get_or s.words i 0) (p % 64) ≡ 0 → bit_at n (p % 64) ≡ 0)
    → ((p : ℕ) → Moves (tally_of v.pages p) (f p (tally_of v.pages p)) (page_bit s.words p) (page_bit (set s.words i n) p))
    → PageAccount len (set s.words i n) (set s.views id (with_pages v (each_tally f 0 v.pages)))
rule_step len s id i n v f long some_part inside at_id r clear moves = record {
  counted = counted_step len s.words (set s.words i n) s.views id v (with_pages v (each_tally f 0 v.pages)) at_id r.counted
      (rest_after len s.words i n inside r.counted.rest clear)
      (λ p l. subst (λ (u : Tally). Moves (tally_of v.pages p) u (page_bit s.words p) (page_bit (set s.words i n) p))
      (sym (at_each f v.pages p (omega arith))) (moves p));
  shared = shared_step s.views id v (with_pages v (each_tally f 0 v.pages)) at_id refl refl some_part r.shared;
}

-- what a pass with all parts knows
pub settles_all : (len : ℕ) (words : List ℕ) (views : List PageCounts) (id : ℕ) (v : PageCounts) → get_elem? views id ≡ some v
    → PageAccount len words views → IsWhole v
    → (p : ℕ) → p < len → Settles (tally_of v.pages p) (page_bit words p)
settles_all len words views id v at_id r all p l =
    let a : total_by (on_at p) views ≡ on_at p v = alone (on_at p) (λ w idle. (idle p).1) in
    let b : total_by (off_at p) views ≡ off_at p v = alone (off_at p) (λ w idle. (idle p).2) in
    let c : total_by (marks_at p) views ≡ marks_at p v = alone (marks_at p) (λ w idle. (idle p).0) in
    let d = r.counted.bits p l in
    let m = r.counted.marks p l in
    let bounded = r.counted.bounded p l id v at_id in
    let held = bounded.0 in
    let seen = bounded.1 in
    let forth : (tally_of v.pages p).marked ≡ true → 0 < on_at p v =
    λ h. let n : marks_at p v ≡ 1 = ap bit_of h in let z = m.0 (omega arith) in omega arith in
    let back : 0 < on_at p v → (tally_of v.pages p).marked ≡ true =
    λ h. let z = m.1 (omega arith) in is_true (tally_of v.pages p).marked (omega arith) in
    (omega arith, (forth, back), omega arith, omega arith)
  where
    is_true : (b : Bool) → 0 < bit_of b → b ≡ true
    is_true true h = refl
    is_true false h = absurd (omega arith)

    none_of : (a k : ℕ) → a * 2 ^ k ≡ 0 → a ≡ 0
    none_of zero k e = refl
    none_of (suc a) k e = absurd (let q = pow_pos k in let w = more a (2 ^ k) in omega arith)
      where
        more : (a b : ℕ) → b ≤ suc a * b
        more a b = omega arith

    alone : (f : PageCounts → ℕ) → ((w : PageCounts) → IsIdle w → f w ≡ 0) → total_by f views ≡ f v
    alone f zero_of = total_alone (weight r.shared.unit) f views id v at_id
        (r.shared.whole ∙ sym (ap (λ (n : ℕ). n * 2 ^ (r.shared.unit - v.depth)) all ∙ sym (pow-add 2 v.depth (r.shared.unit - v.depth))
        ∙ ap (λ (n : ℕ). 2 ^ n) (let d = r.shared.fits id v at_id in omega arith)))
        (λ j u e z. zero_of u (r.shared.idle j u e (none_of u.parts (r.shared.unit - u.depth) z)))

settles : (len : ℕ) (s : State (Unit {0}) PageCounts) (id : ℕ) (v : PageCounts) (i : ℕ) → length v.pages ≡ len
    → get_elem? s.views id ≡ some v → PageAccount len s.words s.views
    → SettlesWord v i (get_or s.words i 0)
settles len s id v i long at_id r all p l here =
    subst (Settles (tally_of v.pages p)) (bit_was s.words i p here) (settles_all len s.words s.views id v at_id r all p (omega arith))

found_there : (l : List ℕ) (i : ℕ) → i < length l → get_elem? l i ≡ some (get_or l i 0)
found_there [] i l = absurd (omega arith)
found_there (x ∷ xs) zero l = refl
found_there (x ∷ xs) (suc i) l = found_there xs i (omega arith)

stands_at : (len : ℕ) (s : State (Unit {0}) PageCounts) (id : ℕ) (v : PageCounts) (i : ℕ) → length v.pages ≡ len → i < length s.words
    → get_elem? s.views id ≡ some v
    → PageAccount len s.words s.views → StandsAt (length v.pages) i (get_or s.words i 0) v
stands_at len s id v i long room at_id r = (
  s.words,
  found_there s.words i room,
  (s.views, subst (λ (n : ℕ). PageAccount n s.words s.views) (sym long) r, (id, at_id)),
)

pub marks_allowed :
    (len slots id : ℕ) (me : PassSeat) (i mask : ℕ) → length me.0.pages ≡ len → 0 < me.0.parts → i < div_ceil len 64 → NoneBeyond len i mask
    → Allows (KeepsRule len) slots id me i (λ n. bit_or n mask) (MarkStep (step slots i mask 0 none) me)
marks_allowed len slots id me i mask long some_part inside none_beyond s q _ at_id _ =
    let r = q.1 in
    let n : ℕ = get_or s.words i 0 in
    let room : i < length s.words = let c = q.0 in omega arith in (
      with_pages me.0 (marked_by (picks i mask 1) n me.0.pages),
      keeps,
      tt,
      (
        length-set s.words i (bit_or n mask) ∙ q.0,
        rule_step len s id i (bit_or n mask) me.0 (λ p t. cond (picks i mask 1 p) (after_mark (bit_at n (p % 64)) t) t) long some_part
            room at_id r
            (λ p l here was. let both = bit_at_or n mask (p % 64) in let m = none_beyond p l here in omega arith)
            (λ p. mark_page s.words i mask p (tally_of me.0.pages p) room),
      ),
      (refl, settles len s id me.0 i long at_id r),
    )

pub clears_allowed : (len slots id : ℕ) (me : PassSeat) (i mask : ℕ) → length me.0.pages ≡ len → 0 < me.0.parts → i < div_ceil len 64
    → Allows (KeepsRule len) slots id me i (λ n. bit_and n mask) (ClearStep (step slots i mask 0 none) me)
clears_allowed len slots id me i mask long some_part inside s q _ at_id _ =
    let r = q.1 in
    let n : ℕ = get_or s.words i 0 in
    let room : i < length s.words = let c = q.0 in omega arith in (
      with_pages me.0 (cleared_by (picks i mask 0) n me.0.pages),
      keeps,
      tt,
      (
        length-set s.words i (bit_and n mask) ∙ q.0,
        rule_step len s id i (bit_and n mask) me.0 (λ p t. cond (picks i mask 0 p) (after_clearing (bit_at n (p % 64)) t) t) long some_part
            room at_id r
            (λ p l here was. let both = bit_at_and n mask (p % 64) in omega arith)
            (λ p. clear_page s.words i mask p (tally_of me.0.pages p) room),
      ),
      (refl, settles len s id me.0 i long at_id r),
    )

pub gathers_allowed : (len slots id : ℕ) (me : PassSeat) (i : ℕ) → length me.0.pages ≡ len → 0 < me.0.parts → i < div_ceil len 64
    → Allows (KeepsRule len) slots id me i (λ n. 0) (GatherStep (step slots i 0 0 none) me)
gathers_allowed len slots id me i long some_part inside s q _ at_id _ =
    let r = q.1 in
    let n : ℕ = get_or s.words i 0 in
    let room : i < length s.words = let c = q.0 in omega arith in (
      with_pages me.0 (cleared_by (in_word i) n me.0.pages),
      keeps,
      tt,
      (
        length-set s.words i 0 ∙ q.0,
        rule_step len s id i 0 me.0 (λ p t. cond (in_word i p) (after_clearing (bit_at n (p % 64)) t) t) long some_part room at_id r
            (λ p l here was. bit_at-zero (p % 64))
            (λ p. gather_page s.words i p (tally_of me.0.pages p) room),
      ),
      (
        refl,
        settles len s id me.0 i long at_id r,
        λ p l here. sym (bit_was s.words i p here) ∙ r.counted.rest p (omega arith),
        stands_at len s id me.0 i long room at_id r,
      ),
    )

pub reads_allowed : (len slots id : ℕ) (me : PassSeat) (i : ℕ) → length me.0.pages ≡ len → 0 < me.0.parts → i < div_ceil len 64
    → Allows (KeepsRule len) slots id me i (λ n. n) (ReadStep (step slots i 0 0 none) me)
reads_allowed len slots id me i long some_part inside s q _ at_id _ =
    let r = q.1 in
    let n : ℕ = get_or s.words i 0 in
    let room : i < length s.words = let c = q.0 in omega arith in (
      with_pages me.0 (read_by (in_word i) n me.0.pages),
      keeps,
      tt,
      (
        length-set s.words i n ∙ q.0,
        rule_step len s id i n me.0 (λ p t. cond (in_word i p) (after_read (bit_at n (p % 64)) t) t) long some_part room at_id r
            (λ p l here was. was)
            (λ p. read_page s.words i p (tally_of me.0.pages p) room),
      ),
      (
        refl,
        settles len s id me.0 i long at_id r,
        λ p l here. sym (bit_was s.words i p here) ∙ r.counted.rest p (omega arith),
        stands_at len s id me.0 i long room at_id r,
      ),
    )

-- clear words and the first pass
pub begins : (len : ℕ) (words : List ℕ) → length words ≡ table_words len → ((i : ℕ) → get_or words i 0 ≡ 0) →
    KeepsRule len (opening words [] (first_pass len))
unfolding page_bit
begins len words count clear = (
  count,
  record {
    counted = record {
      rest = λ p l. zero_bit p;
      bits = λ p l. let z = zero_bit p in let t = first_at p in let a : on_at p (first_pass len) ≡ 0 = ap (λ (t : Tally). t.on) t in
          let b : off_at p (first_pass len)
          ≡ 0 = ap (λ (t : Tally). t.off) t in omega arith;
      marks = λ p l. let t = first_at p in
          let a : on_at p (first_pass len) ≡ 0 = ap (λ (t : Tally). t.on) t in
          let b : marks_at p (first_pass len) ≡ 0 = ap (λ (t : Tally). bit_of t.marked) t in
          ((λ h. absurd (omega arith)), (λ h. absurd (omega arith)));
      bounded = λ p l j v e. ⊎_elim
          (λ (z : get_elem? [] j ≡ some v). absurd (some-ne-none v (sym z)))
          (λ (z : first_pass len ≡ v). subst (λ (q : PageCounts). ((tally_of q.pages p).held ≤ total_by (on_at p) (first_pass len ∷ [])) ×
          ((tally_of q.pages p).seen ≤ total_by (off_at p) (first_pass len ∷ []))) z
          (let t = first_at p in
          let a : (tally_of (first_pass len).pages p).held ≡ 0 = ap (λ (t : Tally). t.held) t in
          let b : (tally_of (first_pass len).pages p).seen ≡ 0 = ap (λ (t : Tally). t.seen) t in
          (omega arith, omega arith)))
          (at_snoc [] (first_pass len) v j e);
    };
    shared = record {
      unit = 0;
      fits = λ j v e. ⊎_elim (λ (z : get_elem? [] j ≡ some v). absurd (some-ne-none v (sym z)))
          (λ (z : first_pass len ≡ v). subst (λ (q : PageCounts). q.depth ≤ 0) z (omega arith)) (at_snoc [] (first_pass len) v j e);
      whole = refl;
      idle = λ j v e none. ⊎_elim
          (λ (z : get_elem? [] j ≡ some v). absurd (some-ne-none v (sym z)))
          (λ (z : first_pass len ≡ v). absurd (let y : 1 ≡ v.parts = ap (λ (q : PageCounts). q.parts) z in omega arith))
          (at_snoc [] (first_pass len) v j e);
    };
  },
)
  where
    zero_bit : (p : ℕ) → bit_at (get_or words (p / 64) 0) (p % 64) ≡ 0
    zero_bit p = ap (λ (n : ℕ). bit_at n (p % 64)) (clear (p / 64)) ∙ bit_at-zero (p % 64)

    first_at : (p : ℕ) → tally_of (replicate len no_tally) p ≡ no_tally
    first_at p = elim (cases_lt p len) [
      | inl h ↦ get_or-replicate len p no_tally no_tally h
      | inr h ↦ at_past (replicate len no_tally) p (omega (arith, length-replicate {A = Tally} len no_tally))
    ]

-- words with the same bits
pub rule_same : (len : ℕ) (words words' : List ℕ) (views : List PageCounts) → ((p : ℕ) → page_bit words' p ≡ page_bit words p) →
    PageAccount len words views → PageAccount len words' views
rule_same len words words' views same r = record {
  counted = record {
    rest = λ p l. same p ∙ r.counted.rest p l;
    bits = λ p l. let a = same p in let b = r.counted.bits p l in omega arith;
    marks = r.counted.marks;
    bounded = r.counted.bounded;
  };
  shared = r.shared;
}
