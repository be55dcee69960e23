-- Passes that are split, joined and met keep the rule.
use Rattle.std.proofs.Common.{◌≡◌, ◌≢◌, ℕ, zero, suc, ◌+◌, ◌-◌, ◌*◌, ◌^◌, ◌<◌, ◌≤◌, max, Bool, true, false, cond, List, [], ◌∷◌, ◌++◌}
use Rattle.std.proofs.Common.{length, set, refl, sym, ap, ◌∙◌, subst, inl, inr, ⊎_elim, arith}
use Rattle.std.proofs.lemmas.Bool.{cases_lt}
use Rattle.std.proofs.lemmas.Nat.{pow-add, pow_pos}
use mathlib.Core.Option.{some, some-ne-none}
use lib.ListN.{get_elem?}
use Rattle.atomic_table.specs.Table.{Splits, Joins}
use Rattle.atomic_table.proofs.Lists.{at_set, at_snoc, set_again, set_here, set_else}
use Rattle.vm_atomic_bitmaps.specs.declared.counts.Tally.{Tally}
use Rattle.vm_atomic_bitmaps.specs.declared.counts.PageCounts.{PageCounts}
use Rattle.vm_bitmaps.specs.Words.{bit_of}
use Rattle.vm_atomic_bitmaps.specs.Counts.{no_tally, tally_of, both_of, only_seen, joined_with, clear_of, seen_of, spent, with_pages}
use Rattle.vm_atomic_bitmaps.specs.Counts.{preserved_half, new_half, telling, both_passes, met_with}
use Rattle.vm_atomic_bitmaps.specs.Rule.{total_by, marks_at, on_at, off_at, Counted, weight, IsIdle, AddUp, KeepsRule}
use Rattle.vm_atomic_bitmaps.proofs.PassTotals.{total_set, total_snoc, total_part, total_times, length-each_tally, at_each, at_past}
use Rattle.vm_atomic_bitmaps.proofs.PassTotals.{each_same}

-- where the pass's pages stay, and a new one has counted nothing, and seen no more than it
counted_fork : (len : ℕ) (words : List ℕ) (views : List PageCounts) (id : ℕ) (v v' u : PageCounts) → get_elem? views id ≡ some v
    → ((p : ℕ) → tally_of v'.pages p ≡ tally_of v.pages p)
    → IsIdle u → ((p : ℕ)
    → ((tally_of u.pages p).held ≤ (tally_of v.pages p).held) × ((tally_of u.pages p).seen ≤ (tally_of v.pages p).seen)) →
    Counted len words views → Counted len words (set views id v' ++ u ∷ [])
counted_fork len words views id v v' u at_id same idle less c = record {
  rest = c.rest;
  bits = λ p l. let b = c.bits p l in let x = ons p in let y = offs p in omega arith;
  marks = λ p l. let m = c.marks p l in let x = ons p in let y = mks p in (
    (λ h. let r = m.0 (omega arith) in omega arith),
    (λ h. let r = m.1 (omega arith) in omega arith),
  );
  bounded = λ p l j w e. let x = ons p in let y = offs p in ⊎_elim
      (λ (old : get_elem? (set views id v') j ≡ some w). ⊎_elim
      (λ (z : (j ≡ id) × (v' ≡ w)). let r = c.bounded p l id v at_id in let r0 = r.0 in let r1 = r.1 in
      let it : tally_of w.pages p ≡ tally_of v.pages p = ap (λ (q : PageCounts). tally_of q.pages p) (sym z.1) ∙ same p in
      subst (λ (t : Tally). (t.held ≤ total_by (on_at p) (set views id v' ++ u ∷ []))
      × (t.seen ≤ total_by (off_at p) (set views id v' ++ u ∷ []))) (sym it) (omega arith, omega arith))
      (λ (z : (j ≢ id) × (get_elem? views j ≡ some w)). let r = c.bounded p l j w z.1 in
      let r0 = r.0 in
      let r1 = r.1 in
      (omega arith, omega arith))
      (at_set views id j v' w old))
      (λ (new : u ≡ w). let r = c.bounded p l id v at_id in
      let r0 = r.0 in
      let r1 = r.1 in
      let k = less p in
      let k0 = k.0 in
      let k1 = k.1 in
      subst (λ (q : PageCounts). ((tally_of q.pages p).held ≤ total_by (on_at p) (set views id v' ++ u ∷ []))
      × ((tally_of q.pages p).seen ≤ total_by (off_at p) (set views id v' ++ u ∷ [])))
      new (omega arith, omega arith))
      (at_snoc (set views id v') u w j e);
}
  where
    sums : (f : Tally → ℕ) (p : ℕ) → f (tally_of u.pages p) ≡ 0 →
        total_by (λ w. f (tally_of w.pages p)) (set views id v' ++ u ∷ []) ≡ total_by (λ w. f (tally_of w.pages p)) views
    sums f p z =
        let a = total_snoc (λ w. f (tally_of w.pages p)) (set views id v') u in
        let b = total_set (λ w. f (tally_of w.pages p)) views id v v' at_id in
        let k : f (tally_of v'.pages p) ≡ f (tally_of v.pages p) = ap f (same p) in omega arith

    ons : (p : ℕ) → total_by (on_at p) (set views id v' ++ u ∷ []) ≡ total_by (on_at p) views
    ons p = sums (λ t. t.on) p (idle p).1

    offs : (p : ℕ) → total_by (off_at p) (set views id v' ++ u ∷ []) ≡ total_by (off_at p) views
    offs p = sums (λ t. t.off) p (idle p).2

    mks : (p : ℕ) → total_by (marks_at p) (set views id v' ++ u ∷ []) ≡ total_by (marks_at p) views
    mks p = sums (λ t. bit_of t.marked) p (idle p).0

pub at_clear_of : (l : List Tally) (p : ℕ) → tally_of (clear_of l) p ≡ no_tally
at_clear_of l p = elim (cases_lt p (length l)) [
  | inl h ↦ at_each (λ p t. no_tally) l p h
  | inr h ↦ at_past (clear_of l) p (omega (arith, length-each_tally (λ p t. no_tally) 0 l))
]

pub at_seen_of : (l : List Tally) (p : ℕ) → tally_of (seen_of l) p ≡ only_seen (tally_of l p)
at_seen_of l p = elim (cases_lt p (length l)) [
  | inl h ↦ at_each (λ p t. only_seen t) l p h
  | inr h ↦ at_past (seen_of l) p (omega (arith, length-each_tally (λ p t. only_seen t) 0 l)) ∙ sym (ap only_seen (at_past l p h))
]

-- parts in a finer unit
finer : (k m : ℕ) (v : PageCounts) → v.depth ≤ k → weight (k + m) v ≡ weight k v * 2 ^ m
finer k m v h =
    let split : k + m - v.depth ≡ k - v.depth + m = omega arith in
    let power : 2 ^ (k + m - v.depth) ≡ 2 ^ (k - v.depth) * 2 ^ m = ap (λ (n : ℕ). 2 ^ n) split ∙ pow-add 2 (k - v.depth) m in
    ap (λ (n : ℕ). v.parts * n) power ∙ assoc v.parts (2 ^ (k - v.depth)) (2 ^ m)
  where
    assoc : (a b c : ℕ) → a * (b * c) ≡ a * b * c
    assoc a b c = omega arith

finer_total : (k m : ℕ) (views : List PageCounts) → ((id : ℕ) (v : PageCounts) → get_elem? views id ≡ some v → v.depth ≤ k) →
    total_by (weight k) views ≡ 2 ^ k →
    total_by (weight (k + m)) views ≡ 2 ^ (k + m)
finer_total k m views fits whole =
    total_times (2 ^ m) (weight k) (weight (k + m)) views (λ id v e. finer k m v (fits id v e)) ∙ ap (λ (n : ℕ). n * 2 ^ m) whole
    ∙ sym (pow-add 2 k m)

pub halves_allowed : (len id : ℕ) (v : PageCounts) → 0 < v.parts → Splits (KeepsRule len) id v (preserved_half v) (new_half v)
halves_allowed len id v some_part s q at_id = let r = q.1 in (
  q.0,
  record {
    counted = counted_fork len s.words s.views id v (preserved_half v) (new_half v) at_id (λ p. refl)
        (λ p. let z = at_clear_of v.pages p in
        (ap (λ (t : Tally). bit_of t.marked) z, ap (λ (t : Tally). t.on) z, ap (λ (t : Tally). t.off) z))
        (λ p. let z = at_clear_of v.pages p in
        let h : (tally_of (clear_of v.pages) p).held ≡ 0 = ap (λ (t : Tally). t.held) z in
        let k : (tally_of (clear_of v.pages) p).seen ≡ 0 = ap (λ (t : Tally). t.seen) z in
        (omega arith, omega arith))
        r.counted;
    shared = record {
      unit = k + 1;
      fits = λ j u e. ⊎_elim
          (λ (old : get_elem? (set s.views id (preserved_half v)) j ≡ some u). ⊎_elim
          (λ (z : (j ≡ id) × (preserved_half v ≡ u)). let d = deep in subst (λ (q : PageCounts). q.depth ≤ k + 1) z.1 (omega arith))
          (λ (z : (j ≢ id) × (get_elem? s.views j ≡ some u)). let f = r.shared.fits j u z.1 in omega arith)
          (at_set s.views id j (preserved_half v) u old))
          (λ (new : new_half v ≡ u). let d = deep in subst (λ (q : PageCounts). q.depth ≤ k + 1) new (omega arith))
          (at_snoc (set s.views id (preserved_half v)) (new_half v) u j e);
      whole =
          let a = total_snoc (weight (k + 1)) (set s.views id (preserved_half v)) (new_half v) in
          let b = total_set (weight (k + 1)) s.views id v (preserved_half v) at_id in
          let all = finer_total k 1 s.views r.shared.fits r.shared.whole in
          let one = finer k 1 v deep in
          let d = deep in let shift : k + 1 - suc v.depth ≡ k - v.depth = omega arith in
          let half : weight (k + 1) (preserved_half v) ≡ weight k v = ap (λ (n : ℕ). v.parts * 2 ^ n) shift in
          let other : weight (k + 1) (new_half v) ≡ weight k v = ap (λ (n : ℕ). v.parts * 2 ^ n) shift in omega arith;
      idle = λ j u e none. ⊎_elim
          (λ (old : get_elem? (set s.views id (preserved_half v)) j ≡ some u). ⊎_elim
          (λ (z : (j ≡ id) × (preserved_half v ≡ u)). absurd (let y : v.parts ≡ u.parts = ap (λ (q : PageCounts). q.parts) z.1 in omega
          arith))
          (λ (z : (j ≢ id) × (get_elem? s.views j ≡ some u)). r.shared.idle j u z.1 none)
          (at_set s.views id j (preserved_half v) u old))
          (λ (new : new_half v ≡ u). absurd (let y : v.parts ≡ u.parts = ap (λ (q : PageCounts). q.parts) new in omega arith))
          (at_snoc (set s.views id (preserved_half v)) (new_half v) u j e);
    };
  },
)
  where
    k : ℕ
    k = q.1.shared.unit

    deep : v.depth ≤ k
    deep = q.1.shared.fits id v at_id

pub reports_allowed : (len id : ℕ) (v : PageCounts) → 0 < v.parts → Splits (KeepsRule len) id v v (telling v)
reports_allowed len id v some_part s q at_id = let r = q.1 in (
  q.0,
  record {
    counted = counted_fork len s.words s.views id v v (telling v) at_id (λ p. refl) (λ p. idle_reported v p)
        (λ p. let z = at_seen_of v.pages p in
        let h : (tally_of (seen_of v.pages) p).held ≡ (tally_of v.pages p).held = ap (λ (t : Tally). t.held) z in
        let k : (tally_of (seen_of v.pages) p).seen ≡ (tally_of v.pages p).seen = ap (λ (t : Tally). t.seen) z in
        (omega arith, omega arith))
        r.counted;
    shared = record {
      unit = r.shared.unit;
      fits = λ j u e. ⊎_elim
          (λ (old : get_elem? (set s.views id v) j ≡ some u).
          r.shared.fits j u (subst (λ (l : List PageCounts). get_elem? l j ≡ some u) (set_again s.views id v at_id) old))
          (λ (new : telling v ≡ u). subst (λ (q : PageCounts). q.depth ≤ r.shared.unit) new (omega arith))
          (at_snoc (set s.views id v) (telling v) u j e);
      whole =
          let a = total_snoc (weight r.shared.unit) (set s.views id v) (telling v) in
          let b = total_set (weight r.shared.unit) s.views id v v at_id in
          let all = r.shared.whole in
          let none : weight r.shared.unit (telling v) ≡ 0 = omega arith in omega arith;
      idle = λ j u e none. ⊎_elim
          (λ (old : get_elem? (set s.views id v) j ≡ some u).
          r.shared.idle j u (subst (λ (l : List PageCounts). get_elem? l j ≡ some u) (set_again s.views id v at_id) old) none)
          (λ (new : telling v ≡ u). subst IsIdle new (idle_reported v))
          (at_snoc (set s.views id v) (telling v) u j e);
    };
  },
)
  where
    idle_reported : (v : PageCounts) → IsIdle (telling v)
    idle_reported v p =
        let z = at_seen_of v.pages p in (ap (λ (t : Tally). bit_of t.marked) z, ap (λ (t : Tally). t.on) z, ap (λ (t : Tally). t.off) z)

-- two passes, of which the first takes in the other
module _ (len : ℕ) (words : List ℕ) (views : List PageCounts) (id : ℕ) (v : PageCounts) (other : ℕ) (u : PageCounts)
    (long : length v.pages ≡ len) (at_id : get_elem? views id ≡ some v)
    (apart : ¬ (other ≡ id)) (at_other : get_elem? (set views id (both_passes v u)) other ≡ some u) where
  abbrev joint : List PageCounts
  joint = set (set views id (both_passes v u)) other spent

  was_other : get_elem? views other ≡ some u
  was_other =
      ⊎_elim (λ (z : (other ≡ id) × (both_passes v u ≡ u)). absurd (apart z.0))
      (λ (z : (other ≢ id) × (get_elem? views other ≡ some u)). z.1)
      (at_set views id other (both_passes v u) u at_other)

  joint_sum : (f : PageCounts → ℕ) → f spent ≡ 0 → total_by f joint + f u + f v ≡ total_by f views + f (both_passes v u)
  joint_sum f z =
      let a = total_set f (set views id (both_passes v u)) other u spent at_other in
      let b = total_set f views id v (both_passes v u) at_id in omega arith

  at_joint : (p : ℕ) → p < len → tally_of (both_passes v u).pages p ≡ both_of (tally_of v.pages p) (tally_of u.pages p)
  at_joint p l = at_each (λ p t. both_of t (tally_of u.pages p)) v.pages p (omega arith)

  ons : (p : ℕ) → p < len → total_by (on_at p) joint ≡ total_by (on_at p) views
  ons p l = let a = joint_sum (on_at p) refl in
      let b : on_at p (both_passes v u) ≡ on_at p v + on_at p u = ap (λ (t : Tally). t.on) (at_joint p l) in
      omega arith

  offs : (p : ℕ) → p < len → total_by (off_at p) joint ≡ total_by (off_at p) views
  offs p l = let a = joint_sum (off_at p) refl in
      let b : off_at p (both_passes v u) ≡ off_at p v + off_at p u = ap (λ (t : Tally). t.off) (at_joint p l) in
      omega arith

  either_of : (a b : Bool) → bit_of (cond a true b) ≡ max (bit_of a) (bit_of b)
  either_of true true = refl
  either_of true false = refl
  either_of false true = refl
  either_of false false = refl

  there : get_elem? joint id ≡ some (both_passes v u)
  there = set_else (set views id (both_passes v u)) other id spent (λ e. apart (sym e))
      ∙ set_here views id (both_passes v u) (within views id v at_id)
    where
      within : (l : List PageCounts) (i : ℕ) (x : PageCounts) → get_elem? l i ≡ some x → i < length l
      within [] i x e = absurd (some-ne-none x (sym e))
      within (y ∷ ys) zero x e = omega arith
      within (y ∷ ys) (suc i) x e = let r = within ys i x e in omega arith

  fits_joint : (P : PageCounts → Type 0) → P spent → P (both_passes v u) → ((j : ℕ) (w : PageCounts) → get_elem? views j ≡ some w → P w) →
      (j : ℕ) (w : PageCounts) → get_elem? joint j ≡ some w → P w
  fits_joint P gone mine theirs j w e = ⊎_elim
      (λ (z : (j ≡ other) × (spent ≡ w)). subst P z.1 gone)
      (λ (z : (j ≢ other) × (get_elem? (set views id (both_passes v u)) j ≡ some w)). ⊎_elim
      (λ (y : (j ≡ id) × (both_passes v u ≡ w)). subst P y.1 mine)
      (λ (y : (j ≢ id) × (get_elem? views j ≡ some w)). theirs j w y.1)
      (at_set views id j (both_passes v u) w z.1))
      (at_set (set views id (both_passes v u)) other j spent w e)

  counted_joint : Counted len words views → Counted len words joint
  counted_joint c = record {
    rest = c.rest;
    bits = λ p l. let b = c.bits p l in let x = ons p l in let y = offs p l in omega arith;
    marks = λ p l.
        let m = c.marks p l in
        let x = ons p l in
        let a = joint_sum (marks_at p) refl in
        let b : marks_at p (both_passes v u) ≡ max (marks_at p v) (marks_at p u) = ap (λ (t : Tally). bit_of t.marked) (at_joint p l)
        ∙ either_of (tally_of v.pages p).marked (tally_of u.pages p).marked in
        let part = total_part (marks_at p) joint id (both_passes v u) there in (
          (λ h. let r = m.0 (omega arith) in omega arith),
          (λ h. let r = m.1 (omega arith) in omega arith),
        );
    bounded = λ p l.
        let x = ons p l in
        let y = offs p l in
        let a = c.bounded p l id v at_id in
        let a0 = a.0 in
        let a1 = a.1 in
        let b = c.bounded p l other u was_other in
        let b0 = b.0 in
        let b1 = b.1 in
        fits_joint (λ w. ((tally_of w.pages p).held ≤ total_by (on_at p) joint) × ((tally_of w.pages p).seen ≤ total_by (off_at p) joint))
        (omega arith, omega arith)
        (subst (λ (t : Tally). (t.held ≤ total_by (on_at p) joint) × (t.seen ≤ total_by (off_at p) joint)) (sym (at_joint p l))
        (omega arith, omega arith))
        (λ j w e. let r = c.bounded p l j w e in let r0 = r.0 in let r1 = r.1 in (omega arith, omega arith));
  }

  shared_joint : 0 < v.parts → AddUp views → AddUp joint
  shared_joint some_part c = record {
    unit = c.unit + c.unit;
    fits = fits_joint (λ w. w.depth ≤ c.unit + c.unit) (omega arith) (let a = c.fits id v at_id in let b = c.fits other u was_other in
        omega arith) (λ j w e. let r = c.fits j w e in omega arith);
    whole =
        let k = c.unit in
        let a = c.fits id v at_id in
        let b = c.fits other u was_other in
        let none : weight (k + k) spent ≡ 0 = omega arith in
        let sum = joint_sum (weight (k + k)) none in
        let all = finer_total k k views c.fits c.whole in
        let mine : (v.parts * 2 ^ u.depth) * 2 ^ (k + k - (v.depth + u.depth)) ≡ weight (k + k) v =
        times v.parts u.depth (k + k - (v.depth + u.depth)) (k + k - v.depth) (omega arith) in
        let its : (u.parts * 2 ^ v.depth) * 2 ^ (k + k - (v.depth + u.depth)) ≡ weight (k + k) u =
        times u.parts v.depth (k + k - (v.depth + u.depth)) (k + k - u.depth) (omega arith) in
        let both : weight (k + k) (both_passes v u) ≡ weight (k + k) v + weight (k + k) u =
        spread2 (v.parts * 2 ^ u.depth) (u.parts * 2 ^ v.depth) (2 ^ (k + k - (v.depth + u.depth)))
        ∙ (λ i. mine i + its i) in omega arith;
    idle = fits_joint (λ w. w.parts ≡ 0 → IsIdle w) (λ z p. (refl, refl, refl))
        (λ z. absurd (let e : v.parts * 2 ^ u.depth + u.parts * 2 ^ v.depth ≡ 0 = z in
        let q = positive v.parts (2 ^ u.depth) some_part (pow_pos u.depth) in omega arith))
        c.idle;
  }
    where
      times : (a d r m : ℕ) → d + r ≡ m → (a * 2 ^ d) * 2 ^ r ≡ a * 2 ^ m
      times a d r m e = assoc a (2 ^ d) (2 ^ r) ∙ ap (λ (n : ℕ). a * n) (sym (pow-add 2 d r) ∙ ap (λ (n : ℕ). 2 ^ n) e)
        where
          assoc : (a b c : ℕ) → a * b * c ≡ a * (b * c)
          assoc a b c = omega arith

      spread2 : (a b c : ℕ) → (a + b) * c ≡ a * c + b * c
      spread2 a b c = omega arith

      positive : (a b : ℕ) → 0 < a → 0 < b → 0 < a * b
      positive (suc a) b h l = omega arith
      positive zero b h l = absurd (omega arith)

pub joins_allowed : (len id : ℕ) (v : PageCounts) (other : ℕ) (u : PageCounts) → length v.pages ≡ len → 0 < v.parts →
    Joins (KeepsRule len) id v other u (both_passes v u) spent
joins_allowed len id v other u long some_part s q at_id apart at_other = let r = q.1 in (
  q.0,
  record {
    counted = counted_joint len s.words s.views id v other u long at_id apart at_other r.counted;
    shared = shared_joint len s.words s.views id v other u long at_id apart at_other some_part r.shared;
  },
)

-- a meeting
pub meets : (v u : PageCounts) → both_passes v (telling u) ≡ with_pages v (met_with u.pages v.pages)
meets v u = λ i. record { pages = pages i; parts = parts i; depth = depth i }
  where
    parts : v.parts * 1 + 0 * 2 ^ v.depth ≡ v.parts
    parts = omega arith

    depth : v.depth + 0 ≡ v.depth
    depth = omega arith

    preserved : (b : Bool) → cond b true false ≡ b
    preserved true = refl
    preserved false = refl

    one : (t w : Tally) → both_of t (only_seen w) ≡ record {
      marked = t.marked;
      on = t.on;
      off = t.off;
      held = max t.held w.held;
      seen = max t.seen w.seen;
      mark_steps = t.mark_steps;
      clear_steps = t.clear_steps;
    }
    one t w = let on : t.on + 0 ≡ t.on = omega arith in let off : t.off + 0 ≡ t.off = omega arith in
        let marks : t.mark_steps + 0 ≡ t.mark_steps = omega arith in let clears : t.clear_steps + 0 ≡ t.clear_steps = omega arith in
        λ i. record {
          marked = preserved t.marked i;
          on = on i;
          off = off i;
          held = max t.held w.held;
          seen = max t.seen w.seen;
          mark_steps = marks i;
          clear_steps = clears i;
        }

    met : (p : ℕ) (t : Tally) → both_of t (tally_of (seen_of u.pages) p) ≡ record {
      marked = t.marked;
      on = t.on;
      off = t.off;
      held = max t.held (tally_of u.pages p).held;
      seen = max t.seen (tally_of u.pages p).seen;
      mark_steps = t.mark_steps;
      clear_steps = t.clear_steps;
    }
    met p t = ap (λ (w : Tally). both_of t w) (at_seen_of u.pages p) ∙ one t (tally_of u.pages p)

    pages : joined_with (seen_of u.pages) v.pages ≡ met_with u.pages v.pages
    pages = each_same (λ p t. both_of t (tally_of (seen_of u.pages) p))
        (λ p t. record {
          marked = t.marked;
          on = t.on;
          off = t.off;
          held = max t.held (tally_of u.pages p).held;
          seen = max t.seen (tally_of u.pages p).seen;
          mark_steps = t.mark_steps;
          clear_steps = t.clear_steps;
        })
        met 0 v.pages
