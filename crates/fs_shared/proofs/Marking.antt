-- Marks of one page after another, and what a share's pass keeps of it.
use Rattle.std.proofs.Common.{◌≡◌, ℕ, ◌<◌, ◌≤◌, Bool, true, false, List, [], ◌∷◌, ◌++◌, length, nat_eq, refl, sym, ap, ◌∙◌, subst, inl, inr}
use Rattle.std.proofs.Common.{⊎_elim, arith}
use Rattle.std.specs.List.{Contains}
use Rattle.std.proofs.lemmas.Bool.{cases_lt, eq-eqb, ne_eqb}
use Rattle.std.proofs.lemmas.List.Elements.{Contains-append_left, Contains-push, Contains-push_cases}
use Rattle.vm_atomic_bitmaps.specs.declared.counts.Tally.{Tally}
use Rattle.vm_atomic_bitmaps.specs.declared.counts.PageCounts.{PageCounts}
use Rattle.vm_atomic_bitmaps.specs.Counts.{tally_of, joined_with, met_with, both_of, met_of, new_half}
use Rattle.vm_atomic_bitmaps.specs.Passes.{ByMark, Changes}
use Rattle.vm_atomic_bitmaps.proofs.PassTotals.{length-each_tally, at_each, at_past}
use Rattle.vm_atomic_bitmaps.proofs.PassParts.{at_clear_of}
use Rattle.fs_shared.specs.Portion.{IsMarked, MarksPages}

-- from t to u the page was not cleared, no clear more is known of, and a mark stands
record Onward (t u : Tally) : Type 0 where
  pub recorded : t.marked ≡ true → u.marked ≡ true
  pub off : u.off ≡ t.off
  pub seen : u.seen ≡ t.seen
  pub held : t.held ≤ u.held
  pub steps : t.mark_steps ≤ u.mark_steps

onward_same : (t : Tally) → Onward t t
onward_same t = record { recorded = λ marked. marked; off = refl; seen = refl; held = omega arith; steps = omega arith }

-- one page more
pub marks_more : (v : PageCounts) (pages : List ℕ) (x : ℕ) (old cur new : List Tally) → MarksPages pages old cur →
    Changes (ByMark v) (nat_eq x) cur new → MarksPages (pages ++ x ∷ []) old new
marks_more v pages x old cur new m c = record {
  count = c.count ∙ m.count;
  marked = λ p within here. let k = m.count in
      ⊎_elim
      (λ (before : Contains pages p). stays p (m.marked p within before))
      (λ (now : x ≡ p). fresh p (omega arith) (subst (λ (q : ℕ). nat_eq x q ≡ true) now (at_own x)))
      (Contains-push_cases pages x p here);
  same = λ p none. c.same p (ne_eqb x p (λ now. none (subst (Contains (pages ++ x ∷ [])) now (Contains-push pages x))))
      ∙ m.same p (λ before. none (Contains-append_left pages (x ∷ []) p before));
  recorded = λ p marked. (each p).recorded (m.recorded p marked);
  off = λ p. (each p).off ∙ m.off p;
  seen = λ p. (each p).seen ∙ m.seen p;
  held = λ p. let first = m.held p in let second = (each p).held in omega arith;
  steps = λ p within here. let k = m.count in
      ⊎_elim
      (λ (before : Contains pages p). let first = m.steps p within before in let second = (each p).steps in omega arith)
      (λ (now : x ≡ p). let first = m.steps_recorded p in
      let second = stepped p (omega arith) (subst (λ (q : ℕ). nat_eq x q ≡ true) now (at_own x)) in
      omega arith)
      (Contains-push_cases pages x p here);
  steps_recorded = λ p. let first = m.steps_recorded p in let second = (each p).steps in omega arith;
}
  where
    at_own : (n : ℕ) → nat_eq n n ≡ true
    at_own n = eq-eqb n n refl

    fresh : (p : ℕ) → p < length cur → nat_eq x p ≡ true → IsMarked (tally_of new p)
    fresh p within e = let was = c.changed p within e in subst IsMarked (sym was.3) (refl, omega arith)

    stepped : (p : ℕ) → p < length cur → nat_eq x p ≡ true → (tally_of cur p).mark_steps < (tally_of new p).mark_steps
    stepped p within e = subst (λ (t : Tally). (tally_of cur p).mark_steps < t.mark_steps) (sym (c.changed p within e).3) (omega arith)

    by_hit : (p : ℕ) → p < length cur → (b : Bool) → nat_eq x p ≡ b → Onward (tally_of cur p) (tally_of new p)
    by_hit p within true e = subst (Onward (tally_of cur p)) (sym (c.changed p within e).3)
        (record { recorded = λ marked. refl; off = refl; seen = refl; held = omega arith; steps = omega arith })
    by_hit p within false e = subst (Onward (tally_of cur p)) (sym (c.same p e)) (onward_same (tally_of cur p))

    each : (p : ℕ) → Onward (tally_of cur p) (tally_of new p)
    each p = elim (cases_lt p (length cur)) [
      | inl within ↦ by_hit p within (nat_eq x p) refl
      | inr past ↦ let k = c.count in
          subst (Onward (tally_of cur p)) (sym (at_past new p (omega arith) ∙ sym (at_past cur p past))) (onward_same (tally_of cur p))
    ]

    stays : (p : ℕ) → IsMarked (tally_of cur p) → IsMarked (tally_of new p)
    stays p (marked, ahead) = let e = each p in (e.recorded marked, (let s = e.seen in let h = e.held in omega arith))

-- nothing is cleared by a pass that has counted nothing
pub none_by_new : (v : PageCounts) (p : ℕ) → (tally_of (new_half v).pages p).off ≡ 0
none_by_new v p = ap (λ (t : Tally). t.off) (at_clear_of v.pages p)

-- two that cleared nothing did so together
pub none_by_both : (us ts : List Tally) → ((p : ℕ) → (tally_of ts p).off ≡ 0) → ((p : ℕ) → (tally_of us p).off ≡ 0) → (p : ℕ) →
    (tally_of (joined_with us ts) p).off ≡ 0
none_by_both us ts none_t none_u p = elim (cases_lt p (length ts)) [
  | inl within ↦ let a = none_t p in
      let b = none_u p in
      ap (λ (t : Tally). t.off) (at_each (λ p t. both_of t (tally_of us p)) ts p within) ∙ (omega arith)
  | inr past ↦ let k = length-each_tally (λ p t. both_of t (tally_of us p)) 0 ts in
      ap (λ (t : Tally). t.off) (at_past (joined_with us ts) p (omega arith))
]

-- nor does one that takes over what another has seen
pub none_by_met : (us ts : List Tally) → ((p : ℕ) → (tally_of ts p).off ≡ 0) → (p : ℕ) → (tally_of (met_with us ts) p).off ≡ 0
none_by_met us ts none_t p = elim (cases_lt p (length ts)) [
  | inl within ↦ ap (λ (t : Tally). t.off) (at_each (λ p t. met_of t (tally_of us p)) ts p within) ∙ none_t p
  | inr past ↦ let k = length-each_tally (λ p t. met_of t (tally_of us p)) 0 ts in
      ap (λ (t : Tally). t.off) (at_past (met_with us ts) p (omega arith))
]
