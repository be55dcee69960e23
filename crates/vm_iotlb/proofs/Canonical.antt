-- tables that do the same to each address keep the same ranges
use Rattle.std.proofs.Common.{◌≡◌, ℕ, ◌+◌, ◌-◌, ◌<◌, ◌≤◌, List, [], ◌∷◌, refl, ap, sym, ◌∙◌, arith, Some, None, Option, inl, inr}
use Rattle.std.proofs.lemmas.Bool.{cases_lt, true≢false}
use Rattle.vm_iotlb.specs.declared.permissions.Permissions.{Permissions}
use Rattle.vm_iotlb.specs.declared.range.IotlbRange.{IotlbRange}
use Rattle.vm_iotlb.specs.Table.{Mapping, AreSame}
use Rattle.vm_iotlb.specs.Ranges.{mapping_in, table_held, AreRanges}
use Rattle.vm_iotlb.proofs.RangeLemmas.{from_after, table_before, table_inside, table_out}
use Rattle.vm_iotlb.proofs.RunLemmas.{together_in, apart}

none_some : (m : Mapping) → ◌≡◌ {A = Option Mapping} None (Some m) → ⊥
none_some m e = cc

fields_same : (a b c d e f : ℕ) (p q : Permissions) → a ≡ b → c ≡ d → e ≡ f → p ≡ q →
    ◌≡◌ {A = IotlbRange} (record { start = a; end = c; target = e; perm = p })
    (record { start = b; end = d; target = f; perm = q })
fields_same a b c d e f p q x y z w = rw (x, y, z, w) refl

starts_after : (r : IotlbRange) (l : List IotlbRange) (s : IotlbRange) (m : List IotlbRange) → AreRanges (r ∷ l) → AreRanges (s ∷ m) →
    AreSame (table_held (r ∷ l)) (table_held (s ∷ m)) → s.start ≤ r.start
starts_after r l s m are is same =
    elim (cases_lt r.start s.start) [
      | inl low ↦
          let here = table_inside r l r.start (omega arith) (omega (arith, are.0.0)) in
          let there = table_before (s ∷ m) s.start r.start is (omega arith) low in
          absurd (none_some (mapping_in r r.start) (sym there ∙ sym (same r.start) ∙ here))
      | inr high ↦ high
    ]

ends_after : (r : IotlbRange) (l : List IotlbRange) (s : IotlbRange) (m : List IotlbRange) → AreRanges (r ∷ l) → AreRanges (s ∷ m) →
    AreSame (table_held (r ∷ l)) (table_held (s ∷ m)) → r.start ≡ s.start → s.end ≤ r.end
ends_after r l s m are is same start =
    elim (cases_lt r.end s.end) [
      | inl low ↦
          let up : r.start < r.end = are.0.0 in
          let last : r.end - 1 + 1 ≡ r.end = omega arith in
          let left = table_inside r l (r.end - 1) (omega arith) (omega arith) in
          let right = table_inside s m (r.end - 1) (omega arith) (omega arith) in
          let this : Some (mapping_in r (r.end - 1)) ≡ Some (mapping_in s (r.end - 1)) = sym left ∙ same (r.end - 1) ∙ right in
          let next : table_held l r.end ≡ Some (mapping_in s r.end) =
          sym (table_out r l r.end (omega arith)) ∙ same r.end ∙ table_inside s m r.end (omega arith) low in
          let off = rw (this, next) at (apart r l (r.end - 1) r.end are last refl) in
          let on = rw last at (together_in s (r.end - 1) (omega arith)) in
          absurd (true≢false (sym on ∙ off))
      | inr high ↦ high
    ]

tails_same : (r : IotlbRange) (l : List IotlbRange) (s : IotlbRange) (m : List IotlbRange) → AreRanges (r ∷ l) → AreRanges (s ∷ m) →
    AreSame (table_held (r ∷ l)) (table_held (s ∷ m)) →
    r.end ≡ s.end → AreSame (table_held l) (table_held m)
tails_same r l s m are is same end = λ a.
    elim (cases_lt a r.end) [
      | inl low ↦ table_before l r.end a are.2 (from_after r l are.1) low
          ∙ sym (table_before m s.end a is.2 (from_after s m is.1) (omega arith))
      | inr high ↦ sym (table_out r l a high) ∙ same a ∙ table_out s m a (omega arith)
    ]

heads_same : (r : IotlbRange) (l : List IotlbRange) (s : IotlbRange) (m : List IotlbRange) → AreRanges (r ∷ l) → AreRanges (s ∷ m) →
    AreSame (table_held (r ∷ l)) (table_held (s ∷ m)) → (r ≡ s) × (r.end ≡ s.end)
heads_same r l s m are is same =
    let back : AreSame (table_held (s ∷ m)) (table_held (r ∷ l)) = λ a. sym (same a) in
    let low = starts_after r l s m are is same in
    let high = starts_after s m r l is are back in
    let start : r.start ≡ s.start = omega arith in
    let under = ends_after r l s m are is same start in
    let over = ends_after s m r l is are back (sym start) in
    let end : r.end ≡ s.end = omega arith in
    let left = table_inside r l r.start (omega arith) (omega (arith, are.0.0)) in
    let right = table_inside s m r.start (omega arith) (omega (arith, are.0.0)) in
    let some : Some (mapping_in r r.start) ≡ Some (mapping_in s r.start) = sym left ∙ same r.start ∙ right in
    let one : mapping_in r r.start ≡ mapping_in s r.start = cc in
    let target = ap (λ (m : Mapping). m.target) one in
    let perm = ap (λ (m : Mapping). m.perm) one in
    (fields_same r.start s.start r.end s.end r.target s.target r.perm s.perm start end (omega arith) perm, end)

pub canonical : (one other : List IotlbRange) → AreRanges one → AreRanges other → AreSame (table_held one) (table_held other) → one ≡ other
unfolding table_held
canonical [] [] are is same = refl
canonical [] (s ∷ m) are is same =
    absurd (none_some (mapping_in s s.start) (same s.start ∙ table_inside s m s.start (omega arith) (omega (arith, is.0.0))))
canonical (r ∷ l) [] are is same =
    absurd (none_some (mapping_in r r.start) (sym (same r.start) ∙ table_inside r l r.start (omega arith) (omega (arith, are.0.0))))
canonical (r ∷ l) (s ∷ m) are is same =
    let heads = heads_same r l s m are is same in
    let tails = canonical l m are.2 is.2 (tails_same r l s m are is same heads.1) in
    let head = heads.0 in
    cc
