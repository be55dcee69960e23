-- ranges after a range was mapped, joined with those before and behind it
use Rattle.std.proofs.Common.{◌≡◌, ℕ, true, false, ◌+◌, ◌-◌, ◌<◌, ◌≤◌, ◌^◌, List, refl, ap, sym, ◌∙◌, arith, Some, Option, inl, inr}
use Rattle.std.specs.Prelude.{if◌then◌else◌}
use Rattle.std.specs.Ordering.{nat_cmp}
use Rattle.std.specs.Map.{keys_of, values_of}
use Rattle.std.specs.List.Sorted.{IsStrictlySortedBy}
use Rattle.std.proofs.lemmas.Bool.{cases_lt}
use Rattle.vm_iotlb.specs.declared.range.IotlbRange.{IotlbRange}
use Rattle.vm_iotlb.specs.Keys.{AreKeyed, HasAddress, JoinsLeft, JoinsRight, ReachesFrom, cleared, end_joined, joined, left_over, put_at}
use Rattle.vm_iotlb.specs.Keys.{range_at, right_over, start_joined, target_joined}
use Rattle.vm_iotlb.specs.Ranges.{has, mapping_in, table_held, AreRanges, IsRange}
use Rattle.vm_iotlb.proofs.RangeLemmas.{has_above, has_below, has_in, some_same}
use Rattle.vm_iotlb.proofs.MapLemmas.{clear_above, clear_below, clear_within, none_some, put_apart, put_here, put_same, some_one}
use Rattle.vm_iotlb.proofs.ExchangeLemmas.{Has, IsEither, Stands, exchanged_ranges, in_at, same_at}
use Rattle.vm_iotlb.proofs.SideLemmas.{left_apart, left_back, left_is, left_low, left_stays, left_stops, right_apart, right_back}
use Rattle.vm_iotlb.proofs.SideLemmas.{right_high, right_is, right_stays, right_stops}

-- what stands at each key when all three were put in
abbrev pub all_put : (g : ℕ → Option IotlbRange) → IotlbRange → (before after left right : Option IotlbRange) → ℕ → Option IotlbRange
all_put g r before after left right =
    put_at (left_over left before r.start) (put_at (Some (joined r left right)) (put_at (right_over right after r.end) g))

module _ (es fs : List (ℕ × IotlbRange)) (r : IotlbRange) (before after left right : Option IotlbRange) (keyed : AreKeyed es)
    (are : AreRanges (values_of es))
    (is : IsRange r) (reaches : ReachesFrom es r.start before)
    (behind : HasAddress es r.end after) (lefts : JoinsLeft r before left) (rights : JoinsRight r after right)
    (sorted : IsStrictlySortedBy nat_cmp (keys_of fs))
    (now : (q : ℕ) → range_at fs q
    ≡ cleared (start_joined r left + 1) (end_joined r right) (all_put (range_at es) r before after left right) q) where
  low : (start_joined r left ≤ r.start) × (target_joined r left + (r.start - start_joined r left) ≡ r.target)
  low = left_low es r keyed are is before reaches left lefts

  high : (r.end ≤ end_joined r right) × (end_joined r right < 2 ^ 64) × (r.target + (end_joined r right - r.start) < 2 ^ 64)
  high = right_high es r keyed are is after behind right rights

  -- below what is joined, the new range and those behind were not put
  inner_low : (q : ℕ) → q < start_joined r left →
      put_at (Some (joined r left right)) (put_at (right_over right after r.end) (range_at es)) q ≡ range_at es q
  inner_low q below = put_apart (joined r left right) (put_at (right_over right after r.end) (range_at es)) q (λ same. omega arith)
      ∙ right_apart es r keyed are is after behind right q (omega (arith, low.0, is.0))

  at_new : range_at fs (start_joined r left) ≡ Some (joined r left right)
  at_new =
      now (start_joined r left) ∙ clear_below (start_joined r left + 1) (end_joined r right)
      (all_put (range_at es) r before after left right) (start_joined r left) (omega arith)
      ∙ left_apart es r keyed are is before reaches left
      (put_at (Some (joined r left right)) (put_at (right_over right after r.end) (range_at es))) (start_joined r left) lefts (omega arith)
      ∙ put_here (joined r left right) (put_at (right_over right after r.end) (range_at es)) (start_joined r left) refl

  at_low : (q : ℕ) → q < start_joined r left → range_at fs q ≡ all_put (range_at es) r before after left right q
  at_low q below =
      now q ∙ clear_below (start_joined r left + 1) (end_joined r right) (all_put (range_at es) r before after left right) q (omega arith)

  at_high : (q : ℕ) → end_joined r right ≤ q → range_at fs q ≡ put_at (right_over right after r.end) (range_at es) q
  at_high q above =
      now q ∙ clear_above (start_joined r left + 1) (end_joined r right) (all_put (range_at es) r before after left right) q above
      ∙ left_apart es r keyed are is before reaches left (put_at (Some (joined r left right))
      (put_at (right_over right after r.end) (range_at es))) q lefts (omega (arith, low.0, high.0, is.0))
      ∙ put_apart (joined r left right) (put_at (right_over right after r.end) (range_at es)) q (λ same. omega (arith, low.0, high.0, is.0))

  each_either : (q : ℕ) (p : IotlbRange) → range_at fs q ≡ Some p →
      IsEither (range_at es) (start_joined r left) (end_joined r right) (Some (joined r left right)) q p
  each_either q p at =
      elim (cases_lt q (start_joined r left)) [
        | inl below ↦ inr (left_is es r keyed are is before reaches left
            (put_at (Some (joined r left right)) (put_at (right_over right after r.end) (range_at es))) (end_joined r right) q p lefts
            below (inner_low q below) (sym (at_low q below) ∙ at))
        | inr from ↦ elim (cases_lt (start_joined r left) q) [
          | inr same ↦
              let equal : start_joined r left ≡ q = omega arith in
              let one : Some (joined r left right) ≡ Some p = sym at_new ∙ ap (range_at fs) equal ∙ at in
              inl (one, sym equal ∙ ap (λ (x : IotlbRange). x.start) (some_one (joined r left right) p one))
          | inl over ↦ elim (cases_lt q (end_joined r right)) [
            | inl within ↦ absurd (none_some p
                (sym (clear_within (start_joined r left + 1) (end_joined r right) (all_put (range_at es) r before after left right) q
                (omega arith) within) ∙ sym (now q) ∙ at))
            | inr above ↦
                inr (right_is es r keyed are is after behind right (start_joined r left) q p rights above (sym (at_high q above) ∙ at))
          ]
        ]
      ]

  new_stands : Stands (range_at es) (start_joined r left) (end_joined r right) (joined r left right)
  new_stands = (
    (omega (arith, low.0, high.0, is.0), high.1, omega (arith, low.0, low.1, high.0, high.2, is.0)),
    refl,
    refl,
    (λ q p part end proceeds. left_stops es r keyed are is before reaches left (end_joined r right) q p lefts part end proceeds.1
        proceeds.2),
    λ q p part start proceeds. right_stops es r keyed are is after behind right (start_joined r left) q p rights part start
        (omega (arith, low.0, low.1, high.0, is.0, proceeds.1)) proceeds.2,
  )

  pub set_ranges : AreKeyed fs × AreRanges (values_of fs)
  set_ranges = exchanged_ranges es fs (start_joined r left) (end_joined r right) (Some (joined r left right)) keyed are
      (omega (arith, low.0, high.0, is.0)) sorted
      (λ p one. rw (sym (some_one (joined r left right) p one)) new_stands) each_either

  back : (a : ℕ) → (r.start ≤ a → a < r.end → ⊥) → Has fs a → Has es a
  back a out one =
      elim (each_either one.0 one.1 one.2) [
        | inr part ↦ (part.whole.start, part.whole, part.at, omega (arith, part.low, one.3), omega (arith, part.high, one.4))
        | inl new ↦
            let equal = some_one (joined r left right) one.1 new.0 in
            let from : start_joined r left ≤ a = omega (arith, ap (λ (x : IotlbRange). x.start) equal, one.3) in
            let to : a < end_joined r right = omega (arith, ap (λ (x : IotlbRange). x.end) equal, one.4) in
            elim (cases_lt a r.start) [
              | inl below ↦ left_back es r keyed are is before reaches left a lefts from below
              | inr above ↦ elim (cases_lt a r.end) [
                | inl within ↦ absurd (out above within)
                | inr over ↦ right_back es r keyed are is after behind right a rights over to
              ]
            ]
      ]

  pub set_table : (a : ℕ) → table_held (values_of fs) a ≡ (if has r a then Some (mapping_in r a) else table_held (values_of es) a)
  set_table a =
      elim (cases_lt a r.start) [
        | inl below ↦
            let test : has r a ≡ false = has_below r a below in
            rw test (same_at es fs a keyed are set_ranges.0 set_ranges.1 (λ k s at from to.
            elim (left_stays es r keyed are is before reaches left (put_at (right_over right after r.end) (range_at es)) a k s lefts below
            (λ q less. right_apart es r keyed are is after behind right q (omega (arith, is.0))) at from to) [
              | inl preserved ↦ (
                preserved.0,
                preserved.1,
                at_low preserved.0 preserved.2 ∙ skip_new preserved.0 preserved.2 ∙ preserved.3.0,
                preserved.3.1,
                preserved.3.2,
                preserved.3.3,
                preserved.3.4,
              )
              | inr in_new ↦ (start_joined r left, joined r left right, at_new, in_new.0, omega (arith, high.0, is.0), in_new.1, in_new.2)
            ]) (back a (λ x y. omega arith)))
        | inr above ↦ elim (cases_lt a r.end) [
          | inl within ↦
              let test : has r a ≡ true = has_in r a above within in
              rw test (in_at fs (start_joined r left) a (joined r left right) set_ranges.0 set_ranges.1 at_new (omega (arith, low.0))
              (omega (arith, high.0))
              ∙ some_same (mapping_in (joined r left right) a) (mapping_in r a) (omega (arith, low.0, low.1)) refl)
          | inr over ↦
              let test : has r a ≡ false = has_above r a over in
              rw test (same_at es fs a keyed are set_ranges.0 set_ranges.1 (λ k s at from to.
              elim (right_stays es r keyed are is after behind right a k s rights over at from to) [
                | inl preserved ↦ (
                  preserved.0,
                  preserved.1,
                  at_high preserved.0 preserved.2 ∙ preserved.3.0,
                  preserved.3.1,
                  preserved.3.2,
                  preserved.3.3,
                  preserved.3.4,
                )
                | inr in_new ↦ (
                  start_joined r left,
                  joined r left right,
                  at_new,
                  omega (arith, low.0),
                  in_new.0,
                  omega (arith, low.0, low.1, is.0, in_new.1),
                  in_new.2,
                )
              ]) (back a (λ x y. omega arith)))
        ]
      ]
    where
      skip_new : (q : ℕ) → q < start_joined r left → all_put (range_at es) r before after left right q
          ≡ put_at (left_over left before r.start) (put_at (right_over right after r.end) (range_at es)) q
      skip_new q below =
          put_same (left_over left before r.start)
          (put_at (Some (joined r left right)) (put_at (right_over right after r.end) (range_at es)))
          (put_at (right_over right after r.end) (range_at es)) q
          (put_apart (joined r left right) (put_at (right_over right after r.end) (range_at es)) q (λ same. omega arith))
