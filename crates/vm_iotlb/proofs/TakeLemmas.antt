-- ranges after some addresses were taken out
use Rattle.std.proofs.Common.{◌≡◌, ℕ, true, false, ◌<◌, List, sym, ◌∙◌, arith, Some, None, Option, inl, inr}
use Rattle.std.specs.Prelude.{nat_lt, nat_le, ◌&&◌, if◌then◌else◌, Result, Ok, Err, OnOk, OnErr}
use Rattle.std.specs.Ordering.{nat_cmp}
use Rattle.std.specs.Map.{keys_of, values_of}
use Rattle.std.specs.List.Sorted.{IsStrictlySortedBy}
use Rattle.std.proofs.lemmas.Bool.{cases_lt}
use Rattle.std.proofs.lemmas.Bool.Decides.{nat_tests}
use Rattle.vm_iotlb.specs.declared.range.IotlbRange.{IotlbRange}
use Rattle.vm_iotlb.specs.Keys.{AreKeyed, HasAddress, ReachesFrom, cleared, part_from, part_up_to, put_at, range_at}
use Rattle.vm_iotlb.specs.Ranges.{table_held, AreRanges}
use Rattle.vm_iotlb.proofs.MapLemmas.{clear_above, clear_below, clear_within, none_at, none_some}
use Rattle.vm_iotlb.proofs.ExchangeLemmas.{Part, Has, exchanged_ranges, same_at}
use Rattle.vm_iotlb.proofs.CutLemmas.{head_apart, left_keep, left_part, right_keep, right_part, tail_apart}

-- what stands at each key when the two parts were put in
abbrev pub both_put : (g : ℕ → Option IotlbRange) → (start end : ℕ) → (before after : Option IotlbRange) → ℕ → Option IotlbRange
both_put g start end before after = put_at (part_up_to before start) (put_at None (put_at (part_from after end) g))

module _ (es fs : List (ℕ × IotlbRange)) (start end : ℕ) (before after : Option IotlbRange) (keyed : AreKeyed es)
    (are : AreRanges (values_of es)) (span : start < end)
    (reaches : ReachesFrom es start before) (has : HasAddress es end after)
    (sorted : IsStrictlySortedBy nat_cmp (keys_of fs)) (now : (q : ℕ) →
    range_at fs q ≡ cleared start end (both_put (range_at es) start end before after) q) where
  each_part : (q : ℕ) (r : IotlbRange) → range_at fs q ≡ Some r → Part (range_at es) start end q r
  each_part q r at =
      let all = both_put (range_at es) start end before after in
      let value = sym (now q) ∙ at in
      elim (cases_lt q start) [
        | inl below ↦ left_part es start end q before (put_at (part_from after end) (range_at es)) r keyed are reaches below
            (tail_apart after (range_at es) end q (λ same. omega arith))
            (sym (clear_below start end all q below) ∙ value)
        | inr low ↦ elim (cases_lt q end) [
          | inl within ↦ absurd (none_some r (sym (clear_within start end all q low within) ∙ value))
          | inr above ↦ right_part es start end q after r keyed are has above
              (sym (head_apart es before (put_at (part_from after end) (range_at es)) start q reaches low)
              ∙ sym (clear_above start end all q above) ∙ value)
        ]
      ]

  pub taken_ranges : AreKeyed fs × AreRanges (values_of fs)
  taken_ranges =
      exchanged_ranges es fs start end None keyed are span sorted (λ r is. absurd (none_some r is)) (λ q r at. inr (each_part q r at))

  back : (a : ℕ) → Has fs a → Has es a
  back a one =
      let part = each_part one.0 one.1 one.2 in
      (part.whole.start, part.whole, part.at, omega (arith, part.low, one.3), omega (arith, part.high, one.4))

  pub taken_table : (a : ℕ) → table_held (values_of fs) a ≡ (if nat_le start a && nat_lt a end then None else table_held (values_of es) a)
  taken_table a =
      let all = both_put (range_at es) start end before after in
      elim (cases_lt a start) [
        | inl below ↦
            let test : (nat_le start a && nat_lt a end) ≡ false = grind (arith, nat_tests) in
            rw test (same_at es fs a keyed are taken_ranges.0 taken_ranges.1 (λ k s at low under.
            let preserved = left_keep es start a k before (put_at (part_from after end) (range_at es)) s keyed are reaches below
            (λ q less. tail_apart after (range_at es) end q (λ same. omega arith)) at low under in (
              preserved.0,
              preserved.1,
              now preserved.0 ∙ clear_below start end all preserved.0 preserved.2 ∙ preserved.3.0,
              preserved.3.1,
              preserved.3.2,
              preserved.3.3,
              preserved.3.4,
            ))
            (back a))
        | inr low ↦ elim (cases_lt a end) [
          | inl within ↦
              let test : (nat_le start a && nat_lt a end) ≡ true = grind (arith, nat_tests) in
              rw test (none_at fs a taken_ranges.0 taken_ranges.1 (λ k r at from to. elim (each_part k r at).out [
                | inl ahead ↦ absurd (omega (arith, ahead))
                | inr behind ↦ absurd (omega (arith, behind))
              ]))
          | inr above ↦
              let test : (nat_le start a && nat_lt a end) ≡ false = grind (arith, nat_tests) in
              rw test (same_at es fs a keyed are taken_ranges.0 taken_ranges.1 (λ k s at from under.
              let preserved = right_keep es end a k after s keyed are has above at from under in (
                preserved.0,
                preserved.1,
                now preserved.0 ∙ clear_above start end all preserved.0 preserved.2
                    ∙ head_apart es before (put_at (part_from after end) (range_at es)) start preserved.0 reaches
                    (omega (arith, preserved.2)) ∙
                    preserved.3.0,
                preserved.3.1,
                preserved.3.2,
                preserved.3.3,
                preserved.3.4,
              )) (back a))
        ]
      ]

-- after a call that changes ranges to a table, or nothing
pub settled : {X Y : Type 0} (result : Result X Y) (es fs : List (ℕ × IotlbRange)) → AreKeyed es → AreRanges (values_of es) →
    OnOk result (AreKeyed fs × AreRanges (values_of fs)) →
    OnErr result (fs ≡ es) → AreKeyed fs × AreRanges (values_of fs)
settled (Ok x) es fs keyed are ok err = ok
settled (Err e) es fs keyed are ok err = rw err (keyed, are)
