-- which changes put a range under a new key, and so ask for memory: those by which a run begins anew
use Rattle.std.proofs.Common.{◌≡◌, ℕ, true, false, ◌+◌, ◌-◌, ◌<◌, List, refl, ap, sym, ◌∙◌, arith, Some, None, Option, inl, inr, ◌⊎◌}
use Rattle.std.specs.Prelude.{Bool, not, nat_lt, ◌&&◌}
use Rattle.std.specs.Map.{values_of}
use Rattle.std.proofs.lemmas.Bool.{cases_eq, cases_lt, false_from_ne_true, le-ltb, or_left, or_right}
use Rattle.vm_iotlb.specs.declared.range.IotlbRange.{IotlbRange}
use Rattle.vm_iotlb.specs.Keys.{AreKeyed, HasAddress, IsKey, JoinsLeft, JoinsRight, ReachesFrom, joined, part_from, range_at, right_over}
use Rattle.vm_iotlb.specs.Table.{Mapping, Table}
use Rattle.vm_iotlb.specs.Ranges.{AreRanges, IsRange, mapping_in, table_held, with_range}
use Rattle.vm_iotlb.specs.AddressRuns.{begins_anew, begins_anew_about, begins_at, go_together, carries_on_at, misses}
use Rattle.vm_iotlb.proofs.RangeLemmas.{has_above, has_below, has_in}
use Rattle.vm_iotlb.proofs.RunLemmas.{together_in, together_parts}
use Rattle.vm_iotlb.proofs.MapLemmas.{is_at_key, none_at, none_some, some_is}
use Rattle.vm_iotlb.proofs.ExchangeLemmas.{find_at, in_at}

-- an address that lies in a range behind its first is mapped as one with the one before it
proceeds_inside : (t : Table) (r : IotlbRange) (a : ℕ) → r.start < a → t a ≡ Some (mapping_in r a) → t (a - 1) ≡ Some (mapping_in r (a - 1))
    → carries_on_at t a ≡ true
proceeds_inside t r a low here before =
    let last : a - 1 + 1 ≡ a = omega arith in
    rw (here, before) (rw last at (together_in r (a - 1) (omega arith)))

false_before : (x y : Bool) → y ≡ true → (x && not y) ≡ false
false_before true y e = rw e refl
false_before false y e = refl

true_both : (x y : Bool) → x ≡ true → y ≡ false → (x && not y) ≡ true
true_both x y e f = rw (e, f) refl

begins_apart : (t : Table) (a : ℕ) (to : Mapping) → t a ≡ Some to → go_together (t (a - 1)) (Some to) ≡ false → begins_at t a ≡ true
begins_apart t a to here apart = rw here (ap not apart)

begins_in : (t : Table) (a : ℕ) → carries_on_at t a ≡ true → begins_at t a ≡ false
begins_in t a on = false_before (not (misses (t a))) (carries_on_at t a) on

begins_none : (t : Table) (a : ℕ) → t a ≡ None → begins_at t a ≡ false
begins_none t a none = rw none refl

anew : (t m : Table) (a : ℕ) → begins_at m a ≡ true → begins_at t a ≡ false → begins_anew t m a ≡ true
anew t m a new old = true_both (begins_at m a) (begins_at t a) new old

-- what is left behind an address of the range that has it is under a new key only if the address is mapped as one with the one before it
pub split_carries_on :
    (es : List (ℕ × IotlbRange)) (e : ℕ) (after : Option IotlbRange) → AreKeyed es → AreRanges (values_of es) → HasAddress es e after →
    (IsKey (range_at es) (part_from after e) → ⊥) → carries_on_at (table_held (values_of es)) e ≡ true
split_carries_on es e None keyed are has new = absurd (new tt)
split_carries_on es e (Some a) keyed are has new =
    elim (cases_lt a.start e) [
      | inl less ↦ proceeds_inside (table_held (values_of es)) a e less (in_at es a.start e a keyed are has.2 has.0 has.1)
          (in_at es a.start (e - 1) a keyed are has.2 (omega arith) (omega (arith, has.1)))
      | inr more ↦ let test : nat_lt a.start e ≡ false = le-ltb a.start e more in absurd (new (rw test tt))
    ]

module _ (es : List (ℕ × IotlbRange)) (r : IotlbRange) (keyed : AreKeyed es) (are : AreRanges (values_of es)) (is : IsRange r) where
  abbrev t : Table
  t = table_held (values_of es)

  abbrev m : Table
  m = with_range r t

  -- what is left of the range behind is under a key that is there, or a run begins anew where the new range ends
  right_begins : (after right : Option IotlbRange) → HasAddress es r.end after → JoinsRight r after right →
      IsKey (range_at es) (right_over right after r.end) ⊎ (begins_anew t m r.end ≡ true)
  right_begins after (Some a) has joins = inl tt
  right_begins None None has joins = inl tt
  right_begins (Some a) None has joins =
      elim (cases_lt a.start r.end) [
        | inl less ↦
            let here : t r.end ≡ Some (mapping_in a r.end) = in_at es a.start r.end a keyed are has.2 has.0 has.1 in
            let before : t (r.end - 1) ≡ Some (mapping_in a (r.end - 1)) =
            in_at es a.start (r.end - 1) a keyed are has.2 (omega arith) (omega (arith, has.1)) in
            let outside = has_above r r.end (omega arith) in
            let inside = has_in r (r.end - 1) (omega (arith, is.0)) (omega (arith, is.0)) in
            let new_here : m r.end ≡ Some (mapping_in a r.end) = rw outside here in
            let new_before : m (r.end - 1) ≡ Some (mapping_in r (r.end - 1)) = rw inside refl in
            let apart : go_together (Some (mapping_in r (r.end - 1))) (Some (mapping_in a r.end)) ≡ false =
            false_from_ne_true (go_together (Some (mapping_in r (r.end - 1))) (Some (mapping_in a r.end))) (λ one.
            let parts = together_parts (mapping_in r (r.end - 1)) (mapping_in a r.end) one in
            joins a refl (omega (arith, parts.0, is.0), parts.1)) in
            inr (anew t m r.end (begins_apart m r.end (mapping_in a r.end) new_here (rw new_before apart))
            (begins_in t r.end (proceeds_inside t a r.end less here before)))
        | inr more ↦ let test : nat_lt a.start r.end ≡ false = le-ltb a.start r.end more in inl (rw test tt)
      ]

  -- nothing before the new range is mapped as one with its first address
  left_apart_at : (before : Option IotlbRange) → ReachesFrom es r.start before → JoinsLeft r before None →
      go_together (m (r.start - 1)) (Some (mapping_in r r.start)) ≡ false
  left_apart_at before reaches joins =
      elim (cases_eq r.start 0) [
        | inl zero ↦
            let same : r.start - 1 ≡ r.start = omega arith in
            let inside = has_in r r.start (omega arith) (omega (arith, is.0)) in
            let here : m r.start ≡ Some (mapping_in r r.start) = rw inside refl in
            rw (same, here) (false_from_ne_true (go_together (Some (mapping_in r r.start)) (Some (mapping_in r r.start))) (λ one.
            let parts = together_parts (mapping_in r r.start) (mapping_in r r.start) one in absurd (omega (arith, parts.0))))
        | inr some ↦
            let outside = has_below r (r.start - 1) (omega arith) in
            let old : m (r.start - 1) ≡ t (r.start - 1) = rw outside refl in
            rw old (by before reaches joins (omega arith))
      ]
    where
      by : (before : Option IotlbRange) → ReachesFrom es r.start before → JoinsLeft r before None → 0 < r.start →
          go_together (t (r.start - 1)) (Some (mapping_in r r.start)) ≡ false
      by None reaches joins some =
          let none : t (r.start - 1) ≡ None =
          none_at es (r.start - 1) keyed are (λ k s at low high. let key = is_at_key es k s keyed are at in
          absurd (omega (arith, key.0, reaches k s at (omega (arith, key.0))))) in
          rw none refl
      by (Some b) reaches joins some =
          let old : t (r.start - 1) ≡ Some (mapping_in b (r.start - 1)) =
          in_at es b.start (r.start - 1) b keyed are reaches.2 (omega (arith, reaches.0)) (omega (arith, reaches.1)) in
          rw old (false_from_ne_true (go_together (Some (mapping_in b (r.start - 1))) (Some (mapping_in r r.start))) (λ one.
          let parts = together_parts (mapping_in b (r.start - 1)) (mapping_in r r.start) one in
          joins b refl (omega (arith, parts.0, reaches.0), parts.1)))

  -- no run begins at an address that is no key
  no_key_begins : (a : ℕ) → range_at es a ≡ None → begins_at t a ≡ false
  no_key_begins a none =
      elim (find_at es a keyed are) [
        | inl one ↦
            let key = is_at_key es one.0 one.1 keyed are one.2 in
            elim (cases_lt one.1.start a) [
              | inl less ↦ begins_in t a (proceeds_inside t one.1 a less (in_at es one.0 a one.1 keyed are one.2 one.3 one.4)
                  (in_at es one.0 (a - 1) one.1 keyed are one.2 (omega arith) (omega (arith, one.4))))
              | inr more ↦ let same : a ≡ one.0 = omega (arith, key.0, one.3) in
                  absurd (none_some one.1 (sym none ∙ ap (range_at es) same ∙ one.2))
            ]
        | inr out ↦ begins_none t a (none_at es a keyed are (λ k s at low high. out (k, s, at, low, high)))
      ]

  -- the new range is under a key that is there, or a run begins anew where it begins
  left_begins : (before left right : Option IotlbRange) → ReachesFrom es r.start before → JoinsLeft r before left →
      IsKey (range_at es) (Some (joined r left right)) ⊎ (begins_anew t m r.start ≡ true)
  left_begins before (Some b) right reaches joins = let here = rw joins.0 at reaches in inl (some_is (range_at es b.start) b here.2)
  left_begins before None right reaches joins =
      elim (range_at es r.start)
      as (λ o. range_at es r.start ≡ o → IsKey (range_at es) (Some (joined r None right)) ⊎ (begins_anew t m r.start ≡ true)) [
        | Some s ↦ λ at. inl (some_is (range_at es r.start) s at)
        | None ↦ λ none.
            let inside = has_in r r.start (omega arith) (omega (arith, is.0)) in
            let here : m r.start ≡ Some (mapping_in r r.start) = rw inside refl in
            inr (anew t m r.start (begins_apart m r.start (mapping_in r r.start) here (left_apart_at before reaches joins))
            (no_key_begins r.start none))
      ] refl

  pub map_begins : (before after left right : Option IotlbRange) → ReachesFrom es r.start before → HasAddress es r.end after →
      JoinsLeft r before left → JoinsRight r after right →
      (IsKey (range_at es) (right_over right after r.end) → IsKey (range_at es) (Some (joined r left right)) → ⊥) →
      begins_anew_about (table_held (values_of es)) (with_range r (table_held (values_of es))) r.start r.end ≡ true
  map_begins before after left right reaches has lefts rights new =
      elim (right_begins after right has rights) [
        | inr end ↦ or_right (begins_anew t m r.start) (begins_anew t m r.end) end
        | inl behind ↦ elim (left_begins before left right reaches lefts) [
          | inr start ↦ or_left (begins_anew t m r.start) (begins_anew t m r.end) start
          | inl at ↦ absurd (new behind at)
        ]
      ]
