-- ranges after some were cut or joined: they are a table again, and keep what lies elsewhere
use Rattle.std.proofs.Common.{◌≡◌, ℕ, ◌+◌, ◌-◌, ◌<◌, ◌≤◌, List, [], ◌∷◌, refl, ap, sym, ◌∙◌, arith, Some, Option, inl, inr, ◌⊎◌}
use Rattle.std.specs.Ordering.{nat_cmp}
use Rattle.std.specs.Map.{keys_of, values_of}
use Rattle.std.specs.List.Sorted.{IsStrictlySortedBy}
use Rattle.std.proofs.lemmas.Bool.{cases_lt, cases_eq}
use Rattle.vm_iotlb.specs.declared.range.IotlbRange.{IotlbRange}
use Rattle.vm_iotlb.specs.Keys.{AreKeyed, range_at}
use Rattle.vm_iotlb.specs.Ranges.{mapping_in, table_held, IsRange, ContinuesIn, Precedes, AreRanges}
use Rattle.vm_iotlb.proofs.RangeLemmas.{from_after, some_same, table_inside}
use Rattle.vm_iotlb.proofs.MapLemmas.{after_at, at_here, at_rest, is_at_key, none_at, none_some, pair_at, ranges_from_at, some_one, tail_at}

-- a part of a range that was there: it lies before some addresses or behind them, and begins where the range does or right behind them
pub record Part (g : ℕ → Option IotlbRange) (lo hi q : ℕ) (r : IotlbRange) : Type 0 where
  pub whole : IotlbRange
  pub at : g whole.start ≡ Some whole
  pub key : q ≡ r.start
  pub some : r.start < r.end
  pub low : whole.start ≤ r.start
  pub high : r.end ≤ whole.end
  pub target : r.target ≡ whole.target + (r.start - whole.start)
  pub perm : r.perm ≡ whole.perm
  pub out : (r.end ≤ lo) ⊎ (hi ≤ r.start)
  pub cut : (r.start ≡ whole.start) ⊎ (r.start ≡ hi)

parts_precede : (es : List (ℕ × IotlbRange)) (lo hi j k : ℕ) (r s : IotlbRange) → AreKeyed es → AreRanges (values_of es) → lo < hi →
    Part (range_at es) lo hi j r →
    Part (range_at es) lo hi k s → j < k → Precedes r s
parts_precede es lo hi j k r s keyed are span one two order =
    elim (cases_lt one.whole.start two.whole.start) [
      | inl less ↦
          let pair = pair_at es one.whole.start two.whole.start one.whole two.whole keyed are one.at two.at less in (
            omega (arith, one.high, pair.0, two.low),
            λ proceeds. pair.1 (
              omega (arith, one.high, pair.0, two.low, proceeds.0),
              omega (arith, one.high, one.low, one.some, one.target, two.target, pair.0, two.low, proceeds.0, proceeds.1),
              sym one.perm ∙ proceeds.2 ∙ two.perm,
            ),
          )
      | inr more ↦ elim (cases_lt two.whole.start one.whole.start) [
        | inl less ↦
            let pair = pair_at es two.whole.start one.whole.start two.whole one.whole keyed are two.at one.at less in
            absurd (omega (arith, one.low, two.high, two.some, pair.0, one.key, two.key))
        | inr same ↦ elim two.cut [
          | inl first ↦ absurd (omega (arith, one.low, one.key, two.key, first))
          | inr behind ↦ elim one.out [
            | inl before ↦ (omega (arith, before, behind), λ proceeds. absurd (omega (arith, before, behind, proceeds.0)))
            | inr after ↦ absurd (omega (arith, after, behind, one.key, two.key))
          ]
        ]
      ]
    ]

part_is : (es : List (ℕ × IotlbRange)) (lo hi q : ℕ) (r : IotlbRange) → AreKeyed es → AreRanges (values_of es) →
    Part (range_at es) lo hi q r → IsRange r
part_is es lo hi q r keyed are part =
    let is = is_at_key es part.whole.start part.whole keyed are part.at in
    (part.some, omega (arith, part.high, is.1.1), omega (arith, part.high, part.low, part.some, part.target, is.1.2))

-- a new range among the parts: nothing goes on in it, and it goes on in nothing
abbrev pub Stands : (g : ℕ → Option IotlbRange) → (lo hi : ℕ) → IotlbRange → Type 0
Stands g lo hi new =
    IsRange new × (new.start ≡ lo) × (new.end ≡ hi) × ((q : ℕ) (p : IotlbRange) → Part g lo hi q p → p.end ≡ lo → ContinuesIn p new → ⊥) ×
    ((q : ℕ) (p : IotlbRange) → Part g lo hi q p → p.start ≡ hi → ContinuesIn new p → ⊥)

-- a range is new, or a part of one that was there
abbrev pub IsEither : (g : ℕ → Option IotlbRange) → (lo hi : ℕ) → Option IotlbRange → ℕ → IotlbRange → Type 0
IsEither g lo hi new q r = ((new ≡ Some r) × (q ≡ r.start)) ⊎ Part g lo hi q r

pub exchanged_ranges : (es fs : List (ℕ × IotlbRange)) (lo hi : ℕ) (new : Option IotlbRange) → AreKeyed es → AreRanges (values_of es) →
    lo < hi → IsStrictlySortedBy nat_cmp (keys_of fs) →
    ((r : IotlbRange) → new ≡ Some r → Stands (range_at es) lo hi r) →
    ((q : ℕ) (r : IotlbRange) → range_at fs q ≡ Some r → IsEither (range_at es) lo hi new q r) →
    AreKeyed fs × AreRanges (values_of fs)
exchanged_ranges es fs lo hi new keyed are span sorted stands either =
    ranges_from_at fs sorted (λ k r at. elim (either k r at) [
      | inl is ↦ (is.1, (stands r is.0).0)
      | inr part ↦ (part.key, part_is es lo hi k r keyed are part)
    ]) (λ j k r s order at next. elim (either j r at) [
      | inl is ↦
          let this = stands r is.0 in
          elim (either k s next) [
            | inl too ↦ let that = stands s too.0 in absurd (omega (arith, is.1, too.1, this.1, that.1))
            | inr part ↦ elim part.out [
              | inl before ↦ absurd (omega (arith, before, part.some, part.key, is.1, this.1))
              | inr after ↦ (omega (arith, after, this.2), λ proceeds. this.4 k s part (omega (arith, proceeds.0, this.2)) proceeds)
            ]
          ]
      | inr part ↦ elim (either k s next) [
        | inl too ↦
            let that = stands s too.0 in
            elim part.out [
              | inl before ↦ (omega (arith, before, that.1), λ proceeds. that.3 j r part (omega (arith, proceeds.0, that.1)) proceeds)
              | inr after ↦ absurd (omega (arith, after, part.key, too.1, that.1))
            ]
        | inr two ↦ parts_precede es lo hi j k r s keyed are span part two order
      ]
    ])

-- ---- tables

pub in_at : (es : List (ℕ × IotlbRange)) (k a : ℕ) (r : IotlbRange) → AreKeyed es → AreRanges (values_of es) → range_at es k ≡ Some r →
    r.start ≤ a → a < r.end →
    table_held (values_of es) a ≡ Some (mapping_in r a)
in_at es k a r keyed are at low high =
    let tail = tail_at es k r keyed are at in
    tail.3 a (omega (arith, tail.2)) ∙ table_inside r tail.0 a low high

abbrev pub Has : List (ℕ × IotlbRange) → ℕ → Type 0
Has es a = (k : ℕ) × (r : IotlbRange) × (range_at es k ≡ Some r) × (r.start ≤ a) × (a < r.end)

pub find_at : (es : List (ℕ × IotlbRange)) (a : ℕ) → AreKeyed es → AreRanges (values_of es) → Has es a ⊎ (Has es a → ⊥)
find_at [] a keyed are = inr (λ has. none_some has.1 has.2)
find_at (e ∷ es) a keyed are =
    let up : Has es a → Has (e ∷ es) a = λ has.
    let after = after_at es has.0 e.1.end has.1 keyed.1 are.2 (from_after e.1 (values_of es) are.1) has.2 in
    (has.0, has.1, at_rest e es has.0 (λ equal. omega (arith, keyed.0, are.0.0)) ∙ has.2, has.3, has.4) in
    let down : (Has es a → ⊥) → (e.1.start ≤ a → a < e.1.end → ⊥) → Has (e ∷ es) a → ⊥ = λ none out has.
    elim (cases_eq has.0 e.0) [
      | inl same ↦ let one = some_one e.1 has.1 (sym (at_here e es has.0 same) ∙ has.2) in
          out (omega (arith, ap (λ (r : IotlbRange). r.start) one, has.3))
          (omega (arith, ap (λ (r : IotlbRange). r.end) one, has.4))
      | inr apart ↦ none (has.0, has.1, sym (at_rest e es has.0 apart) ∙ has.2, has.3, has.4)
    ] in
    elim (find_at es a keyed.1 are.2) [
      | inl has ↦ inl (up has)
      | inr none ↦ elim (cases_lt a e.1.start) [
        | inl under ↦ inr (down none (λ low high. absurd (omega arith)))
        | inr low ↦ elim (cases_lt a e.1.end) [
          | inl high ↦ inl (e.0, e.1, at_here e es e.0 refl, low, high)
          | inr over ↦ inr (down none (λ from to. absurd (omega arith)))
        ]
      ]
    ]

-- an address is still in a range that maps it as before
abbrev pub Keeps : (es fs : List (ℕ × IotlbRange)) → ℕ → Type 0
Keeps es fs a = (k : ℕ) (s : IotlbRange) → range_at es k ≡ Some s → s.start ≤ a → a < s.end →
    (q : ℕ) × (r : IotlbRange) × (range_at fs q ≡ Some r) × (r.start ≤ a) × (a < r.end)
    × (r.target + (a - r.start) ≡ s.target + (a - s.start)) × (r.perm ≡ s.perm)

-- where each range that has an address has it from one that had it, the table stays there
pub same_at : (es fs : List (ℕ × IotlbRange)) (a : ℕ) → AreKeyed es → AreRanges (values_of es) → AreKeyed fs → AreRanges (values_of fs) →
    Keeps es fs a → (Has fs a → Has es a) →
    table_held (values_of fs) a ≡ table_held (values_of es) a
same_at es fs a keyed are locked ranges keeps back =
    elim (find_at es a keyed are) [
      | inl has ↦
          let to = keeps has.0 has.1 has.2 has.3 has.4 in
          in_at fs to.0 a to.1 locked ranges to.2 to.3 to.4 ∙ some_same (mapping_in to.1 a) (mapping_in has.1 a) to.5 to.6
          ∙ sym (in_at es has.0 a has.1 keyed are has.2 has.3 has.4)
      | inr none ↦ none_at fs a locked ranges (λ k r at low high. none (back (k, r, at, low, high)))
          ∙ sym (none_at es a keyed are (λ k r at low high. none (k, r, at, low, high)))
    ]
