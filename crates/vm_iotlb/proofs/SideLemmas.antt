-- a range joined with those before and behind it: what stands on either side
use Rattle.std.proofs.Common.{◌≡◌, ℕ, ◌+◌, ◌-◌, ◌<◌, ◌≤◌, ◌^◌, List, refl, ap, sym, ◌∙◌, arith, Some, None, Option, inl, inr, ◌⊎◌}
use Rattle.std.specs.Map.{values_of}
use Rattle.std.proofs.lemmas.Bool.{cases_lt}
use Rattle.vm_iotlb.specs.declared.range.IotlbRange.{IotlbRange}
use Rattle.vm_iotlb.specs.Keys.{AreKeyed, HasAddress, IsNoKey, IsKey, JoinsLeft, JoinsRight, ReachesFrom, end_joined, left_over, put_at}
use Rattle.vm_iotlb.specs.Keys.{range_at, right_over, start_joined, target_joined}
use Rattle.vm_iotlb.specs.Ranges.{AreRanges, IsRange}
use Rattle.vm_iotlb.proofs.MapLemmas.{is_at_key, pair_at, some_one}
use Rattle.vm_iotlb.proofs.ExchangeLemmas.{Part, Has}
use Rattle.vm_iotlb.proofs.CutLemmas.{MapsAs, head_apart, head_taken, left_keep, left_part, old_part, one_about, right_keep, right_part}
use Rattle.vm_iotlb.proofs.CutLemmas.{tail_apart, tail_free}

-- the range that reaches up to an address is the one before it
before_of : (es : List (ℕ × IotlbRange)) (s k : ℕ) (before : Option IotlbRange) (r : IotlbRange) → AreKeyed es → AreRanges (values_of es) →
    ReachesFrom es s before → range_at es k ≡ Some r → k < s →
    s ≤ r.end → before ≡ Some r
before_of es s k None r keyed are reaches at low high = absurd (omega (arith, reaches k r at low))
before_of es s k (Some b) r keyed are reaches at low high =
    let is = is_at_key es k r keyed are at in
    elim (cases_lt b.start k) [
      | inl less ↦ let pair = pair_at es b.start k b r keyed are reaches.2 at less in absurd (omega (arith, pair.0, is.0, reaches.1))
      | inr more ↦ elim (cases_lt k b.start) [
        | inl less ↦ let pair = pair_at es k b.start r b keyed are at reaches.2 less in absurd (omega (arith, pair.0, reaches.0))
        | inr same ↦ let equal : b.start ≡ k = omega arith in ap Some (some_one b r (sym reaches.2 ∙ ap (range_at es) equal ∙ at))
      ]
    ]

after_of : (es : List (ℕ × IotlbRange)) (e k : ℕ) (after : Option IotlbRange) (r : IotlbRange) → AreKeyed es → AreRanges (values_of es) →
    HasAddress es e after → range_at es k ≡ Some r → k ≤ e →
    e < r.end → after ≡ Some r
after_of es e k None r keyed are has at low high = absurd (omega (arith, has k r at low))
after_of es e k (Some a) r keyed are has at low high =
    let is = is_at_key es k r keyed are at in
    ap Some (one_about es e a r k keyed are has.2 at has.0 has.1 (omega (arith, is.0)) high)

module _ (es : List (ℕ × IotlbRange)) (r : IotlbRange) (keyed : AreKeyed es) (are : AreRanges (values_of es)) (is : IsRange r) where
  -- ---- before

  module _ (before : Option IotlbRange) (reaches : ReachesFrom es r.start before) where
    pub left_low : (left : Option IotlbRange) → JoinsLeft r before left →
        (start_joined r left ≤ r.start) × (target_joined r left + (r.start - start_joined r left) ≡ r.target)
    left_low None joins = (omega arith, omega arith)
    left_low (Some b) joins = let here = rw joins.0 at reaches in (omega (arith, here.0), joins.1.0)

    pub left_taken : (left : Option IotlbRange) → IsKey (range_at es) (left_over left before r.start)
    left_taken None = head_taken es before r.start reaches
    left_taken (Some b) = tt

    pub left_apart : (left : Option IotlbRange) (g : ℕ → Option IotlbRange) (q : ℕ) → JoinsLeft r before left → start_joined r left ≤ q →
        put_at (left_over left before r.start) g q ≡ g q
    left_apart None g q joins high = head_apart es before g r.start q reaches high
    left_apart (Some b) g q joins high = refl

    pub left_is : (left : Option IotlbRange) (g : ℕ → Option IotlbRange) (hi q : ℕ) (p : IotlbRange) → JoinsLeft r before left →
        q < start_joined r left → g q ≡ range_at es q →
        put_at (left_over left before r.start) g q ≡ Some p →
        Part (range_at es) (start_joined r left) hi q p
    left_is None g hi q p joins low old at = left_part es r.start hi q before g p keyed are reaches low old at
    left_is (Some b) g hi q p joins low old at =
        let here = rw joins.0 at reaches in
        let this : range_at es q ≡ Some p = sym old ∙ at in
        let pair = pair_at es q b.start p b keyed are this here.2 low in
        old_part es b.start hi q p keyed are this (inl pair.0)

    -- an address before stays in a range of its own, or lies in the one that is joined
    pub left_stays : (left : Option IotlbRange) (g : ℕ → Option IotlbRange) (a k : ℕ) (s : IotlbRange) → JoinsLeft r before left →
        a < r.start → ((q : ℕ) → q < r.start → g q ≡ range_at es q) →
        range_at es k ≡ Some s → s.start ≤ a → a < s.end →
        ((q : ℕ) × (p : IotlbRange) × (q < start_joined r left) × MapsAs (put_at (left_over left before r.start) g) q a s p) ⊎
        ((start_joined r left ≤ a) × (target_joined r left + (a - start_joined r left) ≡ s.target + (a - s.start)) × (r.perm ≡ s.perm))
    left_stays None g a k s joins low old at from to = inl (left_keep es r.start a k before g s keyed are reaches low old at from to)
    left_stays (Some b) g a k s joins low old at from to =
        let here = rw joins.0 at reaches in
        let key = is_at_key es k s keyed are at in
        elim (cases_lt k b.start) [
          | inl less ↦ inl (k, s, less, (old k (omega (arith, here.0)) ∙ at, from, to, refl, refl))
          | inr more ↦ elim (cases_lt b.start k) [
            | inl over ↦ let pair = pair_at es b.start k b s keyed are here.2 at over in absurd (omega (arith, pair.0, key.0, here.1))
            | inr same ↦
                let equal : b.start ≡ k = omega arith in
                let one = some_one b s (sym here.2 ∙ ap (range_at es) equal ∙ at) in
                inr (omega (arith, key.0), rw (sym one) refl, sym joins.1.1 ∙ ap (λ (x : IotlbRange). x.perm) one)
          ]
        ]

    pub left_back : (left : Option IotlbRange) (a : ℕ) → JoinsLeft r before left → start_joined r left ≤ a → a < r.start → Has es a
    left_back None a joins low high = absurd (omega arith)
    left_back (Some b) a joins low high = let here = rw joins.0 at reaches in (b.start, b, here.2, low, omega (arith, here.1))

    -- no part goes on in the range that is joined
    pub left_stops : (left : Option IotlbRange) (hi q : ℕ) (p : IotlbRange) → JoinsLeft r before left →
        Part (range_at es) (start_joined r left) hi q p → p.end ≡ start_joined r left →
        p.target + (p.end - p.start) ≡ target_joined r left → p.perm ≡ r.perm → ⊥
    left_stops None hi q p joins part end target perm =
        let one = before_of es r.start part.whole.start before part.whole keyed are reaches part.at
        (omega (arith, part.low, part.some, end)) (omega (arith, part.high, end)) in
        joins part.whole one (omega (arith, part.low, part.some, part.target, end, target), sym part.perm ∙ perm)
    left_stops (Some b) hi q p joins part end target perm =
        let here = rw joins.0 at reaches in
        let pair = pair_at es part.whole.start b.start part.whole b keyed are part.at here.2 (omega (arith, part.low, part.some, end)) in
        pair.1 (
          omega (arith, pair.0, part.high, end),
          omega (arith, pair.0, part.high, part.low, part.some, part.target, end, target),
          sym part.perm ∙ perm ∙ sym joins.1.1,
        )

  -- ---- behind

  module _ (after : Option IotlbRange) (has : HasAddress es r.end after) where
    pub right_high : (right : Option IotlbRange) → JoinsRight r after right →
        (r.end ≤ end_joined r right) × (end_joined r right < 2 ^ 64) × (r.target + (end_joined r right - r.start) < 2 ^ 64)
    right_high None joins = (omega arith, is.1, is.2)
    right_high (Some a) joins =
        let here = rw joins.0 at has in
        let this = is_at_key es a.start a keyed are here.2 in
        (omega (arith, here.1), this.1.1, omega (arith, is.0, here.0, here.1, joins.1.0, this.1.2))

    pub right_free : (right : Option IotlbRange) → IsNoKey (range_at es) (right_over right after r.end)
    right_free None = tail_free es r.end after keyed are has
    right_free (Some a) = tt

    pub right_apart :
        (right : Option IotlbRange) (q : ℕ) → q < r.end → put_at (right_over right after r.end) (range_at es) q ≡ range_at es q
    right_apart None q low = tail_apart after (range_at es) r.end q (λ same. omega arith)
    right_apart (Some a) q low = refl

    pub right_is : (right : Option IotlbRange) (lo q : ℕ) (p : IotlbRange) → JoinsRight r after right → end_joined r right ≤ q →
        put_at (right_over right after r.end) (range_at es) q ≡ Some p →
        Part (range_at es) lo (end_joined r right) q p
    right_is None lo q p joins high at = right_part es lo r.end q after p keyed are has high at
    right_is (Some a) lo q p joins high at =
        let key = is_at_key es q p keyed are at in old_part es lo a.end q p keyed are at (inr (omega (arith, key.0)))

    pub right_stays : (right : Option IotlbRange) (a k : ℕ) (s : IotlbRange) → JoinsRight r after right → r.end ≤ a →
        range_at es k ≡ Some s → s.start ≤ a → a < s.end →
        ((q : ℕ) × (p : IotlbRange) × (end_joined r right ≤ q) × MapsAs (put_at (right_over right after r.end) (range_at es)) q a s p) ⊎
        ((a < end_joined r right) × (r.target + (a - r.start) ≡ s.target + (a - s.start)) × (r.perm ≡ s.perm))
    right_stays None a k s joins low at from to = inl (right_keep es r.end a k after s keyed are has low at from to)
    right_stays (Some b) a k s joins low at from to =
        let here = rw joins.0 at has in
        let key = is_at_key es k s keyed are at in
        elim (cases_lt k b.end) [
          | inr more ↦ inl (k, s, more, (at, from, to, refl, refl))
          | inl less ↦ elim (cases_lt k b.start) [
            | inl under ↦ let pair = pair_at es k b.start s b keyed are at here.2 under in absurd (omega (arith, pair.0, here.0))
            | inr over ↦ elim (cases_lt b.start k) [
              | inl above ↦ let pair = pair_at es b.start k b s keyed are here.2 at above in absurd (omega (arith, pair.0, key.0))
              | inr same ↦
                  let equal : b.start ≡ k = omega arith in
                  let one = some_one b s (sym here.2 ∙ ap (range_at es) equal ∙ at) in
                  let end : b.end ≡ s.end = ap (λ (x : IotlbRange). x.end) one in
                  inr (
                    omega (arith, end),
                    rw (sym one) (omega (arith, is.0, here.0, joins.1.0)),
                    joins.1.1 ∙ ap (λ (x : IotlbRange). x.perm) one,
                  )
            ]
          ]
        ]

    pub right_back : (right : Option IotlbRange) (a : ℕ) → JoinsRight r after right → r.end ≤ a → a < end_joined r right → Has es a
    right_back None a joins low high = absurd (omega arith)
    right_back (Some b) a joins low high = let here = rw joins.0 at has in (b.start, b, here.2, omega (arith, here.0), high)

    pub right_stops : (right : Option IotlbRange) (lo q : ℕ) (p : IotlbRange) → JoinsRight r after right →
        Part (range_at es) lo (end_joined r right) q p → p.start ≡ end_joined r right →
        r.target + (end_joined r right - r.start) ≡ p.target → r.perm ≡ p.perm → ⊥
    right_stops None lo q p joins part start target perm =
        let one = after_of es r.end part.whole.start after part.whole keyed are has part.at (omega (arith, part.low, start))
        (omega (arith, part.some, part.high, start)) in
        joins part.whole one (omega (arith, part.low, part.target, start, target), perm ∙ part.perm)
    right_stops (Some a) lo q p joins part start target perm =
        let here = rw joins.0 at has in
        elim (cases_lt part.whole.start a.start) [
          | inl less ↦ let pair = pair_at es part.whole.start a.start part.whole a keyed are part.at here.2 less in
              absurd (omega (arith, pair.0, part.high, part.some, start, here.0, here.1))
          | inr more ↦ elim (cases_lt a.start part.whole.start) [
            | inl over ↦
                let pair = pair_at es a.start part.whole.start a part.whole keyed are here.2 part.at over in
                pair.1 (
                  omega (arith, pair.0, part.low, start),
                  omega (arith, is.0, here.0, here.1, pair.0, part.low, part.target, start, target, joins.1.0),
                  sym joins.1.1 ∙ perm ∙ part.perm,
                )
            | inr same ↦
                let equal : a.start ≡ part.whole.start = omega arith in
                let one = some_one a part.whole (sym here.2 ∙ ap (range_at es) equal ∙ part.at) in
                let end : a.end ≡ part.whole.end = ap (λ (x : IotlbRange). x.end) one in
                absurd (omega (arith, part.some, part.high, start, end))
          ]
        ]
