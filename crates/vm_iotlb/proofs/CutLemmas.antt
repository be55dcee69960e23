-- the two sides of some addresses: ranges that are cut there, and what each address keeps
use Rattle.std.proofs.Common.{◌≡◌, ℕ, true, false, ◌+◌, ◌-◌, ◌<◌, ◌≤◌, List, refl, ap, sym, ◌∙◌, arith, Some, None, Option, inl, inr, ◌⊎◌}
use Rattle.std.specs.Prelude.{nat_lt, MatchOption}
use Rattle.std.specs.Map.{values_of}
use Rattle.std.proofs.lemmas.Bool.{cases_lt, cases_eq, lt-ltb, le-ltb}
use Rattle.vm_iotlb.specs.declared.range.IotlbRange.{IotlbRange}
use Rattle.vm_iotlb.specs.Keys.{AreKeyed, HasAddress, IsNoKey, IsKey, ReachesFrom, part_from, part_up_to, put_at, range_at}
use Rattle.vm_iotlb.specs.Ranges.{IsRange, AreRanges}
use Rattle.vm_iotlb.proofs.MapLemmas.{is_at_key, pair_at, put_apart, put_here, some_is, some_one}
use Rattle.vm_iotlb.proofs.ExchangeLemmas.{Part}

-- the only range about an address
pub one_about : (es : List (ℕ × IotlbRange)) (x : ℕ) (r s : IotlbRange) (k : ℕ) → AreKeyed es → AreRanges (values_of es) →
    range_at es r.start ≡ Some r → range_at es k ≡ Some s → r.start ≤ x →
    x < r.end → s.start ≤ x → x < s.end → r ≡ s
one_about es x r s k keyed are one two low high from to =
    let is = is_at_key es k s keyed are two in
    elim (cases_lt r.start k) [
      | inl less ↦ let pair = pair_at es r.start k r s keyed are one two less in absurd (omega (arith, pair.0, is.0))
      | inr more ↦ elim (cases_lt k r.start) [
        | inl less ↦ let pair = pair_at es k r.start s r keyed are two one less in absurd (omega (arith, pair.0, is.0))
        | inr same ↦ let equal : r.start ≡ k = omega arith in some_one r s (sym one ∙ ap (range_at es) equal ∙ two)
      ]
    ]

pub old_part :
    (es : List (ℕ × IotlbRange)) (lo hi q : ℕ) (r : IotlbRange) → AreKeyed es → AreRanges (values_of es) → range_at es q ≡ Some r →
    (r.end ≤ lo) ⊎ (hi ≤ r.start) → Part (range_at es) lo hi q r
old_part es lo hi q r keyed are at out =
    let is = is_at_key es q r keyed are at in
    record {
      whole = r;
      at = ap (range_at es) (sym is.0) ∙ at;
      key = is.0;
      some = is.1.0;
      low = omega arith;
      high = omega arith;
      target = omega arith;
      perm = refl;
      out = out;
      cut = inl refl;
    }

-- ---- the range behind

pub tail_free : (es : List (ℕ × IotlbRange)) (e : ℕ) (after : Option IotlbRange) → AreKeyed es → AreRanges (values_of es) →
    HasAddress es e after → IsNoKey (range_at es) (part_from after e)
tail_free es e None keyed are has = tt
tail_free es e (Some a) keyed are has =
    elim (cases_lt a.start e) [
      | inl less ↦
          let test : nat_lt a.start e ≡ true = lt-ltb a.start e less in
          rw test (elim (range_at es e) as (λ o. range_at es e ≡ o → o ≡ None) [
            | None ↦ λ at. refl
            | Some s ↦ λ at. let is = is_at_key es e s keyed are at in let pair = pair_at es a.start e a s keyed are has.2 at less in
                absurd (omega (arith, pair.0, is.0, has.1))
          ] refl)
      | inr more ↦ let test : nat_lt a.start e ≡ false = le-ltb a.start e more in rw test tt
    ]

pub tail_apart : (after : Option IotlbRange) (g : ℕ → Option IotlbRange) (e q : ℕ) → (e ≡ q → ⊥) → put_at (part_from after e) g q ≡ g q
tail_apart None g e q apart = refl
tail_apart (Some a) g e q apart =
    elim (cases_lt a.start e) [
      | inl less ↦ let test : nat_lt a.start e ≡ true = lt-ltb a.start e less in
          rw test (put_apart (record { start = e; end = a.end; target = a.target + (e - a.start); perm = a.perm }) g q apart)
      | inr more ↦ let test : nat_lt a.start e ≡ false = le-ltb a.start e more in rw test refl
    ]

pub right_part : (es : List (ℕ × IotlbRange)) (lo e q : ℕ) (after : Option IotlbRange) (r : IotlbRange) → AreKeyed es →
    AreRanges (values_of es) → HasAddress es e after → e ≤ q →
    put_at (part_from after e) (range_at es) q ≡ Some r → Part (range_at es) lo e q r
right_part es lo e q None r keyed are has high at =
    let is = is_at_key es q r keyed are at in old_part es lo e q r keyed are at (inr (omega (arith, is.0)))
right_part es lo e q (Some a) r keyed are has high at =
    elim (cases_lt a.start e) [
      | inl less ↦
          let test : nat_lt a.start e ≡ true = lt-ltb a.start e less in
          let cut : IotlbRange = record { start = e; end = a.end; target = a.target + (e - a.start); perm = a.perm } in
          let here : put_at (Some cut) (range_at es) q ≡ Some r = rw test at at in
          elim (cases_eq e q) [
            | inl same ↦
                let one = some_one cut r (sym (put_here cut (range_at es) q same) ∙ here) in
                rw (sym one) (record {
                  whole = a;
                  at = has.2;
                  key = sym same;
                  some = has.1;
                  low = has.0;
                  high = omega arith;
                  target = refl;
                  perm = refl;
                  out = inr (omega arith);
                  cut = inr refl;
                })
            | inr apart ↦ let old = sym (put_apart cut (range_at es) q apart) ∙ here in
                let is = is_at_key es q r keyed are old in
                old_part es lo e q r keyed are old (inr (omega (arith, is.0)))
          ]
      | inr more ↦
          let test : nat_lt a.start e ≡ false = le-ltb a.start e more in
          let old : range_at es q ≡ Some r = rw test at at in
          let is = is_at_key es q r keyed are old in
          old_part es lo e q r keyed are old (inr (omega (arith, is.0)))
    ]

-- what maps an address as a range did
abbrev pub MapsAs : (g : ℕ → Option IotlbRange) → (q a : ℕ) → IotlbRange → IotlbRange → Type 0
MapsAs g q a s r = (g q ≡ Some r) × (r.start ≤ a) × (a < r.end) × (r.target + (a - r.start) ≡ s.target + (a - s.start)) × (r.perm ≡ s.perm)

pub right_keep : (es : List (ℕ × IotlbRange)) (e a k : ℕ) (after : Option IotlbRange) (s : IotlbRange) → AreKeyed es →
    AreRanges (values_of es) → HasAddress es e after → e ≤ a →
    range_at es k ≡ Some s → s.start ≤ a → a < s.end →
    (q : ℕ) × (r : IotlbRange) × (e ≤ q) × MapsAs (put_at (part_from after e) (range_at es)) q a s r
right_keep es e a k after s keyed are has high at low under =
    let is = is_at_key es k s keyed are at in
    elim (cases_lt e k) [
      | inl above ↦ (k, s, omega arith, (tail_apart after (range_at es) e k (λ same. omega arith) ∙ at, low, under, refl, refl))
      | inr most ↦ by after has most
    ]
  where
    by : (after : Option IotlbRange) → HasAddress es e after → k ≤ e →
        (q : ℕ) × (r : IotlbRange) × (e ≤ q) × MapsAs (put_at (part_from after e) (range_at es)) q a s r
    by None none most = absurd (omega (arith, none k s at most))
    by (Some r) one most =
        let is = is_at_key es k s keyed are at in
        let same = one_about es e r s k keyed are one.2 at one.0 one.1 (omega (arith, is.0)) (omega arith) in
        elim (cases_lt r.start e) [
          | inl less ↦
              let test : nat_lt r.start e ≡ true = lt-ltb r.start e less in
              let cut : IotlbRange = record { start = e; end = r.end; target = r.target + (e - r.start); perm = r.perm } in (
                e,
                cut,
                omega arith,
                (
                  rw test (put_here cut (range_at es) e refl),
                  high,
                  omega (arith, ap (λ (x : IotlbRange). x.end) same),
                  rw (sym same) (omega (arith, one.0, high)),
                  ap
                      (λ (x : IotlbRange). x.perm) same,
                ),
              )
          | inr more ↦
              let test : nat_lt r.start e ≡ false = le-ltb r.start e more in
              (k, s, omega (arith, is.0, ap (λ (x : IotlbRange). x.start) same), (rw test at, low, under, refl, refl))
        ]

-- ---- the range before

pub head_apart : (es : List (ℕ × IotlbRange)) (before : Option IotlbRange) (g : ℕ → Option IotlbRange) (s q : ℕ) → ReachesFrom es s before →
    s ≤ q → put_at (part_up_to before s) g q ≡ g q
head_apart es None g s q reaches high = refl
head_apart es (Some b) g s q reaches high =
    put_apart (record { start = b.start; end = s; target = b.target; perm = b.perm }) g q (λ same. omega (arith, reaches.0))

pub head_taken :
    (es : List (ℕ × IotlbRange)) (before : Option IotlbRange) (s : ℕ) → ReachesFrom es s before → IsKey (range_at es) (part_up_to before s)
head_taken es None s reaches = tt
head_taken es (Some b) s reaches = some_is (range_at es b.start) b reaches.2

pub left_part : (es : List (ℕ × IotlbRange)) (s hi q : ℕ) (before : Option IotlbRange) (g : ℕ → Option IotlbRange) (r : IotlbRange) →
    AreKeyed es → AreRanges (values_of es) → ReachesFrom es s before →
    q < s → g q ≡ range_at es q →
    put_at (part_up_to before s) g q ≡ Some r → Part (range_at es) s hi q r
left_part es s hi q None g r keyed are reaches low old at =
    let this = sym old ∙ at in
    old_part es s hi q r keyed are this (inl (omega (arith, reaches q r this low)))
left_part es s hi q (Some b) g r keyed are reaches low old at =
    let cut : IotlbRange = record { start = b.start; end = s; target = b.target; perm = b.perm } in
    elim (cases_eq b.start q) [
      | inl same ↦
          let one = some_one cut r (sym (put_here cut g q same) ∙ at) in
          rw (sym one) (record {
            whole = b;
            at = reaches.2;
            key = sym same;
            some = reaches.0;
            low = omega arith;
            high = reaches.1;
            target = omega arith;
            perm = refl;
            out = inl (omega arith);
            cut = inl refl;
          })
      | inr apart ↦
          let this = sym old ∙ sym (put_apart cut g q apart) ∙ at in
          let is = is_at_key es q r keyed are this in
          old_part es s hi q r keyed are this (inl (elim (cases_lt q b.start) [
            | inl less ↦ let pair = pair_at es q b.start r b keyed are this reaches.2 less in omega (arith, pair.0, reaches.0)
            | inr more ↦ let pair = pair_at es b.start q b r keyed are reaches.2 this (omega arith) in
                absurd (omega (arith, pair.0, is.0, reaches.1))
          ]))
    ]

pub left_keep : (es : List (ℕ × IotlbRange)) (e a k : ℕ) (before : Option IotlbRange) (g : ℕ → Option IotlbRange) (s : IotlbRange) →
    AreKeyed es → AreRanges (values_of es) → ReachesFrom es e before →
    a < e → ((q : ℕ) → q < e → g q ≡ range_at es q) →
    range_at es k ≡ Some s → s.start ≤ a → a < s.end →
    (q : ℕ) × (r : IotlbRange) × (q < e) × MapsAs (put_at (part_up_to before e) g) q a s r
left_keep es e a k None g s keyed are reaches below old at low under =
    let is = is_at_key es k s keyed are at in
    (k, s, omega (arith, is.0), (old k (omega (arith, is.0)) ∙ at, low, under, refl, refl))
left_keep es e a k (Some b) g s keyed are reaches below old at low under =
    let is = is_at_key es k s keyed are at in
    let cut : IotlbRange = record { start = b.start; end = e; target = b.target; perm = b.perm } in
    elim (cases_eq b.start k) [
      | inl same ↦
          let one = some_one b s (sym reaches.2 ∙ ap (range_at es) same ∙ at) in (
            k,
            cut,
            omega (arith, is.0),
            (put_here cut g k same, omega (arith, is.0), below, rw (sym one) refl, ap (λ (x : IotlbRange). x.perm) one),
          )
      | inr apart ↦ (k, s, omega (arith, is.0), (put_apart cut g k apart ∙ old k (omega (arith, is.0)) ∙ at, low, under, refl, refl))
    ]

-- the range that has an address is a range
pub has_range :
    (es : List (ℕ × IotlbRange)) (e : ℕ) (after : Option IotlbRange) → AreKeyed es → AreRanges (values_of es) → HasAddress es e after →
    MatchOption after (Unit {0}) (λ r. IsRange r × (r.start ≤ e) × (e < r.end))
has_range es e None keyed are has = tt
has_range es e (Some a) keyed are has = ((is_at_key es a.start a keyed are has.2).1, has.0, has.1)

pub reaches_range :
    (es : List (ℕ × IotlbRange)) (s : ℕ) (before : Option IotlbRange) → AreKeyed es → AreRanges (values_of es) → ReachesFrom es s before →
    MatchOption before (Unit {0}) (λ b. IsRange b × (b.start ≤ s) × (s ≤ b.end))
reaches_range es s None keyed are reaches = tt
reaches_range es s (Some b) keyed are reaches = ((is_at_key es b.start b keyed are reaches.2).1, omega (arith, reaches.0), reaches.1)
