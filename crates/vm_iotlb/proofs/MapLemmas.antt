-- ranges by their starts: what a map of them says of the table that they keep
use Rattle.std.proofs.Common.{◌≡◌, ℕ, true, false, ◌+◌, ◌<◌, ◌≤◌, List, [], ◌∷◌, refl, ap, sym, ◌∙◌, arith, Some, None, Option, IsSome, inl}
use Rattle.std.proofs.Common.{inr, eq-eqb}
use Rattle.std.specs.Ordering.{nat_cmp, is_gt, is_le}
use Rattle.std.specs.BTreeMap.Range.{entries_between}
use Rattle.std.specs.declared.ops.Bound.TheVariants.{Included, Unbounded}
use Rattle.std.specs.Map.{keys_of, values_of}
use Rattle.std.specs.BTreeMap.{is_at}
use Rattle.std.specs.Cmp.{unsigned_tied, nat_cmp_is}
use Rattle.std.specs.Prelude.{cond, nat_le, nat_lt, ◌&&◌}
use Rattle.std.proofs.lemmas.Bool.Decides.{nat_tests}
use Rattle.std.specs.List.{AllByRecursion}
use Rattle.std.specs.List.Sorted.{IsStrictlySortedBy}
use Rattle.std.specs.declared.cmp.Ordering.TheVariants.{Less, Equal, Greater}
use Rattle.std.proofs.lemmas.Bool.{cases_lt, cases_eq, ne_eqb}
use Rattle.std.proofs.lemmas.Map.Keys.{sorted_head, sorted_tail}
use Rattle.vm_iotlb.specs.declared.range.IotlbRange.{IotlbRange}
use Rattle.vm_iotlb.specs.Keys.{AreKeyed, range_at, Divides, HasAddress, IsLastUpTo, NoneUpTo, ReachesFrom, cleared, put_at}
use Rattle.vm_iotlb.specs.Ranges.{has, table_held, IsRange, Precedes, PrecedesAll, AreRanges, EndsAbove}
use Rattle.vm_iotlb.proofs.RangeLemmas.{StartFrom, from_after, has_below, has_above, table_out}

pub at_here : (e : ℕ × IotlbRange) (es : List (ℕ × IotlbRange)) (k : ℕ) → k ≡ e.0 → range_at (e ∷ es) k ≡ Some e.1
at_here e es k same = let test : is_at (nat_cmp k) e.0 ≡ true = unsigned_tied k e.0 ∙ eq-eqb k e.0 same in rw test refl

pub at_rest : (e : ℕ × IotlbRange) (es : List (ℕ × IotlbRange)) (k : ℕ) → (k ≡ e.0 → ⊥) → range_at (e ∷ es) k ≡ range_at es k
at_rest e es k apart = let test : is_at (nat_cmp k) e.0 ≡ false = unsigned_tied k e.0 ∙ ne_eqb k e.0 apart in rw test refl

pub none_some : (r : IotlbRange) → ◌≡◌ {A = Option IotlbRange} None (Some r) → ⊥
none_some r e = cc

pub some_one : (r s : IotlbRange) → Some r ≡ Some s → r ≡ s
some_one r s e = cc

-- a range lies behind where the first of them begins
pub after_at : (es : List (ℕ × IotlbRange)) (k b : ℕ) (r : IotlbRange) → AreKeyed es → AreRanges (values_of es) →
    StartFrom b (values_of es) → range_at es k ≡ Some r → b ≤ k
after_at [] k b r keyed are from at = absurd (none_some r at)
after_at (e ∷ es) k b r keyed are from at =
    elim (cases_eq k e.0) [
      | inl same ↦ omega (arith, keyed.0)
      | inr apart ↦
          let rest = after_at es k e.1.end r keyed.1 are.2 (from_after e.1 (values_of es) are.1) (sym (at_rest e es k apart) ∙ at) in
          omega (arith, are.0.0)
    ]

-- a range and those behind it have all mappings from its start on
pub tail_at : (es : List (ℕ × IotlbRange)) (k : ℕ) (r : IotlbRange) → AreKeyed es → AreRanges (values_of es) → range_at es k ≡ Some r →
    (l : List IotlbRange) × AreRanges (r ∷ l) × (r.start ≡ k) × ((a : ℕ) → k ≤ a → table_held (values_of es) a ≡ table_held (r ∷ l) a)
tail_at [] k r keyed are at = absurd (none_some r at)
tail_at (e ∷ es) k r keyed are at =
    elim (cases_eq k e.0) [
      | inl same ↦
          let one = some_one e.1 r (sym (at_here e es k same) ∙ at) in
          rw (sym one) (values_of es, are, omega (arith, keyed.0), λ a from. refl)
      | inr apart ↦
          let more : range_at es k ≡ Some r = sym (at_rest e es k apart) ∙ at in
          let low = after_at es k e.1.end r keyed.1 are.2 (from_after e.1 (values_of es) are.1) more in
          let rest = tail_at es k r keyed.1 are.2 more in
          (rest.0, rest.1, rest.2, λ a from. table_out e.1 (values_of es) a (omega arith) ∙ rest.3 a from)
    ]

-- a range precedes each one behind it
precedes_at : (p : IotlbRange) (es : List (ℕ × IotlbRange)) (k : ℕ) (s : IotlbRange) → AreKeyed es → AreRanges (p ∷ values_of es) →
    range_at es k ≡ Some s → Precedes p s
precedes_at p [] k s keyed are at = absurd (none_some s at)
precedes_at p (e ∷ es) k s keyed are at =
    elim (cases_eq k e.0) [
      | inl same ↦ let one = some_one e.1 s (sym (at_here e es k same) ∙ at) in rw (sym one) are.1
      | inr apart ↦
          let more : range_at es k ≡ Some s = sym (at_rest e es k apart) ∙ at in
          let last = precedes_at e.1 es k s keyed.1 are.2 more in
          let high : p.end < s.start = omega (arith, are.1.0, are.2.0.0, last.0) in
          (omega arith, λ one. absurd (omega (arith, one.0)))
    ]

pub pair_at : (es : List (ℕ × IotlbRange)) (j k : ℕ) (r s : IotlbRange) → AreKeyed es → AreRanges (values_of es) → range_at es j ≡ Some r →
    range_at es k ≡ Some s → j < k → Precedes r s
pair_at [] j k r s keyed are at next order = absurd (none_some r at)
pair_at (e ∷ es) j k r s keyed are at next order =
    elim (cases_eq j e.0) [
      | inl same ↦
          let one = some_one e.1 r (sym (at_here e es j same) ∙ at) in
          rw (sym one) (precedes_at e.1 es k s keyed.1 are (sym (at_rest e es k (λ equal. omega arith)) ∙ next))
      | inr apart ↦
          let more : range_at es j ≡ Some r = sym (at_rest e es j apart) ∙ at in
          let low = after_at es j e.1.end r keyed.1 are.2 (from_after e.1 (values_of es) are.1) more in
          pair_at es j k r s keyed.1 are.2 more (sym (at_rest e es k (λ equal. omega (arith, keyed.0, are.0.0))) ∙ next) order
    ]

-- an address that no range has
pub none_at : (es : List (ℕ × IotlbRange)) (a : ℕ) → AreKeyed es → AreRanges (values_of es) →
    ((k : ℕ) (r : IotlbRange) → range_at es k ≡ Some r → r.start ≤ a → a < r.end → ⊥) → table_held (values_of es) a ≡ None
unfolding table_held
none_at [] a keyed are none = refl
none_at (e ∷ es) a keyed are none =
    let rest = none_at es a keyed.1 are.2 (λ k r at low high.
    let after = after_at es k e.1.end r keyed.1 are.2 (from_after e.1 (values_of es) are.1) at in
    none k r (at_rest e es k (λ equal. omega (arith, keyed.0, are.0.0)) ∙ at) low high) in
    elim (cases_lt a e.1.start) [
      | inl under ↦ let out : has e.1 a ≡ false = has_below e.1 a under in rw out rest
      | inr low ↦ elim (cases_lt a e.1.end) [
        | inl high ↦ absurd (none e.0 e.1 (at_here e es e.0 refl) low high)
        | inr over ↦ let out : has e.1 a ≡ false = has_above e.1 a over in rw out rest
      ]
    ]

equal_less : Equal ≡ Less → ⊥
equal_less e = cc

greater_less : Greater ≡ Less → ⊥
greater_less e = cc

lt_from_cmp : (x y : ℕ) → nat_cmp x y ≡ Less → x < y
lt_from_cmp x y e =
    elim (cases_lt x y) [
      | inl less ↦ less
      | inr high ↦ elim (cases_eq x y) [
        | inl same ↦ absurd (equal_less (nat_cmp_is x y Equal same ∙ e))
        | inr apart ↦ absurd (greater_less (nat_cmp_is x y Greater (omega arith) ∙ e))
      ]
    ]

-- the keys behind the first one are above it
above_at : (x : ℕ) (es : List (ℕ × IotlbRange)) (k : ℕ) (r : IotlbRange) → AllByRecursion (λ y. nat_cmp x y ≡ Less) (keys_of es) →
    range_at es k ≡ Some r → x < k
above_at x [] k r all at = absurd (none_some r at)
above_at x (e ∷ es) k r all at =
    elim (cases_eq k e.0) [
      | inl same ↦ let less : x < e.0 = lt_from_cmp x e.0 all.0 in omega arith
      | inr apart ↦ above_at x es k r all.1 (sym (at_rest e es k apart) ∙ at)
    ]

first_precedes : (e : ℕ × IotlbRange) (es : List (ℕ × IotlbRange)) → AllByRecursion (λ y. nat_cmp e.0 y ≡ Less) (keys_of es) →
    ((k : ℕ) (s : IotlbRange) → e.0 < k → range_at es k ≡ Some s → Precedes e.1 s) →
    PrecedesAll e.1 (values_of es)
first_precedes e [] head pair = tt
first_precedes e (f ∷ es) head pair = pair f.0 f.1 (lt_from_cmp e.0 f.0 head.0) (at_here f es f.0 refl)

-- what stands at each key makes the ranges a table
pub ranges_from_at : (es : List (ℕ × IotlbRange)) → IsStrictlySortedBy nat_cmp (keys_of es) →
    ((k : ℕ) (r : IotlbRange) → range_at es k ≡ Some r → (k ≡ r.start) × IsRange r) →
    ((j k : ℕ) (r s : IotlbRange) → j < k → range_at es j ≡ Some r → range_at es k ≡ Some s → Precedes r s) →
    AreKeyed es × AreRanges (values_of es)
ranges_from_at [] sorted each pair = (tt, tt)
ranges_from_at (e ∷ es) sorted each pair =
    let head = sorted_head nat_cmp e.0 (keys_of es) sorted in
    let rest = ranges_from_at es (sorted_tail nat_cmp e.0 (keys_of es) sorted)
    (λ k r at. let up = above_at e.0 es k r head at in each k r (at_rest e es k (λ equal. omega arith) ∙ at))
    (λ j k r s order at next.
    let up = above_at e.0 es j r head at in
    pair j k r s order (at_rest e es j (λ equal. omega arith) ∙ at) (at_rest e es k (λ equal. omega arith) ∙ next)) in
    let this = each e.0 e.1 (at_here e es e.0 refl) in (
      (this.0, rest.0),
      (
        this.1,
        first_precedes e es head
            (λ k s up next. pair e.0 k e.1 s up (at_here e es e.0 refl) (at_rest e es k (λ equal. omega arith) ∙ next)),
        rest.1,
      ),
    )

-- ---- bounds

pub key_at : (es : List (ℕ × IotlbRange)) (k : ℕ) (r : IotlbRange) → AreKeyed es → range_at es k ≡ Some r → k ≡ r.start
key_at [] k r keyed at = absurd (none_some r at)
key_at (e ∷ es) k r keyed at =
    elim (cases_eq k e.0) [
      | inl same ↦ let one = some_one e.1 r (sym (at_here e es k same) ∙ at) in rw (sym one) (same ∙ keyed.0)
      | inr apart ↦ key_at es k r keyed.1 (sym (at_rest e es k apart) ∙ at)
    ]

pub not_gt : (a b : ℕ) → a ≤ b → is_gt (nat_cmp a b) ≡ false
not_gt a b h =
    elim (cases_eq a b) [
      | inl same ↦ rw (sym (nat_cmp_is a b Equal same)) refl
      | inr apart ↦ rw (sym (nat_cmp_is a b Less (omega arith))) refl
    ]

pub some_is : (o : Option IotlbRange) (r : IotlbRange) → o ≡ Some r → IsSome o
some_is o r e = rw e refl

starts_lower : (l : List IotlbRange) (e f : ℕ) → StartFrom e l → f ≤ e → StartFrom f l
starts_lower [] e f from h = tt
starts_lower (r ∷ l) e f from h = omega arith

-- ---- the ranges from a key on

abbrev pub from_key : ℕ → List (ℕ × IotlbRange) → List (ℕ × IotlbRange)
from_key low es = entries_between nat_cmp (Included low) Unbounded es

le_test : (a b : ℕ) → a ≤ b → is_le (nat_cmp a b) ≡ true
le_test a b h =
    elim (cases_eq a b) [
      | inl same ↦ rw (sym (nat_cmp_is a b Equal same)) refl
      | inr apart ↦ rw (sym (nat_cmp_is a b Less (omega arith))) refl
    ]

gt_test : (a b : ℕ) → b < a → is_le (nat_cmp a b) ≡ false
gt_test a b h = rw (sym (nat_cmp_is a b Greater h)) refl

from_all :
    (es : List (ℕ × IotlbRange)) (low : ℕ) → AreKeyed es → AreRanges (values_of es) → StartFrom low (values_of es) → from_key low es ≡ es
from_all [] low keyed are from = refl
from_all (e ∷ es) low keyed are from =
    let test : is_le (nat_cmp low e.0) ≡ true = le_test low e.0 (omega (arith, keyed.0)) in
    let next : StartFrom low (values_of es) =
    starts_lower (values_of es) e.1.end low (from_after e.1 (values_of es) are.1) (omega (arith, are.0.0)) in
    rw test (ap (λ (l : List (ℕ × IotlbRange)). e ∷ l) (from_all es low keyed.1 are.2 next))

pub from_divided : (es : List (ℕ × IotlbRange)) (low iova : ℕ) → AreKeyed es → AreRanges (values_of es) → Divides es low iova →
    AreRanges (values_of (from_key low es)) × EndsAbove iova (values_of (from_key low es))
    × ((a : ℕ) → iova ≤ a → table_held (values_of es) a ≡ table_held (values_of (from_key low es)) a)
from_divided [] low iova keyed are parts = (tt, tt, λ a high. refl)
from_divided (e ∷ es) low iova keyed are parts =
    elim (cases_lt e.0 low) [
      | inl below ↦
          let test : is_le (nat_cmp low e.0) ≡ false = gt_test low e.0 below in
          let ended = parts.0 e.0 e.1 (at_here e es e.0 refl) below in
          let up : (k : ℕ) (r : IotlbRange) → range_at es k ≡ Some r → range_at (e ∷ es) k ≡ Some r = λ k r at.
          let after = after_at es k e.1.end r keyed.1 are.2 (from_after e.1 (values_of es) are.1) at in
          at_rest e es k (λ equal. omega (arith, keyed.0, are.0.0)) ∙ at in
          let rest = from_divided es low iova keyed.1 are.2
          (λ k r at under. parts.0 k r (up k r at) under, λ k r at over. parts.1 k r (up k r at) over) in
          rw test (rest.0, rest.1, λ a high. table_out e.1 (values_of es) a (omega arith) ∙ rest.2 a high)
      | inr above ↦
          let whole = from_all (e ∷ es) low keyed are (omega (arith, keyed.0)) in
          rw whole (are, parts.1 e.0 e.1 (at_here e es e.0 refl) above, λ a high. refl)
    ]

pub is_at_key : (es : List (ℕ × IotlbRange)) (k : ℕ) (s : IotlbRange) → AreKeyed es → AreRanges (values_of es) → range_at es k ≡ Some s →
    (k ≡ s.start) × IsRange s
is_at_key es k s keyed are at = let tail = tail_at es k s keyed are at in (sym tail.2, tail.1.0)

pub divides_some : (es : List (ℕ × IotlbRange)) (iova : ℕ) (r : IotlbRange) → AreKeyed es → AreRanges (values_of es) →
    IsLastUpTo es iova r → iova < r.end → Divides es r.start iova
divides_some es iova r keyed are last has = (
  λ k s at below. let order = pair_at es k r.start s r keyed are at last.1 below in omega (arith, order.0, last.0),
  λ k s at from. elim (cases_eq k r.start) [
    | inl same ↦ let one = some_one r s (sym last.1 ∙ ap (range_at es) (sym same) ∙ at) in rw (sym one) has
    | inr apart ↦
        let is = is_at_key es k s keyed are at in
        elim (cases_lt iova k) [
          | inl over ↦ omega (arith, is.0, is.1.0)
          | inr under ↦ absurd (omega (arith, last.2 k s at under))
        ]
  ],
)

pub divides_ended : (es : List (ℕ × IotlbRange)) (iova : ℕ) (r : IotlbRange) → AreKeyed es → AreRanges (values_of es) →
    IsLastUpTo es iova r → r.end ≤ iova → Divides es iova iova
divides_ended es iova r keyed are last ended = (
  λ k s at below. elim (cases_eq k r.start) [
    | inl same ↦ let one = some_one r s (sym last.1 ∙ ap (range_at es) (sym same) ∙ at) in rw (sym one) ended
    | inr apart ↦
        let low = last.2 k s at (omega arith) in
        let order = pair_at es k r.start s r keyed are at last.1 (omega arith) in
        omega (arith, order.0, last.0)
  ],
  λ k s at from. let is = is_at_key es k s keyed are at in omega (arith, is.0, is.1.0),
)

pub divides_none :
    (es : List (ℕ × IotlbRange)) (iova : ℕ) → AreKeyed es → AreRanges (values_of es) → NoneUpTo es iova → Divides es iova iova
divides_none es iova keyed are none = (
  λ k s at below. absurd (omega (arith, none k s at)),
  λ k s at from. let is = is_at_key es k s keyed are at in omega (arith, is.0, is.1.0),
)

-- ---- what stands at a key after a change

pub test_here : (k q : ℕ) → k ≡ q → is_at (nat_cmp k) q ≡ true
test_here k q same = unsigned_tied k q ∙ eq-eqb k q same

pub test_apart : (k q : ℕ) → (k ≡ q → ⊥) → is_at (nat_cmp k) q ≡ false
test_apart k q apart = unsigned_tied k q ∙ ne_eqb k q apart

pub put_here : (r : IotlbRange) (g : ℕ → Option IotlbRange) (q : ℕ) → r.start ≡ q → put_at (Some r) g q ≡ Some r
put_here r g q same = let test = test_here r.start q same in rw test refl

pub put_apart : (r : IotlbRange) (g : ℕ → Option IotlbRange) (q : ℕ) → (r.start ≡ q → ⊥) → put_at (Some r) g q ≡ g q
put_apart r g q apart = let test = test_apart r.start q apart in rw test refl

pub put_same : (o : Option IotlbRange) (g h : ℕ → Option IotlbRange) (q : ℕ) → g q ≡ h q → put_at o g q ≡ put_at o h q
put_same None g h q same = same
put_same (Some r) g h q same = rw same refl

pub clear_within : (from to : ℕ) (g : ℕ → Option IotlbRange) (q : ℕ) → from ≤ q → q < to → cleared from to g q ≡ None
clear_within from to g q low high = let test : (nat_le from q && nat_lt q to) ≡ true = grind (arith, nat_tests) in rw test refl

pub clear_below : (from to : ℕ) (g : ℕ → Option IotlbRange) (q : ℕ) → q < from → cleared from to g q ≡ g q
clear_below from to g q low = let test : (nat_le from q && nat_lt q to) ≡ false = grind (arith, nat_tests) in rw test refl

pub clear_above : (from to : ℕ) (g : ℕ → Option IotlbRange) (q : ℕ) → to ≤ q → cleared from to g q ≡ g q
clear_above from to g q high = let test : (nat_le from q && nat_lt q to) ≡ false = grind (arith, nat_tests) in rw test refl

-- what was put under a free key is taken out again
pub back_at : (r : IotlbRange) (before : ℕ → Option IotlbRange) (q : ℕ) (mid after : Option IotlbRange) → before r.start ≡ None →
    mid ≡ put_at (Some r) before q →
    after ≡ cond (is_at (nat_cmp r.start) q) None mid → after ≡ before q
back_at r before q mid after free put gone =
    elim (cases_eq r.start q) [
      | inl same ↦ gone ∙ rw (test_here r.start q same) (sym free ∙ ap before same)
      | inr apart ↦ gone ∙ rw (test_apart r.start q apart) (put ∙ put_apart r before q apart)
    ]

-- ---- the ranges about an address

pub reaches_none : (es : List (ℕ × IotlbRange)) (below addr : ℕ) (r : IotlbRange) → AreKeyed es → AreRanges (values_of es) →
    below + 1 ≡ addr → IsLastUpTo es below r →
    r.end < addr → ReachesFrom es addr None
reaches_none es below addr r keyed are next last ended = λ k s at low.
    elim (cases_eq k r.start) [
      | inl same ↦ let one = some_one r s (sym last.1 ∙ ap (range_at es) (sym same) ∙ at) in rw (sym one) ended
      | inr apart ↦
          let up = last.2 k s at (omega arith) in
          let order = pair_at es k r.start s r keyed are at last.1 (omega arith) in
          omega (arith, order.0, last.0)
    ]

pub has_none : (es : List (ℕ × IotlbRange)) (addr : ℕ) (r : IotlbRange) → AreKeyed es → AreRanges (values_of es) → IsLastUpTo es addr r →
    r.end ≤ addr → HasAddress es addr None
has_none es addr r keyed are last ended = λ k s at low.
    elim (cases_eq k r.start) [
      | inl same ↦ let one = some_one r s (sym last.1 ∙ ap (range_at es) (sym same) ∙ at) in rw (sym one) ended
      | inr apart ↦
          let up = last.2 k s at low in
          let order = pair_at es k r.start s r keyed are at last.1 (omega arith) in
          omega (arith, order.0, last.0)
    ]
