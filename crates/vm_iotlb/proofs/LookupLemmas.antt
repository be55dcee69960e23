-- a look-up that begins at the range with the greatest start
use Rattle.std.proofs.Common.{refl, ◌≡◌, ℕ, true, ◌+◌, ◌-◌, ◌<◌, ◌≤◌, ◌^◌, List, [], ◌∷◌, ap, sym, ◌∙◌, arith, Some, None, Option, inl, inr}
use Rattle.std.specs.Prelude.{min, nat_lt, MatchOption}
use Rattle.std.specs.Map.{values_of}
use Rattle.std.proofs.lemmas.Bool.{cases_lt, cases_eq, lt-ltb}
use Rattle.vm_iotlb.specs.declared.permissions.Permissions.{Permissions}
use Rattle.vm_iotlb.specs.declared.range.IotlbRange.{IotlbRange}
use Rattle.vm_iotlb.specs.declared.iova.MappedRange.{MappedRange}
use Rattle.vm_iotlb.specs.Table.{allows}
use Rattle.vm_iotlb.specs.Keys.{AreKeyed, HasAddress, range_at, IsLastUpTo, NoneUpTo}
use Rattle.std.specs.BTreeMap.{BTreeMap as SeenMap}
use denote.Ref.{Bor}
use Rattle.vm_iotlb.specs.declared.permissions.Permissions.TheVariants.{No}
use Rattle.vm_iotlb.specs.Pieces.{AreMapped, pieces_left}
use Rattle.vm_iotlb.proofs.Covering.{Cover}
use Rattle.vm_iotlb.specs.Ranges.{mapping_in, table_held, AreRanges, Agree}
use Rattle.vm_iotlb.specs.AddressRuns.{may_all, may_pass, pieces}
use Rattle.vm_iotlb.proofs.RangeLemmas.{table_inside}
use Rattle.vm_iotlb.proofs.RunLemmas.{agree_rest, may_range, nothing_left, pieces_run, range_run}
use Rattle.vm_iotlb.proofs.PieceLemmas.{cover, may_head, pieces_cover, stopped}
use Rattle.vm_iotlb.proofs.MapLemmas.{is_at_key, none_at, pair_at, some_one, tail_at}

-- an address that is in no range, since the last one that begins up to it ends up to it
pub last_ended : (es : List (ℕ × IotlbRange)) (iova : ℕ) (r : IotlbRange) → AreKeyed es → AreRanges (values_of es) → IsLastUpTo es iova r →
    r.end ≤ iova → table_held (values_of es) iova ≡ None
last_ended es iova r keyed are last ended =
    none_at es iova keyed are (λ k s at low high.
    let is = is_at_key es k s keyed are at in
    let up = last.2 k s at (omega (arith, is.0)) in
    elim (cases_eq k r.start) [
      | inl same ↦ let one = some_one r s (sym last.1 ∙ ap (range_at es) (sym same) ∙ at) in absurd (omega (arith, rw one at ended))
      | inr apart ↦ let order = pair_at es k r.start s r keyed are at last.1 (omega arith) in absurd (omega (arith, order.0, last.0))
    ])

pub none_up_to : (es : List (ℕ × IotlbRange)) (iova : ℕ) → AreKeyed es → AreRanges (values_of es) → NoneUpTo es iova →
    table_held (values_of es) iova ≡ None
none_up_to es iova keyed are none =
    none_at es iova keyed are (λ k s at low high.
    let is = is_at_key es k s keyed are at in
    absurd (omega (arith, is.0, none k s at)))

-- the addresses that lie in one range
pub within_one : (es : List (ℕ × IotlbRange)) (iova end : ℕ) (r : IotlbRange) → AreKeyed es → AreRanges (values_of es) →
    IsLastUpTo es iova r → end ≤ r.end →
    AreRanges (r ∷ []) × Agree (table_held (values_of es)) (r ∷ []) iova end × Cover (r ∷ []) iova end
within_one es iova end r keyed are last within =
    let tail = tail_at es r.start r keyed are last.1 in (
      (tail.1.0, tt, tt),
      (λ x from to. tail.3 x (omega (arith, last.0)) ∙ table_inside r tail.0 x (omega (arith, last.0)) (omega arith)
          ∙ sym (table_inside r [] x (omega (arith, last.0)) (omega arith))),
      λ some. (last.0, omega arith, tail.1.0.2, omega arith),
    )

pub may_within : (es : List (ℕ × IotlbRange)) (access : Permissions) (iova end : ℕ) (r : IotlbRange) → AreKeyed es →
    AreRanges (values_of es) → IsLastUpTo es iova r → iova ≤ end → end ≤ r.end →
    allows r.perm access ≡ true →
    may_all (table_held (values_of es)) access iova (end - iova) ≡ true
may_within es access iova end r keyed are last order within allowed =
    let one = within_one es iova end r keyed are last within in
    may_range (table_held (values_of es)) access r [] iova end end one.1 last.0 order within (omega arith) allowed
    ∙ (nothing_left (table_held (values_of es)) access end end (omega arith)).3

-- the first piece, where each address is mapped, and what is left behind it
pub first_of : (es : List (ℕ × IotlbRange)) (access : Permissions) (iova end : ℕ) (r : IotlbRange) → AreKeyed es →
    AreRanges (values_of es) → IsLastUpTo es iova r → iova < end →
    may_all (table_held (values_of es)) access iova (end - iova) ≡ true →
    (iova < r.end) × (r.target + (r.end - r.start) < 2 ^ 64)
    × (may_all (table_held (values_of es)) access (min r.end end) (end - min r.end end) ≡ true) ×
    (pieces (table_held (values_of es)) iova (end - iova)
    ≡ record { base = record { 0 = r.target + (iova - r.start) }; length = min r.end end - iova }
    ∷ pieces (table_held (values_of es)) (min r.end end) (end - min r.end end))
first_of es access iova end r keyed are last some all =
    let tail = tail_at es r.start r keyed are last.1 in
    let has : iova < r.end = elim (cases_lt iova r.end) [
      | inl under ↦ under
      | inr over ↦ absurd (stopped (table_held (values_of es)) access iova end some (last_ended es iova r keyed are last over) all)
    ] in
    let agree : Agree (table_held (values_of es)) (r ∷ tail.0) iova end = λ x from to. tail.3 x (omega (arith, last.0)) in
    let covered = cover (table_held (values_of es)) access (r ∷ tail.0) iova end tail.1 has (omega arith) agree all in
    let behind : Agree (table_held (values_of es)) tail.0 (min r.end end) end =
    agree_rest (table_held (values_of es)) r tail.0 iova (min r.end end) end agree (omega arith) (λ more. omega arith) in
    let rest = pieces_cover (table_held (values_of es)) tail.0 (min r.end end) end tail.1.2 (covered some).3 (omega arith) behind in
    let test : nat_lt iova end ≡ true = lt-ltb iova end some in
    let whole = pieces_cover (table_held (values_of es)) (r ∷ tail.0) iova end tail.1 covered (omega arith) agree in
    let first = rw (test, rest) at whole in
    let held : may_pass access (table_held (values_of es) iova) ≡ true =
    may_head (table_held (values_of es)) access iova (end - iova) (omega arith) all in
    let here : table_held (values_of es) iova ≡ Some (mapping_in r iova) =
    agree iova (omega arith) some ∙ table_inside r tail.0 iova last.0 has in
    let allowed : allows r.perm access ≡ true = rw here at held in
    let left = may_range (table_held (values_of es)) access r tail.0 iova (min r.end end) end agree last.0 (omega arith) (omega arith)
    (omega arith) allowed in
    (has, (covered some).2, sym left ∙ all, sym first)

-- nothing is left at the end
pub none_left : (m : Option (Bor (SeenMap ℕ IotlbRange))) (a e : ℕ) → e ≤ a → pieces_left m a e ≡ []
none_left None a e done = refl
none_left (Some m) a e done = (nothing_left (table_held (values_of m.now.entries)) No a e done).2

-- an address is mapped where an access may go through it
pub not_none : (es : List (ℕ × IotlbRange)) (iova end : ℕ) → AreKeyed es → AreRanges (values_of es) →
    AreMapped (table_held (values_of es)) iova end → iova < end → NoneUpTo es iova → ⊥
not_none es iova end keyed are mapped some none =
    stopped (table_held (values_of es)) mapped.0 iova end some (none_up_to es iova keyed are none) mapped.1

-- the first of some pieces
pub first_given : (res : Option MappedRange) (s t all : List MappedRange) → s ≡ all → (all ≡ [] → ⊥) →
    MatchOption res ((s ≡ []) × (t ≡ [])) (λ x. (s ≡ x ∷ t) × (x.base.0 + x.length < 2 ^ 64)) →
    MatchOption res ⊥ (λ x. (l : List MappedRange) × (all ≡ x ∷ l))
first_given None s t all is some gives = some (sym is ∙ gives.0)
first_given (Some x) s t all is some gives = (t, sym is ∙ gives.0)

-- ---- one address

-- the range that has an address, and what it is mapped to
pub range_having :
    (es : List (ℕ × IotlbRange)) (a : ℕ) (r : IotlbRange) → AreKeyed es → AreRanges (values_of es) → HasAddress es a (Some r) →
    (table_held (values_of es) a ≡ Some (mapping_in r a)) × (r.end < 2 ^ 64) × (r.target + (r.end - r.start) < 2 ^ 64)
range_having es a r keyed are has =
    let tail = tail_at es r.start r keyed are has.2 in
    (tail.3 a has.0 ∙ table_inside r tail.0 a has.0 has.1, tail.1.0.1, tail.1.0.2)

-- no range has it
pub none_having : (es : List (ℕ × IotlbRange)) (a : ℕ) → AreKeyed es → AreRanges (values_of es) → HasAddress es a None →
    table_held (values_of es) a ≡ None
none_having es a keyed are none =
    none_at es a keyed are (λ k s at low high.
    let is = is_at_key es k s keyed are at in
    absurd (omega (arith, none k s at (omega (arith, is.0)))))

-- the first piece from an address on
pub piece_having : (es : List (ℕ × IotlbRange)) (a most : ℕ) (r : IotlbRange) → 0 < most → AreKeyed es → AreRanges (values_of es) →
    HasAddress es a (Some r) →
    (rest : List MappedRange) × (pieces (table_held (values_of es)) a most
    ≡ record { base = record { 0 = r.target + (a - r.start) }; length = min (r.end - a) most } ∷ rest)
piece_having es a most r some keyed are has =
    let t = table_held (values_of es) in
    let tail = tail_at es r.start r keyed are has.2 in
    let e : ℕ = a + most in
    let b : ℕ = min r.end e in
    let agree : Agree t (r ∷ tail.0) a e = λ x from to. tail.3 x (omega (arith, has.0)) in
    let run = range_run t r tail.0 a b e tail.1 agree has.0 (omega (arith, has.1)) (omega arith) (omega arith) (λ more. omega arith) in
    let to : t a ≡ Some (mapping_in r a) = tail.3 a has.0 ∙ table_inside r tail.0 a has.0 has.1 in
    let all = pieces_run t a b (b - a) (e - a) (e - b) (mapping_in r a) run to in
    let count : e - a ≡ most = omega arith in
    let len : b - a ≡ min (r.end - a) most = omega (arith, has.1) in
    (pieces t b (e - b), rw (count, len) at all)
