-- what a look-up over ranges answers
use Rattle.std.proofs.Common.{◌≡◌, ℕ, zero, suc, true, false, ◌+◌, ◌-◌, ◌<◌, ◌≤◌, List, [], ◌∷◌, ◌++◌, append_assoc, map, leb, refl, ap}
use Rattle.std.proofs.Common.{sym, ◌∙◌, arith, Some, None, Option, inl, inr}
use Rattle.std.proofs.Math.Numerals.{add-one}
use Rattle.std.specs.Prelude.{nat_lt, if◌then◌else◌, max, min}
use Rattle.std.specs.List.{range_with_len}
use Rattle.std.proofs.lemmas.List.{append-nil}
use Rattle.std.proofs.lemmas.Bool.{cases_lt, cases_Bool, and_parts, eqb-true, false≢true, lt-ltb, le-ltb, lt-leb, le-leb}
use Rattle.vm_iotlb.specs.declared.permissions.Permissions.{Permissions}
use Rattle.vm_iotlb.specs.declared.permissions.Permissions.TheVariants.{No}
use Rattle.vm_iotlb.specs.declared.range.IotlbRange.{IotlbRange}
use Rattle.vm_iotlb.specs.declared.iova.IovaRange.{IovaRange}
use Rattle.vm_iotlb.specs.Table.{Mapping, Table, allows}
use Rattle.vm_iotlb.specs.Ranges.{mapping_in, table_held, AreRanges, EndsAbove, Agree}
use Rattle.vm_iotlb.proofs.Covering.{Cover, pieces_in}
use Rattle.vm_iotlb.specs.AddressRuns.{may_pass, target_of, may_all, go_together, run_of, led_by, runs, missing, lacking, piece_of, pieces}
use Rattle.vm_iotlb.specs.AddressRuns.{addresses_joined, targets, between}
use Rattle.vm_iotlb.proofs.RangeLemmas.{table_before, table_inside}
use Rattle.vm_iotlb.proofs.RunLemmas.{runs_one, runs_more, gap_run, range_run, agree_rest, missing_run, missing_skip, lacking_run}
use Rattle.vm_iotlb.proofs.RunLemmas.{lacking_skip, lacking_gap}
use Rattle.vm_iotlb.proofs.RunLemmas.{pieces_run, nothing_left, may_stop, may_range}

-- the ranges behind one that ends at an address or above it
pub above_rest : (r : IotlbRange) (l : List IotlbRange) (b : ℕ) → AreRanges (r ∷ l) → b ≤ r.end → EndsAbove b l
above_rest r [] b are h = tt
above_rest r (s ∷ l) b are h = omega (arith, are.1.0, are.2.0.0)

pub agree_none : (t : Table) (a e : ℕ) → Agree t [] a e → a < e → t a ≡ None
unfolding table_held
agree_none t a e agree some = agree a (omega arith) some

-- ---- pieces

pub may_head : (t : Table) (access : Permissions) (a n : ℕ) → 0 < n → may_all t access a n ≡ true → may_pass access (t a) ≡ true
unfolding may_all
may_head t access a zero some all = absurd (omega arith)
may_head t access a (suc n) some all = (and_parts _ _ all).0

pub stopped : (t : Table) (access : Permissions) (a e : ℕ) → a < e → t a ≡ None → may_all t access a (e - a) ≡ true → ⊥
stopped t access a e some none all =
    let held : may_pass access (t a) ≡ true = may_head t access a (e - a) (omega arith) all in
    false≢true (rw none at held)

pub cover : (t : Table) (access : Permissions) (l : List IotlbRange) (a e : ℕ) → AreRanges l → EndsAbove a l → a ≤ e → Agree t l a e →
    may_all t access a (e - a) ≡ true → Cover l a e
cover t access [] a e are first order agree all =
    elim (cases_lt a e) [
      | inl some ↦ absurd (stopped t access a e some (agree_none t a e agree some) all)
      | inr done ↦ done
    ]
cover t access (r ∷ l) a e are first order agree all = λ some.
    let low : r.start ≤ a = elim (cases_lt a r.start) [
      | inl under ↦
          absurd (stopped t access a e some (agree a (omega arith) some ∙ table_before (r ∷ l) r.start a are (omega arith) under) all)
      | inr high ↦ high
    ] in
    let held : t a ≡ Some (mapping_in r a) = agree a (omega arith) some ∙ table_inside r l a low first in
    let may_go : may_pass access (t a) ≡ true = may_head t access a (e - a) (omega arith) all in
    let allowed : allows r.perm access ≡ true = rw held at may_go in
    let next = may_range t access r l a (min r.end e) e agree low (omega arith) (omega arith) (omega arith) allowed in
    let rest = agree_rest t r l a (min r.end e) e agree (omega arith) (λ more. omega arith) in (
      low,
      first,
      are.0.2,
      cover t access l (min r.end e) e are.2 (above_rest r l (min r.end e) are (omega arith)) (omega arith) rest (sym next ∙ all),
    )

pub pieces_cover :
    (t : Table) (l : List IotlbRange) (a e : ℕ) → AreRanges l → Cover l a e → a ≤ e → Agree t l a e → pieces_in l a e ≡ pieces t a (e - a)
pieces_cover t [] a e are cov order agree = sym (nothing_left t No a e cov).2
pieces_cover t (r ∷ l) a e are cov order agree =
    elim (cases_lt a e) [
      | inl some ↦
          let test : nat_lt a e ≡ true = lt-ltb a e some in
          let held = cov some in
          let low : r.start ≤ a = held.0 in
          let high : a < r.end = held.1 in
          let run = range_run t r l a (min r.end e) e are agree low (omega arith) (omega arith) (omega arith) (λ more. omega arith) in
          let to : t a ≡ Some (mapping_in r a) = agree a (omega arith) some ∙ table_inside r l a low high in
          let tail = pieces_cover t l (min r.end e) e are.2 held.3 (omega arith)
          (agree_rest t r l a (min r.end e) e agree (omega arith) (λ more. omega arith)) in
          let all = pieces_run t a (min r.end e) (min r.end e - a) (e - a) (e - min r.end e) (mapping_in r a) run to in
          rw (test, tail) (sym all)
      | inr done ↦ let test : nat_lt a e ≡ false = le-ltb a e done in rw test (sym (nothing_left t No a e done).2)
    ]

-- ---- pieces, joined

led_head : (a : ℕ) (ys : List IovaRange) → (k : ℕ) × (rest : List IovaRange) × (led_by a ys ≡ run_of a k ∷ rest)
led_head a [] = (1, [], refl)
led_head a (r ∷ ys) = (r.length + 1, ys, refl)

runs_head : (t : Table) (a n : ℕ) → (k : ℕ) × (rest : List IovaRange) × (runs t a (suc n) ≡ run_of a k ∷ rest)
unfolding runs
runs_head t a n =
    elim (go_together (t a) (t (a + 1))) as (λ b. (k : ℕ) × (rest : List IovaRange)
    × ((if b then led_by a (runs t (a + 1) n) else run_of a 1 ∷ runs t (a + 1) n) ≡ run_of a k ∷ rest)) [
      | true ↦ led_head a (runs t (a + 1) n)
      | false ↦ (1, runs t (a + 1) n, refl)
    ]

next_target :
    (access : Permissions) (p q : Option Mapping) → go_together p q ≡ true → may_pass access p ≡ true → target_of p + 1 ≡ target_of q
next_target access None q on held = absurd (false≢true held)
next_target access (Some p) None on held = absurd (false≢true on)
next_target access (Some p) (Some q) on held = eqb-true _ _ (and_parts _ _ on).0

no_runs : (t : Table) (a : ℕ) → runs t a 0 ≡ []
unfolding runs
no_runs t a = refl

-- the addresses of a piece that is one longer
longer : (x y k : ℕ) (rest all : List ℕ) → x + 1 ≡ y → range_with_len y k ++ rest ≡ all → range_with_len x (k + 1) ++ rest ≡ x ∷ all
longer x y k rest all next same = rw (add-one, next) (ap (λ (l : List ℕ). x ∷ l) same)

pub joined_pieces :
    (t : Table) (access : Permissions) (n a : ℕ) → may_all t access a n ≡ true → addresses_joined (pieces t a n) ≡ targets t a n
unfolding pieces may_all
joined_pieces t access zero a all = rw (no_runs t a) refl
joined_pieces t access (suc zero) a all = rw (runs_one t a zero (λ some. absurd (omega arith)), no_runs t (a + 1)) refl
joined_pieces t access (suc (suc n)) a all =
    let held = and_parts _ _ all in
    let tail : addresses_joined (map (piece_of t) (runs t (a + 1) (suc n))) ≡ targets t (a + 1) (suc n) =
    joined_pieces t access (suc n) (a + 1) held.1 in
    elim (cases_Bool (go_together (t a) (t (a + 1)))) [
      | inl on ↦
          let head = runs_head t (a + 1) n in
          let whole = runs_more t a (suc n) head.0 head.1 on head.2 in
          let next = next_target access (t a) (t (a + 1)) on held.0 in
          let first = rw head.2 at tail in
          rw whole (longer (target_of (t a)) (target_of (t (a + 1))) head.0 (addresses_joined (map (piece_of t) head.1))
          (targets t (a + 1) (suc n)) next first)
      | inr off ↦ rw (runs_one t a (suc n) (λ some. off)) (ap (λ (l : List ℕ). target_of (t a) ∷ l) tail)
    ]

-- some addresses have a piece
pub no_pieces : (t : Table) (a n : ℕ) → 0 < n → pieces t a n ≡ [] → ⊥
unfolding pieces
no_pieces t a zero some none = absurd (omega arith)
no_pieces t a (suc n) some none =
    let head = runs_head t a n in
    let same : piece_of t (run_of a head.0) ∷ map (piece_of t) head.1 ≡ [] = sym (ap (map (piece_of t)) head.2) ∙ none in
    absurd (cc)

-- ---- a look-up that fails

pub between_some : (a e : ℕ) → a < e → between a e ≡ run_of a (e - a) ∷ []
between_some a e h = let test : nat_lt a e ≡ true = lt-ltb a e h in rw test refl

between_none : (a e : ℕ) → e ≤ a → between a e ≡ []
between_none a e h = let test : nat_lt a e ≡ false = le-ltb a e h in rw test refl

-- the addresses before a range
pub gap_part : (t : Table) (access : Permissions) (r : IotlbRange) (l : List IotlbRange) (a s e : ℕ) → AreRanges (r ∷ l) →
    Agree t (r ∷ l) a e → a ≤ e → s ≡ min (max r.start a) e →
    (missing t a (e - a) ≡ between a s ++ missing t s (e - s)) × (lacking t access a (e - a) ≡ lacking t access s (e - s))
gap_part t access r l a s e are agree order start =
    elim (cases_lt a s) [
      | inl some ↦
          let none : (x : ℕ) → a ≤ x → x < s → t x ≡ None =
          λ x from to. agree x from (omega arith) ∙ table_before (r ∷ l) r.start x are (omega arith) (omega arith) in
          let run = gap_run t a s e some (omega arith) none
          (λ more. (mapping_in r s, agree s (omega arith) more ∙ table_inside r l s (omega arith) (omega (arith, are.0.0)))) in
          let this = none a (omega arith) some in (
            rw (between_some a s some) (missing_run t a s (s - a) (e - a) (e - s) run this),
            lacking_gap t access a s (s - a) (e - a) (e - s) run this,
          )
      | inr none ↦ let same : s ≡ a = omega arith in (rw (between_none a s none, same) refl, rw same refl)
    ]

-- the addresses of a range, from one of its own on
pub range_part : (t : Table) (access : Permissions) (r : IotlbRange) (l : List IotlbRange) (a p e : ℕ) → AreRanges (r ∷ l) →
    Agree t (r ∷ l) a e → a < e → r.start ≤ a → a < r.end → p ≡ min r.end e →
    (missing t a (e - a) ≡ missing t p (e - p)) × (allows r.perm access ≡ true → lacking t access a (e - a) ≡ lacking t access p (e - p)) ×
    (allows r.perm access ≡ false → lacking t access a (e - a) ≡ between a p ++ lacking t access p (e - p))
range_part t access r l a p e are agree some low high end =
    let run = range_run t r l a p e are agree low (omega arith) (omega arith) (omega arith) (λ more. omega arith) in
    let this = agree a (omega arith) some ∙ table_inside r l a low high in (
      missing_skip t a p (p - a) (e - a) (e - p) (mapping_in r a) run this,
      λ all. lacking_skip t access a p (p - a) (e - a) (e - p) (mapping_in r a) run this all,
      λ denied. rw (between_some a p (omega arith)) (lacking_run t access a p (p - a) (e - a) (e - p) (mapping_in r a) run this denied),
    )

-- ---- an iterator at its end

pub none_in : (l : List IotlbRange) (a e : ℕ) → e ≤ a → pieces_in l a e ≡ []
none_in [] a e h = refl
none_in (r ∷ l) a e h = let test : nat_lt a e ≡ false = le-ltb a e h in rw test refl

-- ---- loops over ranges

-- no range is left
pub covered_end : (t : Table) (access : Permissions) (a e : ℕ) → Agree t [] a e → leb e a ≡ may_all t access a (e - a)
covered_end t access a e agree =
    elim (cases_lt a e) [
      | inl some ↦
          let none : t a ≡ None = agree_none t a e agree some in
          let denied : may_pass access (t a) ≡ false = rw none refl in
          lt-leb e a some ∙ sym (may_stop t access a e some denied)
      | inr done ↦ le-leb e a done ∙ sym (nothing_left t access a e done).3
    ]

pub fails_end :
    (t : Table) (access : Permissions) (a e : ℕ) → Agree t [] a e → (missing t a (e - a) ≡ between a e) × (lacking t access a (e - a) ≡ [])
unfolding table_held
fails_end t access a e agree =
    elim (cases_lt a e) [
      | inl some ↦
          let run = gap_run t a e e some (omega arith) (λ x from to. agree x from to) (λ more. absurd (omega arith)) in
          let none = agree a (omega arith) some in
          let rest = nothing_left t access e e (omega arith) in
          let first = missing_run t a e (e - a) (e - a) (e - e) run none in
          let second = lacking_gap t access a e (e - a) (e - a) (e - e) run none in
          (rw (between_some a e some) (rw rest.0 at first), second ∙ rest.1)
      | inr done ↦ let rest = nothing_left t access a e done in (rw (between_none a e done) rest.0, rest.1)
    ]

-- one range is left behind
pub fails_step : (t : Table) (access : Permissions) (r : IotlbRange) (l : List IotlbRange) (a s p e : ℕ) → AreRanges (r ∷ l) →
    Agree t (r ∷ l) a e → a < e → a < r.end →
    s ≡ min (max r.start a) e → p ≡ min r.end e →
    (missing t a (e - a) ≡ between a s ++ missing t p (e - p))
    × (allows r.perm access ≡ true → lacking t access a (e - a) ≡ between p p ++ lacking t access p (e - p)) ×
    (allows r.perm access ≡ false → lacking t access a (e - a) ≡ between s p ++ lacking t access p (e - p))
fails_step t access r l a s p e are agree some high start end =
    let up : r.start < r.end = are.0.0 in
    let gap = gap_part t access r l a s e are agree (omega arith) start in
    elim (cases_lt s p) [
      | inl more ↦
          let part = range_part t access r l s p e are (λ x from to. agree x (omega arith) to) (omega arith) (omega arith)
          (omega arith) end in (
            gap.0 ∙ ap (λ (l : List IovaRange). between a s ++ l) part.0,
            λ all. rw (between_none p p (omega arith)) (gap.1 ∙ part.1 all),
            λ denied. gap.1 ∙ part.2 denied,
          )
      | inr none ↦
          let same : p ≡ s = omega arith in
          (rw same gap.0, λ all. rw (same, between_none s s (omega arith)) gap.1, λ denied. rw (same, between_none s s (omega arith)) gap.1)
    ]

-- what was added, and what is left
pub pushed : (m new b before after whole : List IovaRange) → new ≡ m ++ b → before ≡ b ++ after → m ++ before ≡ whole → new ++ after ≡ whole
pushed m new b before after whole n e w = rw (n, append_assoc) (rw e at w)

pub all_done : (m rest whole : List IovaRange) → rest ≡ [] → m ++ rest ≡ whole → m ≡ whole
all_done m rest whole none w = let same : m ++ [] ≡ whole = rw none at w in sym (append-nil m) ∙ same
