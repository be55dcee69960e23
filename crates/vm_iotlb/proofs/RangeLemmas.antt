-- lists of ranges, and the tables that they keep
use Rattle.std.proofs.Common.{◌≡◌, ℕ, true, false, ◌<◌, ◌≤◌, List, [], ◌∷◌, refl, ap, arith, Some, None, Option}
use Rattle.std.proofs.lemmas.Bool.Decides.{nat_tests}
use Rattle.vm_iotlb.specs.declared.permissions.Permissions.{Permissions}
use Rattle.vm_iotlb.specs.declared.range.IotlbRange.{IotlbRange}
use Rattle.vm_iotlb.specs.Table.{Mapping}
use Rattle.vm_iotlb.specs.Ranges.{has, mapping_in, table_held, PrecedesAll, AreRanges}

-- ---- one range

pub has_in : (r : IotlbRange) (a : ℕ) → r.start ≤ a → a < r.end → has r a ≡ true
has_in r a low high = grind (arith, nat_tests)

pub has_below : (r : IotlbRange) (a : ℕ) → a < r.start → has r a ≡ false
has_below r a h = grind (arith, nat_tests)

pub has_above : (r : IotlbRange) (a : ℕ) → r.end ≤ a → has r a ≡ false
has_above r a h = grind (arith, nat_tests)

pub same_mapping :
    (t u : ℕ) (p q : Permissions) → t ≡ u → p ≡ q → ◌≡◌ {A = Mapping} (record { target = t; perm = p }) (record { target = u; perm = q })
same_mapping t u p q e f = rw (e, f) refl

pub some_same : (m n : Mapping) → m.target ≡ n.target → m.perm ≡ n.perm → ◌≡◌ {A = Option Mapping} (Some m) (Some n)
some_same m n e f = ap Some (same_mapping m.target n.target m.perm n.perm e f)

-- ---- ends

-- the first range, if there is one, begins at an address or above it
abbrev pub StartFrom : ℕ → List IotlbRange → Type 0
StartFrom e [] = Unit {0}
StartFrom e (r ∷ l) = e ≤ r.start

pub from_after : (r : IotlbRange) (l : List IotlbRange) → PrecedesAll r l → StartFrom r.end l
from_after r [] p = tt
from_after r (s ∷ l) p = p.0

-- ---- one more range at the end

-- ---- tables

-- an address that all ranges begin above has no mapping
pub table_before : (l : List IotlbRange) (e a : ℕ) → AreRanges l → StartFrom e l → a < e → table_held l a ≡ None
unfolding table_held
table_before [] e a are from h = refl
table_before (r ∷ l) e a are from h =
    let out : has r a ≡ false = has_below r a (omega arith) in
    rw out (table_before l r.end a are.2 (from_after r l are.1) (omega (arith, are.0.0)))

pub table_inside : (r : IotlbRange) (l : List IotlbRange) (a : ℕ) → r.start ≤ a → a < r.end → table_held (r ∷ l) a ≡ Some (mapping_in r a)
unfolding table_held
table_inside r l a low high = let test : has r a ≡ true = has_in r a low high in rw test refl

pub table_out : (r : IotlbRange) (l : List IotlbRange) (a : ℕ) → r.end ≤ a → table_held (r ∷ l) a ≡ table_held l a
unfolding table_held
table_out r l a h = let test : has r a ≡ false = has_above r a h in rw test refl

-- ---- parts of ranges
