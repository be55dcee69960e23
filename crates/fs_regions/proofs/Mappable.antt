-- Each miss ends before the last page.
use Rattle.std.proofs.Common.{◌≡◌, ℕ, ◌+◌, ◌<◌, ◌≤◌, zero, suc, Bool, true, false, List, [], ◌∷◌, Option, Some, None, refl, subst, ap}
use Rattle.std.proofs.Common.{arith}
use Rattle.std.specs.Prelude.{if◌then◌else◌, nat_le, ◌&&◌, option_map}
use Rattle.std.specs.List.{filter}
use Rattle.std.specs.Option.{option_or}
use Rattle.std.proofs.lemmas.Bool.{leb-true}
use Rattle.vm_iotlb.specs.declared.iova.IovaRange.{IovaRange}
use Rattle.vm_iotlb.specs.declared.permissions.Permissions.{Permissions}
use Rattle.vm_iotlb.specs.AddressRuns.{go_together, led_by, missing, misses, run_of, runs}
use Rattle.vm_iotlb.specs.Table.{Table}
use Rattle.vm_memory.specs.Memory.{Memory, table_of}
use Rattle.fs_regions.specs.Laws.{MissesCanBeMapped}
use Rattle.fs_regions.specs.Misses.{Area, first_miss, first_of, last_page, miss_of, missing_in}

-- a range has addresses, all of them from a on and below e
abbrev IsWithin : (a e : ℕ) → IovaRange → Type 0
IsWithin a e r = (0 < r.length) × (a ≤ r.base.0) × (r.base.0 + r.length ≤ e)

-- each of some ranges has
abbrev AreWithin : (a e : ℕ) → List IovaRange → Type 0
AreWithin a e [] = Unit {0}
AreWithin a e (r ∷ rest) = IsWithin a e r × AreWithin a e rest

later : (a e : ℕ) (l : List IovaRange) → AreWithin (a + 1) e l → AreWithin a e l
later a e [] all = tt
later a e (r ∷ rest) all = ((all.0.0, omega (arith, all.0.1), all.0.2), later a e rest all.1)

led : (a e : ℕ) (l : List IovaRange) → a < e → AreWithin (a + 1) e l → AreWithin a e (led_by a l)
led a e [] less all = ((omega arith, omega arith, omega (arith, less)), tt)
led a e (r ∷ rest) less all = ((omega arith, omega arith, omega (arith, all.0.1, all.0.2)), later a e rest all.1)

choose : (b : Bool) (a e : ℕ) (x y : List IovaRange) → AreWithin a e x → AreWithin a e y → AreWithin a e (if b then x else y)
choose true a e x y p q = p
choose false a e x y p q = q

run_within : (table : Table) (a e n : ℕ) → a + n ≡ e → AreWithin a e (runs table a n)
unfolding runs
run_within table a e zero is = tt
run_within table a e (suc n) is =
    let less : a < e = omega (arith, is) in
    let rest = run_within table (a + 1) e n (omega (arith, is)) in
    choose (go_together (table a) (table (a + 1))) a e (led_by a (runs table (a + 1) n)) (run_of a 1 ∷ runs table (a + 1) n)
    (led a e (runs table (a + 1) n) less rest)
    ((omega arith, omega arith, omega (arith, less)), later a e (runs table (a + 1) n) rest)

same_range : (x r : IovaRange) → Some x ≡ Some r → x ≡ r
same_range x r e = cc

-- the first range that a test keeps is one of them
by_test : (b : Bool) (a e : ℕ) (x r : IovaRange) (kept : List IovaRange) → IsWithin a e x
    → (first_of kept ≡ Some r → IsWithin a e r) →
    first_of (if b then x ∷ kept else kept) ≡ Some r → IsWithin a e r
by_test true a e x r kept within rest is = subst (IsWithin a e) (same_range x r is) within
by_test false a e x r kept within rest is = rest is

first_kept : (p : IovaRange → Bool) (a e : ℕ) (l : List IovaRange) (r : IovaRange) → AreWithin a e l → first_of (filter p l) ≡ Some r →
    IsWithin a e r
first_kept p a e [] r all is = absurd (cc)
first_kept p a e (x ∷ xs) r all is = by_test (p x) a e x r (filter p xs) all.0 (first_kept p a e xs r all.1) is

-- the first missing range of n addresses from a on
missed_within : (table : Table) (a n : ℕ) (r : IovaRange) → first_of (missing table a n) ≡ Some r → IsWithin a (a + n) r
unfolding missing
missed_within table a n r is =
    first_kept (λ k. misses (table k.base.0)) a (a + n) (runs table a n) r (run_within table a (a + n) n refl) is

by_tests : (t b : Bool) (table : Table) (a n : ℕ) (r : IovaRange) → nat_le (a + n) last_page ≡ b →
    first_of (if t && b then missing table a n else []) ≡ Some r → IsWithin 0 last_page r
by_tests true true table a n r bound is =
    let within = missed_within table a n r is in
    let few = leb-true (a + n) last_page bound in
    (within.0, omega arith, omega (arith, within.2, few))
by_tests t b table a n r bound is = absurd (cc)

same_miss : (o : Option IovaRange) (x access : Permissions) (range : IovaRange) →
    option_map {U = IovaRange × Permissions} (λ r. (r, x)) o ≡ Some (range, access) → o ≡ Some range
same_miss None x access range is = absurd (cc)
same_miss (Some r) x access range is = ap (λ (o : Option (IovaRange × Permissions)). option_map {U = IovaRange} (λ miss. miss.0) o) is

miss_below : (m : Memory) (area : Area) (range : IovaRange) (access : Permissions) → miss_of m area ≡ Some (range, access) →
    IsWithin 0 last_page range
miss_below m area range access is =
    by_tests m.translates (nat_le (area.from + area.len) last_page) (table_of m) area.from area.len range refl
    (same_miss (first_of (missing_in m area.from area.len)) area.access access range is)

by_first : (o rest : Option (IovaRange × Permissions)) (miss : IovaRange × Permissions) → (o ≡ Some miss → IsWithin 0 last_page miss.0)
    → (rest ≡ Some miss → IsWithin 0 last_page miss.0) → option_or o rest ≡ Some miss → IsWithin 0 last_page miss.0
by_first None rest miss this others is = others is
by_first (Some x) rest miss this others is = this is

first_below : (m : Memory) (areas : List Area) (range : IovaRange) (access : Permissions) → first_miss m areas ≡ Some (range, access) →
    IsWithin 0 last_page range
first_below m [] range access is = absurd (cc)
first_below m (area ∷ areas) range access is =
    by_first (miss_of m area) (first_miss m areas) (range, access) (miss_below m area range access) (first_below m areas range access) is

pub misses_can_be_mapped : MissesCanBeMapped
misses_can_be_mapped m areas range access is = let below = first_below m areas range access is in (below.0, below.2)
