-- runs of addresses, and the ranges that they come from
use Rattle.std.proofs.Common.{◌≡◌, ℕ, zero, suc, true, false, ◌+◌, ◌-◌, ◌<◌, ◌≤◌, List, [], ◌∷◌, refl, ◌∙◌, arith, Some, None, inl, inr}
use Rattle.std.proofs.Common.{eqb, eq-eqb}
use Rattle.std.specs.Prelude.{◌&&◌, if◌then◌else◌}
use Rattle.std.proofs.lemmas.Bool.{cases_lt, and_parts, eqb-true, false_from_ne_true, false≢true}
use Rattle.vm_iotlb.specs.declared.permissions.Permissions.{Permissions}
use Rattle.vm_iotlb.specs.declared.permissions.Permissions.TheVariants.{No, Read, Write, ReadWrite}
use Rattle.vm_iotlb.specs.declared.range.IotlbRange.{IotlbRange}
use Rattle.vm_iotlb.specs.declared.iova.IovaRange.{IovaRange}
use Rattle.vm_iotlb.specs.Table.{Mapping, Table, allows}
use Rattle.vm_iotlb.specs.Ranges.{has, mapping_in, table_held, AreRanges, Agree}
use Rattle.vm_iotlb.specs.AddressRuns.{may_pass, may_all, go_together, run_of, runs, missing, lacking, pieces}
use Rattle.vm_iotlb.proofs.RangeLemmas.{has_in, table_before, table_inside, table_out}

-- ---- runs of any table

pub runs_one : (t : Table) (a n : ℕ) → (0 < n → go_together (t a) (t (a + 1)) ≡ false) → runs t a (suc n) ≡ run_of a 1 ∷ runs t (a + 1) n
unfolding runs
runs_one t a zero stop = elim (go_together (t a) (t (a + 1)))
    as (λ b. (if b then run_of a 1 ∷ [] else run_of a 1 ∷ []) ≡ run_of a 1 ∷ []) [ true ↦ refl | false ↦ refl ]
runs_one t a (suc n) stop = let test : go_together (t a) (t (a + 1)) ≡ false = stop (omega arith) in rw test refl

pub runs_more : (t : Table) (a n k : ℕ) (rest : List IovaRange) → go_together (t a) (t (a + 1)) ≡ true →
    runs t (a + 1) n ≡ run_of (a + 1) k ∷ rest → runs t a (suc n) ≡ run_of a (k + 1) ∷ rest
unfolding runs
runs_more t a n k rest test tail = rw (test, tail) refl

-- c addresses that go together and after which another run begins
pub runs_step :
    (t : Table) (c a b m n : ℕ) → c + n ≡ m → a + c ≡ b → 0 < c → ((x : ℕ) → a ≤ x → x + 1 < b → go_together (t x) (t (x + 1)) ≡ true) →
    ((x : ℕ) → x + 1 ≡ b → 0 < n → go_together (t x) (t b) ≡ false) →
    runs t a m ≡ run_of a c ∷ runs t b n
runs_step t zero a b m n count end some same stop = absurd (omega arith)
runs_step t (suc c) a b zero n count end some same stop = absurd (omega arith)
runs_step t (suc zero) a b (suc m) n count end some same stop =
    let less : n ≡ m = omega arith in
    let next : b ≡ a + 1 = omega arith in
    let first : 0 < n → go_together (t a) (t b) ≡ false = stop a (omega arith) in
    rw (less, next) (runs_one t a m (rw (less, next) at first))
runs_step t (suc (suc c)) a b (suc m) n count end some same stop =
    let tail = runs_step t (suc c) (a + 1) b m n (omega arith) (omega arith) (omega arith) (λ x from to. same x (omega arith) to) stop in
    let more : suc c + 1 ≡ suc (suc c) = omega arith in
    let all = runs_more t a m (suc c) (runs t b n) (same a (omega arith) (omega arith)) tail in
    rw more at all

-- a gap between mappings
pub gap_run : (t : Table) (a b e : ℕ) → a < b → b ≤ e → ((x : ℕ) → a ≤ x → x < b → t x ≡ None) →
    (b < e → (to : Mapping) × (t b ≡ Some to)) → runs t a (e - a) ≡ run_of a (b - a) ∷ runs t b (e - b)
gap_run t a b e some most none mapped =
    runs_step t (b - a) a b (e - a) (e - b) (omega arith) (omega arith) (omega arith)
    (λ x from to. rw (none x from (omega arith), none (x + 1) (omega arith) to) refl)
    (λ x last rest. let next = mapped (omega arith) in rw (none x (omega arith) (omega arith), next.1) refl)

-- ---- runs of ranges

pub agree_rest :
    (t : Table) (r : IotlbRange) (l : List IotlbRange) (a b e : ℕ) → Agree t (r ∷ l) a e → a ≤ b → (b < e → r.end ≤ b) → Agree t l b e
agree_rest t r l a b e agree order whole = λ x from to. agree x (omega arith) to ∙ table_out r l x (omega (arith, whole (omega arith)))

allows_same : (p : Permissions) → allows p p ≡ true
allows_same No = refl
allows_same Read = refl
allows_same Write = refl
allows_same ReadWrite = refl

same_perm : (p q : Permissions) → (allows p q && allows q p) ≡ true → p ≡ q
same_perm No No e = refl
same_perm No Read e = absurd (false≢true e)
same_perm No Write e = absurd (false≢true e)
same_perm No ReadWrite e = absurd (false≢true e)
same_perm Read No e = absurd (false≢true e)
same_perm Read Read e = refl
same_perm Read Write e = absurd (false≢true e)
same_perm Read ReadWrite e = absurd (false≢true e)
same_perm Write No e = absurd (false≢true e)
same_perm Write Read e = absurd (false≢true e)
same_perm Write Write e = refl
same_perm Write ReadWrite e = absurd (false≢true e)
same_perm ReadWrite No e = absurd (false≢true e)
same_perm ReadWrite Read e = absurd (false≢true e)
same_perm ReadWrite Write e = absurd (false≢true e)
same_perm ReadWrite ReadWrite e = refl

-- what goes together
pub together_parts : (p q : Mapping) → go_together (Some p) (Some q) ≡ true → (p.target + 1 ≡ q.target) × (p.perm ≡ q.perm)
together_parts p q e =
    let parts = and_parts (eqb (p.target + 1) q.target) (allows p.perm q.perm && allows q.perm p.perm) e in
    (eqb-true (p.target + 1) q.target parts.0, same_perm p.perm q.perm parts.1)

-- an address of a range and the next one
pub together_in : (r : IotlbRange) (x : ℕ) → r.start ≤ x → go_together (Some (mapping_in r x)) (Some (mapping_in r (x + 1))) ≡ true
together_in r x low =
    let same : eqb (r.target + (x - r.start) + 1) (r.target + (x + 1 - r.start)) ≡ true =
    eq-eqb (r.target + (x - r.start) + 1) (r.target + (x + 1 - r.start)) (omega arith) in
    rw (same, allows_same r.perm) refl

-- the last address of a range and the one that follows the range
pub apart : (r : IotlbRange) (l : List IotlbRange) (x b : ℕ) → AreRanges (r ∷ l) → x + 1 ≡ b → b ≡ r.end →
    go_together (Some (mapping_in r x)) (table_held l b) ≡ false
unfolding table_held
apart r [] x b are next end = refl
apart r (s ∷ l) x b are next end =
    elim (cases_lt b s.start) [
      | inl low ↦ let none = table_before (s ∷ l) s.start b are.2 (omega arith) low in rw none refl
      | inr low ↦
          let inside : has s b ≡ true = has_in s b low (omega (arith, are.1.0, are.2.0.0)) in
          rw inside (false_from_ne_true (go_together (Some (mapping_in r x)) (Some (mapping_in s b))) (λ one.
          let parts = together_parts (mapping_in r x) (mapping_in s b) one in
          let target : r.target + (x - r.start) + 1 ≡ s.target + (b - s.start) = parts.0 in
          are.1.1 (omega (arith, are.1.0), omega (arith, are.0.0, are.1.0), parts.1)))
    ]

pub range_run : (t : Table) (r : IotlbRange) (l : List IotlbRange) (a b e : ℕ) → AreRanges (r ∷ l) → Agree t (r ∷ l) a e → r.start ≤ a →
    a < b → b ≤ r.end → b ≤ e → (b < e → b ≡ r.end) →
    runs t a (e - a) ≡ run_of a (b - a) ∷ runs t b (e - b)
range_run t r l a b e are agree low some within most whole =
    runs_step t (b - a) a b (e - a) (e - b) (omega arith) (omega arith) (omega arith)
    (λ x from to.
    let this = agree x from (omega arith) ∙ table_inside r l x (omega arith) (omega arith) in
    let next = agree (x + 1) (omega arith) (omega arith) ∙ table_inside r l (x + 1) (omega arith) (omega arith) in
    rw (this, next) (together_in r x (omega arith)))
    (λ x last rest.
    let end : b ≡ r.end = whole (omega arith) in
    let this = agree x (omega arith) (omega arith) ∙ table_inside r l x (omega arith) (omega arith) in
    let next = agree b (omega arith) (omega arith) ∙ table_out r l b (omega arith) in
    rw (this, next) (apart r l x b are last end))

-- ---- what is made of runs

pub missing_run :
    (t : Table) (a b c m n : ℕ) → runs t a m ≡ run_of a c ∷ runs t b n → t a ≡ None → missing t a m ≡ run_of a c ∷ missing t b n
unfolding missing
missing_run t a b c m n run none = rw (run, none) refl

pub missing_skip :
    (t : Table) (a b c m n : ℕ) (to : Mapping) → runs t a m ≡ run_of a c ∷ runs t b n → t a ≡ Some to → missing t a m ≡ missing t b n
unfolding missing
missing_skip t a b c m n to run some = rw (run, some) refl

pub lacking_run : (t : Table) (access : Permissions) (a b c m n : ℕ) (to : Mapping) → runs t a m ≡ run_of a c ∷ runs t b n → t a ≡ Some to →
    allows to.perm access ≡ false →
    lacking t access a m ≡ run_of a c ∷ lacking t access b n
unfolding lacking
lacking_run t access a b c m n to run some denied = rw (run, some, denied) refl

pub lacking_skip :
    (t : Table) (access : Permissions) (a b c m n : ℕ) (to : Mapping) → runs t a m ≡ run_of a c ∷ runs t b n → t a ≡ Some to →
    allows to.perm access ≡ true → lacking t access a m ≡ lacking t access b n
unfolding lacking
lacking_skip t access a b c m n to run some all = rw (run, some, all) refl

pub lacking_gap : (t : Table) (access : Permissions) (a b c m n : ℕ) → runs t a m ≡ run_of a c ∷ runs t b n → t a ≡ None →
    lacking t access a m ≡ lacking t access b n
unfolding lacking
lacking_gap t access a b c m n run none = rw (run, none) refl

pub pieces_run : (t : Table) (a b c m n : ℕ) (to : Mapping) → runs t a m ≡ run_of a c ∷ runs t b n → t a ≡ Some to →
    pieces t a m ≡ record { base = record { 0 = to.target }; length = c } ∷ pieces t b n
unfolding pieces
pieces_run t a b c m n to run some = rw (run, some) refl

pub nothing_left : (t : Table) (access : Permissions) (a e : ℕ) → e ≤ a →
    (missing t a (e - a) ≡ []) × (lacking t access a (e - a) ≡ []) × (pieces t a (e - a) ≡ []) ×
    (may_all t access a (e - a) ≡ true)
unfolding missing lacking pieces may_all runs
nothing_left t access a e h = let none : e - a ≡ 0 = omega arith in (rw none refl, rw none refl, rw none refl, rw none refl)

-- ---- accesses

may_first : (t : Table) (access : Permissions) (a n : ℕ) → 0 < n → may_pass access (t a) ≡ false → may_all t access a n ≡ false
unfolding may_all
may_first t access a zero some denied = absurd (omega arith)
may_first t access a (suc n) some denied = rw denied refl

pub may_rest : (t : Table) (access : Permissions) (c a b m n : ℕ) → c + n ≡ m → a + c ≡ b →
    ((x : ℕ) → a ≤ x → x < b → may_pass access (t x) ≡ true) → may_all t access a m ≡ may_all t access b n
unfolding may_all
may_rest t access zero a b m n count end all = let same : m ≡ n = omega arith in let here : a ≡ b = omega arith in rw (same, here) refl
may_rest t access (suc c) a b zero n count end all = absurd (omega arith)
may_rest t access (suc c) a b (suc m) n count end all =
    rw (all a (omega arith) (omega arith))
    (may_rest t access c (a + 1) b m n (omega arith) (omega arith) (λ x from to. all x (omega arith) to))

pub may_stop : (t : Table) (access : Permissions) (a e : ℕ) → a < e → may_pass access (t a) ≡ false → may_all t access a (e - a) ≡ false
may_stop t access a e some denied = may_first t access a (e - a) (omega arith) denied

pub may_range : (t : Table) (access : Permissions) (r : IotlbRange) (l : List IotlbRange) (a b e : ℕ) → Agree t (r ∷ l) a e → r.start ≤ a →
    a ≤ b → b ≤ r.end → b ≤ e → allows r.perm access ≡ true →
    may_all t access a (e - a) ≡ may_all t access b (e - b)
may_range t access r l a b e agree low order within most all =
    may_rest t access (b - a) a b (e - a) (e - b) (omega arith) (omega arith)
    (λ x from to. let this = agree x from (omega arith) ∙ table_inside r l x (omega arith) (omega arith) in rw this all)
