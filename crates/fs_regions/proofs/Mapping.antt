-- where addresses are by a table
use Rattle.std.proofs.Common.{◌≡◌, ℕ, Bool, true, false, zero, suc, ◌+◌, ◌-◌, ◌^◌, ◌<◌, ◌≤◌, ◌&&◌, min, List, Option, Some, None, inl, inr}
use Rattle.std.proofs.Common.{refl, ap, sym, ◌∙◌, subst, arith}
use Rattle.std.specs.Prelude.{if◌then◌else◌, is_some}
use Rattle.std.specs.List.{list_all}
use Rattle.std.proofs.lemmas.Bool.{cases_lt}
use Rattle.vm_iotlb.specs.declared.permissions.Permissions.{Permissions}
use Rattle.vm_iotlb.specs.Table.{Mapping, Table, allows}
use Rattle.vm_iotlb.specs.AddressRuns.{go_together, may_all, may_pass, target_of}
use Rattle.vm_iotlb.proofs.RunLemmas.{together_parts}
use Rattle.vm_memory_core.specs.Host.{Place}
use Rattle.vm_memory.specs.Layout.{Region, left_at, place}
use Rattle.vm_memory.specs.Memory.{addresses, for_io, place_behind, reach}
use Rattle.vm_memory.specs.Translated.{run_len, translated, translated_left}
use Rattle.vm_memory.proofs.Places.{addresses-append}
use Rattle.vm_memory.proofs.TranslatedLemmas.{run_len-min, run_len-most, run_place}
use Rattle.fs_queue.proofs.TakeLemmas.{list_all-append, reach-each}
use Rattle.fs_regions.specs.Places.{places_in, untranslated}

next_may :
    (access : Permissions) (o next : Option Mapping) → may_pass access o ≡ true → go_together o next ≡ true → may_pass access next ≡ true
next_may access (Some to) (Some next) pass e = subst (λ (p : Permissions). allows p access ≡ true) (together_parts to next e).1 pass
next_may access _ _ pass e = absurd (cc)

-- an access that may go through an address may go through those that are mapped as one with it
pub run_may :
    (n a : ℕ) (table : Table) (access : Permissions) → may_pass access (table a) ≡ true → may_all table access a (run_len table a n) ≡ true
unfolding may_all run_len
run_may zero a table access first = refl
run_may (suc n) a table access first =
    elim (go_together (table a) (table (a + 1)))
    as (λ b. go_together (table a) (table (a + 1)) ≡ b → may_all table access a (if b then suc (run_len table (a + 1) n) else 1) ≡ true) [
      | true ↦ λ joins. rw first (run_may n (a + 1) table access (next_may access (table a) (table (a + 1)) first joins))
      | false ↦ λ parts. rw first refl
    ] refl

-- a run that was told within a bound
pub run_is : (k most a : ℕ) (table : Table) → k ≡ run_len table a most → run_len table a k ≡ k
run_is k most a table is =
    let few = run_len-most most a table in
    let short = run_len-min k most a table (omega (arith, is, few)) in
    omega (arith, short, is)

pub may_on_run : (k most a : ℕ) (table : Table) (access : Permissions) → k ≡ run_len table a most → may_pass access (table a) ≡ true →
    may_all table access a k ≡ true
may_on_run k most a table access is first = rw is (run_may most a table access first)

-- how long a window of it is
pub run_left : (most a k len left : ℕ) (table : Table) (l : List Region) → a + k < 2 ^ 64 → k ≡ run_len table a most →
    left ≡ left_at l (target_of (table a)) → len ≡ min k left →
    len ≡ min most (translated_left l table a)
run_left most a k len left table l fits is at e =
    let few = run_len-most most a table in
    elim (cases_lt (2 ^ 64 - a) most) [
      | inl high ↦ let all = run_len-min (2 ^ 64 - a) most a table (omega (arith, high)) in omega (arith, all, is, at, e, fits, few)
      | inr low ↦ let all = run_len-min most (2 ^ 64 - a) a table low in omega (arith, all, is, at, e)
    ]

-- an access may not go through an address: it has no place for it
pub denied : (l : List Region) (set a : ℕ) (access : Permissions) (o : Option Mapping) → may_pass access o ≡ false →
    for_io set a (place_behind l access o) ≡ None
denied l set a access None e = refl
denied l set a access (Some to) e = rw e refl

-- ---- a range, piece by piece

marked : (set a : ℕ) (o : Option Place) → is_some (for_io set a o) ≡ is_some o
marked set a None = refl
marked set a (Some p) = refl

-- as many addresses, of which one has a place where the other has
shifted : (k a t : ℕ) (f g : ℕ → Option Place) → ((j : ℕ) → j < k → is_some (f (a + j)) ≡ is_some (g (t + j))) →
    list_all (λ x. is_some (f x)) (addresses a k) ≡ list_all (λ x. is_some (g x)) (addresses t k)
unfolding addresses
shifted zero a t f g each = refl
shifted (suc k) a t f g each =
    let at : a + 0 ≡ a = omega arith in
    let to : t + 0 ≡ t = omega arith in
    let first : is_some (f a) ≡ is_some (g t) = rw (at, to) at (each 0 (omega arith)) in
    let rest = shifted k (a + 1) (t + 1) f g (λ j below.
    let x : a + suc j ≡ a + 1 + j = omega arith in
    let y : t + suc j ≡ t + 1 + j = omega arith in
    rw (x, y) at (each (suc j) (omega (arith, below)))) in
    rw (first, rest) refl

-- the addresses of a run have places where those have that they are mapped to
run_same : (k a t : ℕ) (table : Table) (access : Permissions) (l : List Region) → t ≡ target_of (table a) → run_len table a k ≡ k →
    may_all table access a k ≡ true →
    list_all (λ x. is_some (translated l table 0 access x)) (addresses a k) ≡ list_all (λ x. is_some (place l x)) (addresses t k)
run_same k a t table access l at whole all =
    shifted k a t (translated l table 0 access) (place l)
    (λ j below. marked 0 (a + j) (place_behind l access (table (a + j)))
    ∙ ap is_some (run_place k a table access l all j (omega (arith, whole, below)) ∙ ap (λ x. place l (x + j)) (sym at)))

pub cut : (a n k : ℕ) (f : ℕ → Option Place) → k ≤ n →
    list_all (λ x. is_some (f x)) (addresses a n)
    ≡ (list_all (λ x. is_some (f x)) (addresses a k) && list_all (λ x. is_some (f x)) (addresses (a + k) (n - k)))
cut a n k f within =
    let count : n ≡ k + (n - k) = omega (arith, within) in
    ap (λ c. list_all (λ x. is_some (f x)) (addresses a c)) count ∙ ap (list_all (λ x. is_some (f x))) (addresses-append k (n - k) a)
    ∙ sym (list_all-append (addresses a k) (addresses (a + k) (n - k)) f)

-- whether the regions have what a piece is mapped to tells whether its addresses have places
pub piece_reaches : (a n k t : ℕ) (has : Bool) (table : Table) (access : Permissions) (l : List Region) → k ≤ n → t + k < 2 ^ 64 →
    t ≡ target_of (table a) → run_len table a k ≡ k →
    may_all table access a k ≡ true → has ≡ reach (places_in (untranslated l)) access t k →
    list_all (λ x. is_some (translated l table 0 access x)) (addresses a n)
    ≡ (has && list_all (λ x. is_some (translated l table 0 access x)) (addresses (a + k) (n - k)))
piece_reaches a n k t has table access l within fits at whole all is =
    let here = is ∙ reach-each (places_in (untranslated l)) access t k fits ∙ sym (run_same k a t table access l at whole all) in
    cut a n k (translated l table 0 access) within
    ∙ ap (λ (b : Bool). b && list_all (λ x. is_some (translated l table 0 access x)) (addresses (a + k) (n - k))) (sym here)

-- an address without a mapping that lets the access through stands in the way
pub stops : (a n : ℕ) (table : Table) (access : Permissions) (l : List Region) → 0 < n → may_pass access (table a) ≡ false →
    list_all (λ x. is_some (translated l table 0 access x)) (addresses a n) ≡ false
unfolding addresses
stops a zero table access l some e = absurd (omega (arith, some))
stops a (suc n) table access l some e = let none = denied l 0 a access (table a) e in rw none refl

-- no address is left
pub none_more : (a n : ℕ) (f : ℕ → Option Place) → n ≡ 0 → list_all (λ x. is_some (f x)) (addresses a n) ≡ true
unfolding addresses
none_more a zero f none = refl
none_more a (suc n) f none = absurd (omega (arith, none))
