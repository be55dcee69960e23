-- ranges of addresses as a whole
use Rattle.std.proofs.Common.{◌≡◌, ℕ, Bool, true, false, ◌+◌, ◌^◌, ◌<◌, ◌&&◌, nat_lt, eqb, List, [], ◌∷◌, ◌++◌, length, map, take, drop}
use Rattle.std.proofs.Common.{refl, ap, sym, ◌∙◌, append-nil}
use Rattle.std.proofs.Common.{arith, zero, suc, Option, Some, None}
use Rattle.std.specs.Prelude.{is_some, if◌then◌else◌, IsTrue}
use Rattle.std.specs.Option.{option_map, option_and_then}
use Rattle.std.specs.List.{list_all}
use Rattle.std.proofs.lemmas.Bool.{eqb-true}
use Rattle.std.proofs.lemmas.Bool.Decides.{nat_tests}
use Rattle.std.proofs.lemmas.List.{take_all, drop_all}
use Rattle.vm_iotlb.specs.declared.permissions.Permissions.{Permissions}
use Rattle.vm_iotlb.specs.Table.{Mapping, Table}
use Rattle.vm_iotlb.specs.AddressRuns.{may_all, may_pass}
use Rattle.vm_memory_core.specs.Host.{Host, Place}
use Rattle.vm_memory.specs.Layout.{Region, place}
use Rattle.vm_memory.specs.Memory.{Memory, io_memory, memory_behind, table_in, addresses, circular, located, location, reach, reached, byte}
use Rattle.vm_memory.specs.Memory.{for_io, place_behind, places_from, table_of}
use Rattle.vm_memory.proofs.Places.{Where, circular-is, length-circular, list_all-reached}

some_step : (o : Option Place) (r : Option (List Place)) (b : Bool) → b ≡ is_some r →
    (is_some o && b) ≡ is_some (option_and_then (λ (p : Place). option_map (λ (ps : List Place). p ∷ ps) r) o)
some_step None r b e = refl
some_step (Some p) None b e = e
some_step (Some p) (Some ps) b e = e

-- each address has a place exactly if there are places of all
pub all_located : (xs : List ℕ) (f : Where) → list_all (λ a. is_some (f a)) xs ≡ is_some (located f xs)
unfolding located
all_located [] f = refl
all_located (x ∷ xs) f = some_step (f x) (located f xs) (list_all (λ a. is_some (f a)) xs) (all_located xs f)

-- as many are reached as there are exactly if there are places of all
pub count_located : (f : Where) (a n : ℕ) → eqb (reached f (circular a n)) n ≡ is_some (located f (circular a n))
count_located f a n =
    ap (eqb (reached f (circular a n))) (sym (length-circular n a)) ∙ sym (list_all-reached (circular a n) f) ∙ all_located (circular a n) f

-- a buffer that was read to its end
pub read_whole : (m : Memory) (a n k : ℕ) (old new : List ℕ) → length old ≡ n → IsTrue (eqb k n) →
    new ≡ map (byte m) (take k (circular a n)) ++ drop k old → new ≡ map (byte m) (circular a n)
read_whole m a n k old new size all is =
    let same : k ≡ n = eqb-true k n all in
    let front : take k (circular a n) ≡ circular a n = take_all k (circular a n) (omega (arith, same, length-circular n a)) in
    let back : drop k old ≡ [] = drop_all k old (omega (arith, same)) in
    is ∙ rw (front, back) (append-nil (map (byte m) (circular a n)))

-- ---- a range that ends below 2^64

below : (n : ℕ) → n < 2 ^ 64 → nat_lt n (2 ^ 64) ≡ true
below n h = grind (arith, nat_tests)

-- an address that isn't mapped with the permission has no place
none_behind : (l : List Region) (access : Permissions) (set a : ℕ) (o : Option Mapping) → may_pass access o ≡ false →
    for_io set a (place_behind l access o) ≡ None
none_behind l access set a None e = refl
none_behind l access set a (Some to) e = rw e refl

and_then_none : (o : Option Place) → option_and_then (λ (p : Place). option_map (λ (ps : List Place). p ∷ ps) None) o ≡ None
and_then_none None = refl
and_then_none (Some p) = refl

unmapped_step : (l : List Region) (access : Permissions) (set a : ℕ) (o : Option Mapping) (r : Option (List Place)) (b : Bool) →
    (b ≡ false → r ≡ None) → (may_pass access o && b) ≡ false →
    option_and_then (λ (p : Place). option_map (λ (ps : List Place). p ∷ ps) r) (for_io set a (place_behind l access o)) ≡ None
unmapped_step l access set a o r b rest e =
    elim (may_pass access o) as (λ (pass : Bool). may_pass access o ≡ pass → (pass && b) ≡ false →
    option_and_then (λ (p : Place). option_map (λ (ps : List Place). p ∷ ps) r) (for_io set a (place_behind l access o)) ≡ None) [
      | true ↦ λ passes none. rw (rest none) (and_then_none (for_io set a (place_behind l access o)))
      | false ↦ λ stops none. rw (none_behind l access set a o stops) refl
    ] refl e

-- addresses that aren't all mapped with the permission don't all have places
unmapped : (n a : ℕ) (l : List Region) (access : Permissions) (set : ℕ) (table : Table) → may_all table access a n ≡ false →
    located (λ x. for_io set x (place_behind l access (table x))) (addresses a n) ≡ None
unfolding may_all located addresses
unmapped zero a l access set table e = absurd (cc)
unmapped (suc n) a l access set table e =
    unmapped_step l access set a (table a) (located (λ x. for_io set x (place_behind l access (table x))) (addresses (a + 1) n))
    (may_all table access (a + 1) n)
    (unmapped n (a + 1) l access set table) e

mapped_places : (m : Memory) (on may : Bool) (access : Permissions) (a n : ℕ) → m.translates ≡ on → may_all (table_of m) access a n ≡ may →
    (if (if on then (true && may) else true) then located (location m access) (addresses a n) else None)
    ≡ located (location m access) (addresses a n)
mapped_places m false may access a n off e = refl
mapped_places m true true access a n on e = refl
mapped_places m true false access a n on e =
    sym (ap (λ b. located (λ x. if b then for_io m.io_pages x (place_behind m.layout access (table_of m x)) else place m.layout x)
    (addresses a n)) on
    ∙ unmapped n a m.layout access m.io_pages (table_of m) e)

-- the places of a range that ends below 2^64
pub places_from-is :
    (m : Memory) (access : Permissions) (a n : ℕ) → a + n < 2 ^ 64 → places_from m access a n ≡ located (location m access) (addresses a n)
places_from-is m access a n fits =
    rw (circular-is n a fits, below (a + n) fits) (mapped_places m m.translates (may_all (table_of m) access a n) access a n refl refl)

-- such a range is reached exactly if it has its places
pub reach-from : (m : Memory) (access : Permissions) (a n : ℕ) → a + n < 2 ^ 64 → is_some (places_from m access a n) ≡ reach m access a n
reach-from m access a n fits =
    ap is_some (places_from-is m access a n fits) ∙ sym (rw (below (a + n) fits) (all_located (addresses a n) (location m access)))

-- ---- behind an IOMMU that is on

pub memory_on : (h : Host) (l : List Region) (number table set : ℕ) (on : Bool) → table ≡ number → on ≡ true →
    io_memory h l table set ≡ memory_behind h l number set on
memory_on h l number table set on is turned = ap (λ t. memory_behind h l t set true) is ∙ ap (memory_behind h l number set) (sym turned)

mapped_on : (m : Memory) (on fits may : Bool) (o : Option (List Place)) → on ≡ true → fits ≡ true → may ≡ true →
    (if (if on then fits && may else true) then o else None) ≡ o
mapped_on m on fits may o a b c = rw (a, b, c) refl

-- the places of a range that is mapped throughout
pub range_on : (h : Host) (l : List Region) (number table set : ℕ) (on : Bool) (access : Permissions) (a n : ℕ) → table ≡ number →
    on ≡ true → a + n < 2 ^ 64 →
    may_all (table_in h number) access a n ≡ true →
    located (location (io_memory h l table set) access) (circular a n) ≡ places_from (memory_behind h l number set on) access a n
range_on h l number table set on access a n is turned fits all =
    ap (λ (m : Memory). located (location m access) (circular a n)) (memory_on h l number table set on is turned)
    ∙ sym (mapped_on (memory_behind h l number set on) on (nat_lt (a + n) (2 ^ 64)) (may_all (table_in h number) access a n) _ turned
    (below (a + n) fits) all)

-- ---- behind one that is off

pub location_off : (h : Host) (l : List Region) (number set : ℕ) (on : Bool) (access : Permissions) → on ≡ false →
    location (memory_behind h l number set on) access ≡ place l
location_off h l number set on access off = rw off refl
