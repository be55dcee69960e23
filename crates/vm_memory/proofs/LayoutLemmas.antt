-- layouts: the search for the region of an address
use Rattle.std.proofs.Common.{max, subst, inl, inr, ◌≡◌, ℕ, Bool, true, false, ◌+◌, ◌-◌, ◌<◌, ◌≤◌, List, [], ◌∷◌, length, refl, ap, sym}
use Rattle.std.proofs.Common.{◌∙◌, arith, zero, suc, Option, Some, None, Err}
use Rattle.std.specs.Prelude.{slice_index_or, slice_get, nat_lt, if◌then◌else◌, get_or, drop, take, map, ◌++◌}
use Rattle.std.specs.Option.{option_or}
use Rattle.std.specs.Arc.{arc_value}
use Rattle.std.specs.declared.sync.Arc.{Arc}
use Rattle.std.proofs.lemmas.Bool.{cases_eq}
use Rattle.std.proofs.lemmas.Bool.Decides.{nat_tests}
use Rattle.std.proofs.lemmas.Option.{get_or_from_slice_get, slice_get_within}
use Rattle.std.proofs.lemmas.List.{drop_more, drop_all, length-map, map-append, take-map, take_more}
use Rattle.vm_iotlb.specs.Table.{is_within}
use Rattle.vm_memory.specs.Layout.{AreHeld, last_address, Region, region_at, start_at, regions_of, overlap, AllFrom, IsLawful, IsLayout}
use Rattle.vm_memory.specs.Backend.{last_of}
use Rattle.vm_memory.specs.Collecting.{fault_between, fault_after, fault_of, Collects}
use Rattle.vm_memory.specs.declared.error.GuestRegionCollectionError.{GuestRegionCollectionError}
use Rattle.vm_memory.specs.declared.error.GuestRegionCollectionError.TheVariants.{NoMemoryRegion, MemoryRegionOverlap}
use Rattle.vm_memory.specs.declared.error.GuestRegionCollectionError.TheVariants.{UnsortedMemoryRegions, OutOfMemory}
use Rattle.vm_memory.proofs.Places.{within_false}

within_lt : (r : Region) (a : ℕ) → r.start ≤ a → is_within r.start r.size a ≡ nat_lt (a - r.start) r.size
within_lt r a low = grind (arith, nat_tests)

pub start_at-get : (l : List Region) (i : ℕ) (r : Region) → slice_get l i ≡ Some r → start_at l i ≡ r.start
start_at-get [] i r e = absurd (cc)
start_at-get (x ∷ l) zero r e = let same : x ≡ r = cc in ap (λ (y : Region). y.start) same
start_at-get (x ∷ l) (suc i) r e = start_at-get l i r e

pub from_start : (l : List Region) (e i : ℕ) → AllFrom e l → i < length l → e ≤ start_at l i
from_start [] e i f h = absurd (omega arith)
from_start (r ∷ l) e zero f h = f.0
from_start (r ∷ l) e (suc i) f h = from_start l e i f.1 (omega arith)

none_below : (l : List Region) (e a : ℕ) → AllFrom e l → a < e → region_at l a ≡ None
unfolding region_at
none_below [] e a f h = refl
none_below (r ∷ l) e a f h =
    let low : e ≤ r.start = f.0 in
    rw (within_false r a (λ high. absurd (omega arith))) (none_below l e a f.1 h)

-- an address before the first region
pub none_before : (l : List Region) (a : ℕ) → IsLayout l → (0 < length l → a < start_at l 0) → region_at l a ≡ None
unfolding region_at
none_before [] a is h = refl
none_before (r ∷ l) a is h =
    let low : a < r.start = h (omega arith) in
    rw (within_false r a (λ high. absurd (omega arith))) (none_below l (r.start + r.size) a is.2 (omega arith))

-- an address from the start of a region on and before the next one
pub found_from : (l : List Region) (i a : ℕ) (r : Region) → IsLayout l → slice_get l i ≡ Some r → r.start ≤ a →
    (i + 1 < length l → a < start_at l (i + 1)) →
    region_at l a ≡ (if nat_lt (a - r.start) r.size then Some r else None)
unfolding region_at
found_from [] i a r is e low high = absurd (cc)
found_from (x ∷ l) zero a r is e low high =
    let same : x ≡ r = cc in
    let rest : region_at l a ≡ None = none_before l a is.3 (λ some. high (omega arith)) in
    rw (same, within_lt r a low, rest)
found_from (x ∷ l) (suc i) a r is e low high =
    let within = slice_get_within l i r e in
    let above = from_start l (x.start + x.size) i is.2 within in
    let begins = start_at-get l i r e in
    let next : suc i + 1 ≡ suc (i + 1) = omega arith in
    let more : i + 1 < length l → a < start_at l (i + 1) = λ h. rw next at high (omega arith) in
    rw (within_false x a (λ high. omega arith)) (found_from l i a r is.3 e low more)

pub found_in : (l : List Region) (n a : ℕ) (r : Region) → IsLayout l → 0 < n → slice_get l (n - 1) ≡ Some r → r.start ≤ a →
    (n < length l → a < start_at l n) → a - r.start < r.size →
    Some r ≡ region_at l a
found_in l n a r is some e low high inside =
    let next : n - 1 + 1 ≡ n = omega arith in
    let test : nat_lt (a - r.start) r.size ≡ true = grind (arith, nat_tests) in
    sym (found_from l (n - 1) a r is e low (rw next high) ∙ ap (λ (b : Bool). if b then Some r else None) test)

pub found_out : (l : List Region) (n a : ℕ) (r : Region) → IsLayout l → 0 < n → slice_get l (n - 1) ≡ Some r → r.start ≤ a →
    (n < length l → a < start_at l n) → r.size ≤ a - r.start →
    None ≡ region_at l a
found_out l n a r is some e low high outside =
    let next : n - 1 + 1 ≡ n = omega arith in
    let test : nat_lt (a - r.start) r.size ≡ false = grind (arith, nat_tests) in
    sym (found_from l (n - 1) a r is e low (rw next high) ∙ ap (λ (b : Bool). if b then Some r else None) test)

-- ---- which regions are a layout

abbrev pub no_region : Region
no_region = record { start = 0; size = 0; block = 0 }

abbrev pub region_of : List Region → ℕ → Region
region_of l i = get_or l i no_region

pub length-shared : {X Z : Type 0} (f : X → Region) (items : List (Arc X Z)) → length (regions_of f items) ≡ length items
length-shared f items = length-map items (λ a. f (arc_value a))

-- the region of an item by its number
pub region_of-map : {X : Type 0} (f : X → Region) (items : List X) (i : ℕ) (x : X) → i < length items → x ≡ get_or items i x →
    region_of (map f items) i ≡ f x
region_of-map f [] i x h e = absurd (omega arith)
region_of-map f (item ∷ items) zero x h e = ap f (sym e)
region_of-map f (item ∷ items) (suc i) x h e = region_of-map f items i x (omega arith) e

-- the first fault among neighbours from the i-th region's front one on
abbrev pub fault_from : List Region → ℕ → Option GuestRegionCollectionError
fault_from l i = fault_after (region_of l (i - 1)) (drop i l)

pub fault_step : (l : List Region) (i : ℕ) → i < length l →
    fault_from l i ≡ option_or (fault_between (region_of l (i - 1)) (region_of l i)) (fault_from l (i + 1))
unfolding fault_after
fault_step l i h =
    let back : i + 1 - 1 ≡ i = omega arith in
    rw back (ap (fault_after (region_of l (i - 1))) (drop_more l i no_region h))

-- a pair of neighbours with or without a fault
pub fault_pair : (l : List Region) (i : ℕ) (r s : Region) (o : Option GuestRegionCollectionError) → i < length l → region_of l (i - 1) ≡ r →
    region_of l i ≡ s → o ≡ fault_between r s →
    fault_from l i ≡ option_or o (fault_from l (i + 1))
fault_pair l i r s o h front back is =
    fault_step l i h
    ∙ ap (λ (x : Region). option_or (fault_between x (region_of l i)) (fault_from l (i + 1))) front
    ∙ ap (λ (x : Region). option_or (fault_between r x) (fault_from l (i + 1))) back
    ∙ ap (λ (x : Option GuestRegionCollectionError). option_or x (fault_from l (i + 1))) (sym is)

pub lawful_more : (l : List Region) (i : ℕ) (r : Region) → ((k : ℕ) → k < i → IsLawful (region_of l k)) → region_of l i ≡ r → IsLawful r →
    (k : ℕ) → k < i + 1 → IsLawful (region_of l k)
lawful_more l i r below is here k h =
    elim (cases_eq k i) [
      | inl same ↦ subst (λ n. IsLawful (region_of l n)) (sym same) (subst IsLawful (sym is) here)
      | inr other ↦ below k (omega arith)
    ]

pub fault_end : (l : List Region) (i : ℕ) → length l ≤ i → fault_from l i ≡ None
unfolding fault_after
fault_end l i h = ap (fault_after (region_of l (i - 1))) (drop_all i l h)

abbrev between : Bool → Bool → Option GuestRegionCollectionError
between down common = if down then Some UnsortedMemoryRegions else if common then Some MemoryRegionOverlap else None

none_parts : (down common : Bool) (o : Option GuestRegionCollectionError) → option_or (between down common) o ≡ None →
    (down ≡ false) × (common ≡ false) × (o ≡ None)
none_parts true common o e = absurd (cc)
none_parts false true o e = absurd (cc)
none_parts false false o e = (refl, refl, e)

apart : (r s : Region) → IsLawful s → nat_lt s.start r.start ≡ false → overlap r s ≡ false → r.start + r.size ≤ s.start
apart r s h up out = grind (arith, nat_tests)

pub from_lower : (l : List Region) (e f : ℕ) → f ≤ e → AllFrom e l → AllFrom f l
from_lower [] e f h all = tt
from_lower (r ∷ l) e f h all = (omega (arith, all.0), from_lower l e f h all.1)

abbrev EachIsLawful : List Region → Type 0
EachIsLawful l = (k : ℕ) → k < length l → IsLawful (region_of l k)

ascending :
    (l : List Region) (r : Region) → IsLawful r → EachIsLawful l → fault_after r l ≡ None → AllFrom (r.start + r.size) l × IsLayout l
unfolding fault_after
ascending [] r h each e = (tt, tt)
ascending (s ∷ l) r h each e =
    let lawful : IsLawful s = each 0 (omega arith) in
    let parts = none_parts (nat_lt s.start r.start) (overlap r s) (fault_after s l) e in
    let next = apart r s lawful parts.0 parts.1 in
    let more = ascending l s lawful (λ k within. each (suc k) (omega arith)) parts.2 in
    ((next, from_lower l (s.start + s.size) (r.start + r.size) (omega arith) more.0), (lawful.0, lawful.2, more.0, more.1))

-- lawful regions without a fault
pub faultless : (l : List Region) → EachIsLawful l → fault_of l ≡ None → IsLayout l
faultless [] each e = tt
faultless (r ∷ l) each e =
    let lawful : IsLawful r = each 0 (omega arith) in
    let more = ascending l r lawful (λ k within. each (suc k) (omega arith)) e in
    (lawful.0, lawful.2, more.0, more.1)

-- what is wrong with regions is never a want of memory
no_want : (down common : Bool) (o : Option GuestRegionCollectionError) → option_or (between down common) o ≡ Some OutOfMemory →
    o ≡ Some OutOfMemory
no_want true common o e = absurd (cc)
no_want false true o e = absurd (cc)
no_want false false o e = e

wants_none : (l : List Region) (r : Region) → fault_after r l ≡ Some OutOfMemory → ⊥
unfolding fault_after
wants_none [] r e = cc
wants_none (s ∷ l) r e = wants_none l s (no_want (nat_lt s.start r.start) (overlap r s) (fault_after s l) e)

-- regions with a fault are refused for it
pub refused_for : (l : List Region) (fault : GuestRegionCollectionError) → fault_of l ≡ Some fault → Collects l (Err fault)
refused_for l NoMemoryRegion is = is
refused_for l MemoryRegionOverlap is = is
refused_for l UnsortedMemoryRegions is = is
refused_for [] OutOfMemory is = absurd (cc)
refused_for (r ∷ l) OutOfMemory is = absurd (wants_none l r is)

-- one shared region more was copied
pub copied_more : {X Z : Type 0} (f : X → Region) (items all new : List (Arc X Z)) (i : ℕ) (arc copy : Arc X Z) → i < length items →
    arc ≡ get_or items i arc →
    arc_value copy ≡ arc_value arc → new ≡ all ++ copy ∷ [] →
    regions_of f all ≡ take i (regions_of f items) → regions_of f new ≡ take (i + 1) (regions_of f items)
copied_more f items all new i arc copy h e same is before =
    ap (regions_of f) is ∙ map-append (λ a. f (arc_value a)) all (copy ∷ [])
    ∙ ap (λ (l : List Region). l ++ f (arc_value copy) ∷ []) (before ∙ take-map (λ a. f (arc_value a)) i items)
    ∙ ap (λ x. map (λ a. f (arc_value a)) (take i items) ++ f x ∷ []) same
    ∙ sym (ap (take (i + 1)) refl ∙ take-map (λ a. f (arc_value a)) (i + 1) items
    ∙ ap (map (λ a. f (arc_value a))) (take_more items i arc h ∙ ap (λ a. take i items ++ a ∷ []) (sym e)) ∙ map-append
    (λ a. f (arc_value a)) (take i items) (arc ∷ []))

max_left : (a b : ℕ) → b ≤ a → max a b ≡ a
max_left a b h = omega arith

max_right : (a b : ℕ) → a ≤ b → max a b ≡ b
max_right a b h = omega arith

-- the greatest address is the last of the last region
pub last_is : (l : List Region) (i : ℕ) (r : Region) → IsLayout l → slice_get l i ≡ Some r → length l ≡ i + 1 → last_of l ≡ last_address r
last_is [] i r is e h = absurd (cc)
last_is (x ∷ []) zero r is e h =
    let same : x ≡ r = cc in
    ap (λ (y : Region). max (last_address y) 0) same ∙ max_left (last_address r) 0 (omega arith)
last_is (x ∷ []) (suc i) r is e h = absurd (omega arith)
last_is (x ∷ (y ∷ l)) zero r is e h = absurd (omega arith)
last_is (x ∷ (y ∷ l)) (suc i) r is e h =
    let more = last_is (y ∷ l) i r is.3 e (omega arith) in
    let within = slice_get_within (y ∷ l) i r e in
    let above = from_start (y ∷ l) (x.start + x.size) i is.2 within in
    let begins = start_at-get (y ∷ l) i r e in
    ap (max (last_address x)) more ∙ max_right (last_address x) (last_address r) (omega (arith, is.0))

-- ---- regions and their blocks

abbrev pub HasBlock : List ℕ → Region → Type 0
HasBlock lengths r = (r.block < length lengths) × (slice_index_or lengths r.block 0 ≡ r.size)

pub blocks_more : (lengths : List ℕ) (l : List Region) (i : ℕ) (r : Region) → ((k : ℕ) → k < i → HasBlock lengths (region_of l k)) →
    slice_get l i ≡ Some r → HasBlock lengths r → (k : ℕ) →
    k < i + 1 → HasBlock lengths (region_of l k)
blocks_more lengths l i r below is here k h =
    let same : region_of l i ≡ r = get_or_from_slice_get l i r no_region is in
    elim (cases_eq k i) [
      | inl at ↦ subst (λ n. HasBlock lengths (region_of l n)) (sym at) (subst (HasBlock lengths) (sym same) here)
      | inr other ↦ below k (omega arith)
    ]

pub held_all : (lengths : List ℕ) (l : List Region) → ((k : ℕ) → k < length l → HasBlock lengths (region_of l k)) → AreHeld lengths l
held_all lengths [] each = tt
held_all lengths (r ∷ l) each =
    let here : HasBlock lengths r = each 0 (omega arith) in
    (here.0, here.1, held_all lengths l (λ k h. each (suc k) (omega arith)))

pub block_of : (lengths : List ℕ) (l : List Region) (i : ℕ) (r : Region) → AreHeld lengths l → slice_get l i ≡ Some r → HasBlock lengths r
block_of lengths [] i r held e = absurd (cc)
block_of lengths (x ∷ l) zero r held e = let same : x ≡ r = cc in subst (HasBlock lengths) same (held.0, held.1)
block_of lengths (x ∷ l) (suc i) r held e = block_of lengths l i r held.2 e
