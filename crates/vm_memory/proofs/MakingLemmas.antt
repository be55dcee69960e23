-- regions made one after another
use Rattle.std.proofs.Common.{subst, inl, Option, Some, None, ◌≡◌, ℕ, Bool, true, false, ◌+◌, ◌^◌, ◌<◌, ◌≤◌, List, [], ◌∷◌, ◌++◌, length}
use Rattle.std.proofs.Common.{get_or, take, refl, ap, sym}
use Rattle.std.proofs.Common.{◌∙◌, arith, map, append_assoc, length-append, suc}
use Rattle.std.specs.Prelude.{◌&&◌, replicate, Result, Ok, Err}
use Rattle.std.proofs.lemmas.Option.{slice_get-get_or}
use Rattle.std.specs.List.{list_all}
use Rattle.std.proofs.lemmas.Bool.Decides.{nat_tests}
use Rattle.std.proofs.lemmas.List.{map-append, length-map, take_more, length-take-le, get_or_at, length_push, length-replicate}
use Rattle.vm_values.specs.declared.address.GuestAddress.{GuestAddress}
use Rattle.vm_memory_core.specs.Host.{Block, Host, lengths, with_blocks}
use Rattle.std.specs.Arc.{arc_value}
use Rattle.std.specs.declared.sync.Arc.{Arc}
use Rattle.vm_memory.specs.Layout.{Region, regions_of, AreHeld}
use Rattle.vm_memory.specs.Making.{zero_block, grown, grown_by, regions_from, is_good, IsRegionMade, AreRegionsMade}
use Rattle.vm_memory.specs.Collecting.{unless}
use Rattle.vm_memory.specs.declared.error.GuestRegionCollectionError.{GuestRegionCollectionError}
use Rattle.vm_memory.specs.declared.error.FromRangesError.{FromRangesError}
use Rattle.vm_memory.specs.declared.error.FromRangesError.TheVariants.{Collection, MmapRegion, InvalidGuestRegion, OutOfMemory}
use Rattle.vm_memory.specs.declared.error.MmapRegionError.TheVariants as mmap

abbrev pub Range : Type 0
Range = GuestAddress × ℕ

abbrev pub no_range : Range
no_range = (record { 0 = 0 }, 0)

pub taken : (xs : List Range) (i : ℕ) (d x : Range) → i < length xs → get_or xs i d ≡ x → take (i + 1) xs ≡ take i xs ++ x ∷ []
taken xs i d x h e = take_more xs i d h ∙ ap (λ y. take i xs ++ y ∷ []) e

and_true : (a b : Bool) → a ≡ true → b ≡ true → (a && b) ≡ true
and_true a b p q = rw (p, q)

all-push : (xs : List Range) (x : Range) → list_all is_good xs ≡ true → is_good x ≡ true → list_all is_good (xs ++ x ∷ []) ≡ true
all-push [] x all here = and_true (is_good x) true here refl
all-push (y ∷ xs) x all here =
    elim (is_good y) as (λ b. (b && list_all is_good xs) ≡ true → (b && list_all is_good (xs ++ x ∷ [])) ≡ true) [
      | true ↦ λ more. all-push xs x more here
      | false ↦ λ more. absurd (cc)
    ] all

pub all_more : (xs : List Range) (i : ℕ) (d x : Range) → i < length xs → get_or xs i d ≡ x → list_all is_good (take i xs) ≡ true → 0 < x.1 →
    x.0.0 + x.1 ≤ 2 ^ 64 →
    list_all is_good (take (i + 1) xs) ≡ true
all_more xs i d x h e all some fits =
    let here : is_good x ≡ true = grind (arith, nat_tests) in
    ap (list_all is_good) (taken xs i d x h e) ∙ all-push (take i xs) x all here

grown_by-push :
    (count : ℕ → ℕ) (h : Host) (xs : List Range) (x : Range) → grown_by count h (xs ++ x ∷ []) ≡ grown count (grown_by count h xs) x.1
grown_by-push count h xs x =
    let f : Range → Block = λ (r : Range). zero_block count r.1 in
    ap (with_blocks h) (ap (λ l. h.blocks ++ l) (map-append f xs (x ∷ [])) ∙ sym (append_assoc h.blocks (map f xs) (f x ∷ [])))

pub grown_more : (count : ℕ → ℕ) (old now new : Host) (xs : List Range) (i : ℕ) (d x : Range) → i < length xs → get_or xs i d ≡ x →
    now ≡ grown_by count old (take i xs) → new ≡ grown count now x.1 →
    new ≡ grown_by count old (take (i + 1) xs)
grown_more count old now new xs i d x h e before is =
    is ∙ ap (λ (l : Host). grown count l x.1) before
    ∙ sym (ap (grown_by count old) (taken xs i d x h e) ∙ grown_by-push count old (take i xs) x)

pub length-grown_by : (count : ℕ → ℕ) (before : Host) (xs : List Range) (i : ℕ) → i ≤ length xs →
    length (grown_by count before (take i xs)).blocks ≡ length before.blocks + i
length-grown_by count before xs i h =
    let f : Range → Block = λ (r : Range). zero_block count r.1 in
    length-append before.blocks (map f (take i xs)) ∙ ap (λ n. length before.blocks + n) (length-map (take i xs) f ∙ length-take-le i xs h)

regions_from-push : (xs : List Range) (n : ℕ) (x : Range) →
    regions_from n (xs ++ x ∷ []) ≡ regions_from n xs ++ record { start = x.0.0; size = x.1; block = n + length xs } ∷ []
regions_from-push [] n x =
    let none : n + 0 ≡ n = omega arith in
    rw none
regions_from-push (y ∷ xs) n x =
    let next : n + suc (length xs) ≡ n + 1 + length xs = omega arith in
    rw next (ap (λ (l : List Region). record { start = y.0.0; size = y.1; block = n } ∷ l) (regions_from-push xs (n + 1) x))

pub regions_more : (regions made : List Region) (xs : List Range) (i n block : ℕ) (d x : Range) (r : Region) → i < length xs →
    get_or xs i d ≡ x → made ≡ regions_from n (take i xs) →
    r ≡ record { start = x.0.0; size = x.1; block = block } → block ≡ n + i → regions ≡ made ++ r ∷ [] →
    regions ≡ regions_from n (take (i + 1) xs)
regions_more regions made xs i n block d x r h e before is at new =
    let count : length (take i xs) ≡ i = length-take-le i xs (omega arith) in
    let there : block ≡ n + length (take i xs) = omega arith in
    new ∙ ap (λ (l : List Region). l ++ r ∷ []) before
    ∙ ap (λ (s : Region). regions_from n (take i xs) ++ s ∷ []) (is ∙ ap (λ b. record { start = x.0.0; size = x.1; block = b }) there)
    ∙ sym (ap (regions_from n) (taken xs i d x h e) ∙ regions_from-push (take i xs) n x)

pub shared-push :
    {Z : Type 0} (items new : List (Arc Region Z)) (arc : Arc Region Z) (r : Region) → new ≡ items ++ arc ∷ [] → arc_value arc ≡ r →
    regions_of (λ (x : Region). x) new ≡ regions_of (λ (x : Region). x) items ++ r ∷ []
shared-push items new arc r e is =
    ap (regions_of (λ (x : Region). x)) e ∙ map-append (λ a. arc_value a) items (arc ∷ [])
    ∙ ap (λ (x : Region). regions_of (λ (y : Region). y) items ++ x ∷ []) is

-- the blocks of the regions are in memory
abbrev length_of : Block → ℕ
length_of b = length b.bytes

abbrev new_lengths : (ℕ → ℕ) → List Range → List ℕ
new_lengths count xs = map length_of (map (λ (r : Range). zero_block count r.1) xs)

held_from : (count : ℕ → ℕ) (xs : List Range) (front : List ℕ) → AreHeld (front ++ new_lengths count xs) (regions_from (length front) xs)
held_from count [] front = tt
held_from count (x ∷ xs) front =
    let y : ℕ = length (replicate x.1 0) in
    let rest : List ℕ = new_lengths count xs in
    let more = held_from count xs (front ++ y ∷ []) in
    let there : AreHeld (front ++ y ∷ rest) (regions_from (length (front ++ y ∷ [])) xs) = subst
    (λ (ls : List ℕ). AreHeld ls (regions_from (length (front ++ y ∷ [])) xs)) (append_assoc front (y ∷ []) rest) more in (
      omega (arith, length-append front (y ∷ rest)),
      get_or_at front y rest 0 (length front) refl ∙ length-replicate x.1 0,
      subst (λ n. AreHeld (front ++ y ∷ rest) (regions_from n xs)) (length_push front y) there,
    )

pub held_made : (count : ℕ → ℕ) (before after : Host) (xs : List Range) → after ≡ grown_by count before xs →
    AreHeld (lengths after) (regions_from (length before.blocks) xs)
held_made count before after xs e =
    let old = before.blocks in
    let from = held_from count xs (lengths before) in
    let there : AreHeld (lengths before ++ new_lengths count xs) (regions_from (length old) xs) = subst
    (λ n. AreHeld (lengths before ++ new_lengths count xs) (regions_from n xs)) (length-map old length_of) from in
    subst (λ (ls : List ℕ). AreHeld ls (regions_from (length old) xs))
    (sym (ap lengths e ∙ map-append length_of old (map (λ (r : Range). zero_block count r.1) xs))) there

pub unless_ok : (fault : Option GuestRegionCollectionError) (regions layout : List Region) →
    ◌≡◌ {A = Result (List Region) GuestRegionCollectionError} (Ok layout)
    (unless fault regions) → layout ≡ regions
unless_ok None regions layout e = cc
unless_ok (Some f) regions layout e = absurd (cc)

-- a refused range
pub refused_at : (count : ℕ → ℕ) (old now new : Host) (xs : List Range) (i : ℕ) (d x : Range) (e : FromRangesError) → i < length xs →
    get_or xs i d ≡ x → list_all is_good (take i xs) ≡ true →
    now ≡ grown_by count old (take i xs) →
    IsRegionMade count now new x.0.0 x.1 (Err e) → AreRegionsMade count old new xs (Err e)
refused_at count old now new xs i d x (Collection f) h at good before made = absurd made
refused_at count old now new xs i d x (MmapRegion mmap.Mmap) h at good before made =
    (i, x, (good, slice_get-get_or xs i d h ∙ ap Some at), made.0, made.1 ∙ before)
refused_at count old now new xs i d x (MmapRegion mmap.OutOfMemory) h at good before made = absurd made
refused_at count old now new xs i d x InvalidGuestRegion h at good before made =
    (i, x, (good, slice_get-get_or xs i d h ∙ ap Some at), made.1, made.0, grown_more count old now new xs i d x h at before made.2)
refused_at count old now new xs i d x OutOfMemory h at good before made =
    (i, x, slice_get-get_or xs i d h ∙ ap Some at, made.0, inl (good, made.1 ∙ before))
