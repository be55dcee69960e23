-- Why regions in any order are no memory, by those in ascending order; and which neighbours stand apart.
use Rattle.std.proofs.Common.{◌≡◌, ◌≤◌, ◌<◌, ◌+◌, ◌-◌, ◌∙◌, ℕ, suc, length, List, [], ◌∷◌, All, Bool, false, true, if◌then◌else◌, ◌&&◌}
use Rattle.std.proofs.Common.{nat_lt}
use Rattle.std.proofs.Common.{get_or, Option, Some, None, Result, Ok, Err, IfErr, IfOk, IsPermutation, inr, map, take, drop, ◌++◌, ap}
use Rattle.std.proofs.Common.{subst, refl, sym, arith}
use Rattle.std.proofs.lemmas.Bool.Decides.{nat_tests}
use Rattle.std.proofs.lemmas.List.{append-nil, drop_all, get_or_default, length-map, take_all}
use Rattle.std.specs.List.Sorted.{IsNonDecreasingBy}
use Rattle.std.specs.Option.{option_or}
use Rattle.std.proofs.lemmas.List.Sorted.{All-permutation, length_permutation}
use Rattle.vm_memory.specs.Layout.{Region}
use Rattle.vm_memory.specs.Collecting.{RegionsWereRefused, fault_between, fault_of}
use Rattle.vm_memory.proofs.LayoutLemmas.{fault_from, fault_pair, region_of-map}
use Rattle.vm_memory.specs.declared.error.GuestRegionCollectionError.{GuestRegionCollectionError}
use Rattle.vm_memory.specs.declared.error.GuestRegionCollectionError.TheVariants.{UnsortedMemoryRegions, MemoryRegionOverlap}
use Rattle.fs_chain.specs.declared.error.ChainError.TheVariants as error
use Rattle.fs_chain_c.specs.Memory.{HasNoRegion, HaveFault, IsMemory, IsNoMemory, IsNoSortedMemory, IsRegion, StandApart}
use Rattle.fs_chain_c.specs.Memory.{region_of}
use Rattle.fs_chain_c.specs.Statuses.{region_status}
use Rattle.fs_chain_c.specs.declared.memory.FsRegion.{FsRegion}
use Rattle.fs_chain_c.specs.declared.status.StatusRefusal.{StatusRefusal}
use Rattle.fs_chain_c.specs.declared.status.StatusRefusal.TheVariants.{Of, Invalid}
use Rattle.fs_chain_c.proofs.RecordLemmas.{parted}

-- ---- neighbours

abbrev between : (down front back : Bool) → Option GuestRegionCollectionError
between down front back = if down then Some UnsortedMemoryRegions else if front && back then Some MemoryRegionOverlap else None

some_between : (down front back : Bool) → (down ≡ false → front ≡ true) → back ≡ true →
    (fault : GuestRegionCollectionError) × (between down front back ≡ Some fault)
some_between true front back h e = (UnsortedMemoryRegions, refl)
some_between false true true h e = (MemoryRegionOverlap, refl)
some_between false true false h e = absurd (cc)
some_between false false back h e = let no = h refl in absurd (cc)

none_between : (down front back : Bool) → down ≡ false → back ≡ false → None ≡ between down front back
none_between false true false d e = refl
none_between false false back d e = refl
none_between _ _ _ d e = absurd (cc)

module _ (regions : List FsRegion) (are : All IsRegion regions) (i : ℕ) (from : 1 ≤ i) (within : i < length regions) where
  abbrev pub none : FsRegion
  none = record { guest = 0; len = 0; host = 0 }

  abbrev pub before : FsRegion
  before = get_or regions (i - 1) none

  abbrev pub after : FsRegion
  after = get_or regions i none

  here : fault_from (map region_of regions) i
      ≡ option_or (fault_between (region_of before) (region_of after)) (fault_from (map region_of regions) (i + 1))
  here =
      fault_pair (map region_of regions) i (region_of before) (region_of after) (fault_between (region_of before) (region_of after))
      (rw (length-map regions region_of) within)
      (region_of-map region_of regions (i - 1) before (omega arith) (get_or_default regions (i - 1) none before (omega arith)))
      (region_of-map region_of regions i after within (get_or_default regions i none after within))
      refl

  -- a region that doesn't begin behind the one before it is at fault
  pub at_fault : after.guest ≤ before.guest + (before.len - 1) → fault_of (map region_of regions) ≡ fault_from (map region_of regions) i
      → HaveFault regions
  at_fault low all =
      let first = are (i - 1) none (omega arith) in
      let next = are i none within in
      let some = some_between (nat_lt after.guest before.guest) (nat_lt before.guest (after.guest + after.len))
      (nat_lt after.guest (before.guest + before.len))
      (λ up. grind (arith, nat_tests)) (grind (arith, nat_tests)) in (
        omega (arith, within),
        some.0,
        all ∙ here ∙ ap (λ (o : Option GuestRegionCollectionError). option_or o (fault_from (map region_of regions) (i + 1))) some.1,
      )

  -- one that begins behind it isn't
  pub no_fault : before.guest + (before.len - 1) < after.guest → fault_of (map region_of regions) ≡ fault_from (map region_of regions) i
      → fault_of (map region_of regions) ≡ fault_from (map region_of regions) (i + 1)
  no_fault high all =
      let first = are (i - 1) none (omega arith) in
      let is = none_between (nat_lt after.guest before.guest) (nat_lt before.guest (after.guest + after.len))
      (nat_lt after.guest (before.guest + before.len))
      (grind (arith, nat_tests)) (grind (arith, nat_tests)) in
      all ∙ here ∙ ap (λ (o : Option GuestRegionCollectionError). option_or o (fault_from (map region_of regions) (i + 1))) (sym is)

-- ---- regions in any order

-- what was sorted in place is the whole
pub whole_slice : (old new : List FsRegion) → length new ≡ length old → take (length old) (new ++ drop (length new) old) ≡ new
whole_slice old new same =
    let none : drop (length new) old ≡ [] = drop_all (length new) old (omega (arith, same)) in
    let all : new ++ drop (length new) old ≡ new = ap (λ (rest : List FsRegion). new ++ rest) none ∙ append-nil new in
    ap (take (length old)) all ∙ take_all (length old) new (omega (arith, same))

pub all_sorted :
    (regions sorted slice : List FsRegion) → IsPermutation regions sorted → slice ≡ sorted → All IsRegion regions → All IsRegion slice
all_sorted regions sorted slice same is are = subst (All IsRegion) (sym is) (All-permutation IsRegion regions sorted same are)

stand_apart : (sorted : List FsRegion) → fault_of (map region_of sorted) ≡ None → StandApart (map region_of sorted) × (0 < length sorted)
stand_apart [] right = absurd (cc)
stand_apart (r ∷ rest) right = (right, omega (arith))

module _ (regions sorted : List FsRegion) (same : IsPermutation regions sorted) (up : IsNonDecreasingBy (λ (r : FsRegion). r.guest) sorted)
    (few : length regions ≤ 512) (are : All IsRegion regions) where
  memory_of : fault_of (map region_of sorted) ≡ None → RegionsWereRefused (length sorted) → IsNoMemory regions (Of error.OutOfMemory)
  memory_of right refused =
      let apart = stand_apart sorted right in
      let len = length_permutation regions sorted same in (
        omega (arith, apart.1, len),
        subst RegionsWereRefused len refused,
        map region_of sorted,
        (few, sorted, same, All-permutation IsRegion regions sorted same are, refl, apart.0),
      )

  -- the memory of the regions in ascending order is one of those in any
  pub a_memory : (r : Result (List Region) StatusRefusal) → IfOk r (λ memory. memory ≡ map region_of sorted) → IfOk r StandApart →
      IfOk r (IsMemory regions)
  a_memory (Ok m) is apart = (few, sorted, same, All-permutation IsRegion regions sorted same are, is, apart)
  a_memory (Err why) is apart = tt

  none_of : (why : StatusRefusal) → IsNoSortedMemory sorted why → IsNoMemory regions why
  none_of (Invalid status) why =
      let len = length_permutation regions sorted same in
      let some = why.0.0 in
      inr (inr (are, few, (omega (arith, some, len), sorted, why.0.1, same, up, why.0.2), why.1))
  none_of (Of error.OutOfMemory) why = memory_of why.0 why.1
  none_of (Of _) why = why

  -- a refusal of the regions in ascending order is one of those in any
  pub no_memory : (r : Result (List Region) StatusRefusal) → IfErr r (IsNoSortedMemory sorted) → IfErr r (IsNoMemory regions)
  no_memory (Ok m) why = why
  no_memory (Err e) why = none_of e why

-- ---- the first that isn't a region

-- the numbers that lie where no region does
abbrev pub nowhere : FsRegion
nowhere = record { guest = 0; len = 0; host = 0 }

pub no_region : (regions : List FsRegion) (k : ℕ) (r : FsRegion) (status : ℕ) → k < length regions → r ≡ get_or regions k r
    → All IsRegion (take k regions) → (IsRegion r → ⊥) → status ≡ region_status r → HasNoRegion regions status
no_region regions k r status within is are none why = record {
  before = take k regions;
  region = r;
  after = drop (suc k) regions;
  parts = parted regions k r within is;
  are = are;
  is_none = none;
  why = why;
}
