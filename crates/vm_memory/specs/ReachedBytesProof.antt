-- Proofs that an access by address reaches at most as many places as it asks for. Nobody has to believe
-- anything here.
use Rattle.std.specs.Prelude.{◌≡◌, ℕ, zero, suc, ◌+◌, ◌%◌, ◌^◌, ◌≤◌, ◌==◌, List, [], ◌∷◌, length, Option}
use Rattle.std.specs.Prelude.{Some, None, if◌then◌else◌, Result, Ok, Err, refl, true, false}
use Rattle.std.proofs.Common.{ap, sym, subst, arith, inl, inr, ◌∙◌}
use Rattle.std.proofs.lemmas.List.{length-map}
use Rattle.vm_values.specs.declared.address.GuestAddress.{GuestAddress}
use Rattle.vm_values.specs.declared.address.MemoryRegionAddress.{MemoryRegionAddress}
use Rattle.vm_memory_core.specs.Host.{Place}
use Rattle.vm_memory_core.specs.Access.{reached_places}
use Rattle.vm_memory_core.specs.ReachedProof.{AtMost, length-reached_places}
use Rattle.vm_memory_core.specs.declared.error.VolatileMemoryError.{VolatileMemoryError}
use Rattle.vm_memory.specs.Layout.{Region, place}
use Rattle.vm_iotlb.specs.declared.permissions.Permissions.{Permissions}
use Rattle.vm_memory.specs.Memory.{Memory, addresses, circular, location}
use Rattle.vm_memory.specs.Regions.{whole_of}
use Rattle.vm_memory.specs.Bytes.{MayReach, and_after, region_result, places_at, reached_by, reached_in}
use Rattle.vm_memory.specs.Bytes.{unless_none}
use Rattle.vm_memory.specs.declared.error.GuestMemoryError.{GuestMemoryError}
use Rattle.vm_memory.specs.declared.error.GuestMemoryError.TheVariants.{InvalidGuestAddress}

pub length-places_at : (xs : List ℕ) (f : ℕ → Option Place) → length (places_at f xs) ≤ length xs
unfolding places_at
length-places_at [] f = omega arith
length-places_at (a ∷ xs) f =
    elim (f a) as (λ o. length (and_after o (places_at f xs)) ≤ suc (length xs)) [
      | None ↦ omega arith
      | Some p ↦ let rest = length-places_at xs f in omega arith
    ]

count-addresses : (n a : ℕ) → length (addresses a n) ≡ n
unfolding addresses
count-addresses zero a = refl
count-addresses (suc n) a = ap suc (count-addresses n (a + 1))

unless_none_at_most :
    (addr : GuestAddress) (n : ℕ) (ps : List Place) → length ps ≤ n → AtMost n (unless_none addr n ps)
unless_none_at_most addr n [] h =
    elim (n == 0) as (λ b. AtMost n (if b then Ok []
    else Err (InvalidGuestAddress addr))) [ true ↦ omega arith | false ↦ tt ]
unless_none_at_most addr n (p ∷ ps) h = h

-- this holds for any places of the addresses
reached_at_most : (f : ℕ → Option Place) (addr : GuestAddress) (n : ℕ) (places : List Place) →
    Ok places ≡ unless_none addr n (places_at f (circular addr.0 n)) → length places ≤ n
reached_at_most f addr n places e =
    let all = length-places_at (circular addr.0 n) f in
    let count = length-map (addresses addr.0 n) (λ x. x % 2 ^ 64) ∙ count-addresses n addr.0 in
    subst (λ r. AtMost n r) (sym e)
    (unless_none_at_most addr n (places_at f (circular addr.0 n)) (omega (arith, all, count)))

pub length-reached_by : (layout : List Region) (addr : GuestAddress) (n : ℕ) (places : List Place) →
    Ok places ≡ reached_by layout addr n → length places ≤ n
length-reached_by layout addr n places e = reached_at_most (place layout) addr n places e

pub length-may_reach : (m : Memory) (access : Permissions) (addr : GuestAddress) (n : ℕ)
    (places : List Place) → MayReach m access addr n (Ok places) → length places ≤ n
length-may_reach m access addr n places (inl is) = reached_at_most (location m access) addr n places is.1
length-may_reach m access addr n places (inr never) = absurd never

ok_places : (o : Result (List Place) VolatileMemoryError) (places : List Place)
    → ◌≡◌ {A = Result (List Place) GuestMemoryError} (Ok places) (region_result o) → Ok places ≡ o
ok_places (Ok ps) places e = let same : places ≡ ps = cc in ap Ok same
ok_places (Err f) places e = absurd (cc)

pub length-reached_in : (r : Region) (offset : MemoryRegionAddress) (n : ℕ) (places : List Place) →
    Ok places ≡ reached_in r offset n → length places ≤ n
length-reached_in r offset n places e =
    length-reached_places (whole_of r) offset.0 n places
    (ok_places (reached_places (whole_of r) offset.0 n) places e)
