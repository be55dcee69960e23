-- which addresses have places in some regions
use Rattle.std.proofs.Common.{◌≡◌, ℕ, Bool, ◌+◌, ◌^◌, ◌%◌, ◌<◌, ◌-◌, ◌≤◌, min, List, ◌∷◌, Some, None, true, refl, ap, ◌∙◌}
use Rattle.std.proofs.Common.{arith, nat_le}
use Rattle.std.specs.Prelude.{is_some}
use Rattle.std.specs.List.{list_all}
use Rattle.std.proofs.lemmas.Bool.{le-leb, lt-ltb}
use Rattle.vm_iotlb.specs.declared.permissions.Permissions.{Permissions}
use Rattle.vm_iotlb.specs.Table.{is_within}
use Rattle.vm_memory_core.specs.Window.{Window}
use Rattle.vm_memory.specs.Layout.{IsLayout, Region, left_at, place, region_at}
use Rattle.vm_memory.specs.Memory.{addresses, circular, reach}
use Rattle.vm_memory.specs.Regions.{window_in}
use Rattle.vm_memory.proofs.Places.{circular-is, end_above, ok_of, run_in, start_below, window_found, window_longest}
use Rattle.vm_memory.proofs.RangeLemmas.{all_located}
use Rattle.fs_regions.specs.Places.{places_in, untranslated}
use Rattle.fs_regions.specs.Windows.{LiesAt}

pub reaches_by : (l : List Region) (access : Permissions) (a n : ℕ) (all : Bool) → a + n < 2 ^ 64 →
    all ≡ list_all (λ x. is_some (place l x)) (circular a n) → all ≡ reach (places_in (untranslated l)) access a n
reaches_by l access a n all fits is =
    is ∙ ap (list_all (λ x. is_some (place l x))) (circular-is n a fits) ∙ (rw (lt-ltb (a + n) (2 ^ 64) fits) refl)

-- the first region has an address
pub first_has : (l rest : List Region) (r : Region) (a : ℕ) → l ≡ r ∷ rest → is_within r.start r.size a ≡ true → Some r ≡ region_at l a
unfolding region_at
first_has l rest r a is has = rw (is, has) refl

-- one region has all of some addresses
pub reaches_in_one : (l : List Region) (access : Permissions) (a n : ℕ) (r : Region) → IsLayout l → Some r ≡ region_at l a
    → a - r.start + n ≤ r.size → a + n < 2 ^ 64 → reach (places_in (untranslated l)) access a n ≡ true
reaches_in_one l access a n r is found within fits =
    rw (lt-ltb (a + n) (2 ^ 64) fits) (all_located (addresses a n) (place l) ∙ ap is_some (run_in l a n r is found within))

-- addresses in one region have a window of their own
pub lies_in_one : (l : List Region) (a n start size at : ℕ) (r : Region) → IsLayout l → Some r ≡ region_at l a → start ≡ r.start
    → size ≡ r.size → 0 < n → r.start + r.size ≤ 2 ^ 64 → n ≤ size - (a - start) → at ≡ (r.block + (a - start)) % 2 ^ 64
    → LiesAt (place l) a n (left_at l a) at
lies_in_one l a n start size at r is found from many some fits enough here =
    let low = start_below l a r found in
    let high = end_above l a r found in
    let v : Window = record { block = r.block; offset = a - start; len = n; io = None } in
    let short : min (size - (a - start)) n ≡ n = omega (arith, enough) in
    let inside : nat_le ((a - start) + n) r.size ≡ true = le-leb ((a - start) + n) r.size (omega (arith, low, high, from, many, enough)) in
    let e : ok_of v ≡ window_in r (a - start) (min (size - (a - start)) n) = rw (short, inside) refl in
    (v, window_found l a n start size r v is found from many some fits e, window_longest l a n start size r v found from many e, refl, here)
