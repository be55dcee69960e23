-- entries of a table whose bytes are at hand
use Rattle.std.proofs.Common.{◌≡◌, ℕ, Bool, true, ◌+◌, ◌*◌, ◌-◌, ◌^◌, ◌<◌, ◌≤◌, List, ◌++◌, map, take, drop, Option, Some, None, Result, Ok}
use Rattle.std.proofs.Common.{refl, ap, sym, ◌∙◌, arith}
use Rattle.std.specs.Prelude.{is_some, if◌then◌else◌, length, nat_lt}
use Rattle.std.specs.List.{list_all}
use Rattle.std.proofs.lemmas.List.{take_all}
use Rattle.vm_iotlb.specs.declared.permissions.Permissions.TheVariants.{Read}
use Rattle.vm_memory.specs.Memory.{Memory, addresses, circular, located, location, reach, bytes}
use Rattle.vm_memory_core.specs.Host.{Place}
use Rattle.vm_memory_core.specs.Window.{Window, byte_in, places_of}
use Rattle.vm_memory.specs.Slices.{Slices, GivesSlice}
use Rattle.vm_memory.specs.declared.error.GuestMemoryError.{GuestMemoryError}
use Rattle.vm_memory.proofs.Places.{addresses-append, bytes-located, circular-is, length-circular}
use Rattle.fs_queue.proofs.ReadLemmas.{front_bytes, back_bytes, length-bytes}
use Rattle.fs_queue.proofs.TakeLemmas.{list_all-append, below}
use Rattle.std.proofs.lemmas.Bool.{and_parts}
use Rattle.vm_memory.proofs.RangeLemmas.{all_located}

-- a part of a range that is reached is reached
part_reached : (m : Memory) (a i n k : ℕ) → a + (i + (n + k)) < 2 ^ 64 → reach m Read a (i + (n + k)) ≡ true → reach m Read (a + i) n ≡ true
part_reached m a i n k fits h =
    let p : ℕ → Bool = λ x. is_some (location m Read x) in
    let all = and_parts (nat_lt (a + (i + (n + k))) (2 ^ 64)) (list_all p (addresses a (i + (n + k)))) h in
    let cut : addresses a (i + (n + k)) ≡ addresses a i ++ (addresses (a + i) n ++ addresses (a + i + n) k) =
    addresses-append i (n + k) a ∙ ap (λ (l : List ℕ). addresses a i ++ l) (addresses-append n k (a + i)) in
    let back = and_parts (list_all p (addresses a i)) (list_all p (addresses (a + i) n ++ addresses (a + i + n) k))
    (list_all-append (addresses a i) (addresses (a + i) n ++ addresses (a + i + n) k) (location m Read) ∙ rw cut at all.1) in
    let front = and_parts (list_all p (addresses (a + i) n)) (list_all p (addresses (a + i + n) k))
    (list_all-append (addresses (a + i) n) (addresses (a + i + n) k) (location m Read) ∙ back.1) in
    rw (below (a + i + n) (omega (arith, fits)), front.0) refl

-- the bytes of an entry of a table, by the table's bytes
pub entry_bytes :
    (m : Memory) (a n i : ℕ) (bs : List ℕ) → a + 16 * n < 2 ^ 64 → i < n → bs ≡ bytes m a (16 * n) → reach m Read a (16 * n) ≡ true →
    Some (take 16 (drop (16 * i) bs)) ≡ (if reach m Read (a + 16 * i) 16 then Some (bytes m (a + 16 * i) 16) else None)
entry_bytes m a n i bs ends inside is all =
    let k = 16 * n - 16 * i - 16 in
    let cut : 16 * n ≡ 16 * i + (16 + k) = omega (arith, inside) in
    let here : take 16 (drop (16 * i) bs) ≡ bytes m (a + 16 * i) 16 =
    ap (λ (l : List ℕ). take 16 (drop (16 * i) l)) (is ∙ ap (bytes m a) cut) ∙ ap (take 16) (back_bytes m a (16 * i) (16 + k))
    ∙ front_bytes m (a + 16 * i) 16 k in
    rw (part_reached m a (16 * i) 16 k (rw cut at ends) (rw cut at all)) (ap Some here)

-- two bytes of a range, by the range's bytes
pub pair_bytes : (m : Memory) (a n i : ℕ) (bs : List ℕ) → a + n < 2 ^ 64 → i + 2 ≤ n → bs ≡ bytes m a n → reach m Read a n ≡ true →
    Some (take 2 (drop i bs)) ≡ (if reach m Read (a + i) 2 then Some (bytes m (a + i) 2) else None)
pair_bytes m a n i bs ends inside is all =
    let k = n - i - 2 in
    let cut : n ≡ i + (2 + k) = omega (arith, inside) in
    let here : take 2 (drop i bs) ≡ bytes m (a + i) 2 =
    ap (λ (l : List ℕ). take 2 (drop i l)) (is ∙ ap (bytes m a) cut) ∙ ap (take 2) (back_bytes m a i (2 + k)) ∙ front_bytes m (a + i) 2 k in
    rw (part_reached m a i 2 k (rw cut at ends) (rw cut at all)) (ap Some here)

-- a number lies in the bytes of its range
pub number_inside : (m : Memory) (a n i : ℕ) (bs : List ℕ) → i + 2 ≤ n → bs ≡ bytes m a n → i + 2 ≤ length bs
number_inside m a n i bs inside is =
    let all : length bs ≡ n = ap length is ∙ length-bytes m a n in
    omega (arith, inside, all)

-- an entry lies in the bytes of its table
pub entry_inside : (m : Memory) (a n i : ℕ) (bs : List ℕ) → i < n → bs ≡ bytes m a (16 * n) → 16 * i + 16 ≤ length bs
entry_inside m a n i bs inside is =
    let all : length bs ≡ 16 * n = ap length is ∙ length-bytes m a (16 * n) in
    omega (arith, inside, all)

-- the bytes of a window of all of a range
pub whole_window : (m : Memory) (a n len : ℕ) (ps : List Place) (bs : List ℕ) → a + n < 2 ^ 64 → len ≡ n →
    located (location m Read) (take len (circular a n)) ≡ Some ps → bs ≡ map (byte_in m.host) ps →
    (bs ≡ bytes m a n) × (reach m Read a n ≡ true)
whole_window m a n len ps bs fits same at is =
    let front : take len (circular a n) ≡ addresses a n =
    take_all len (circular a n) (omega (arith, length-circular n a, same)) ∙ circular-is n a fits in
    let there : located (location m Read) (addresses a n) ≡ Some ps = rw front at at in (
      is ∙ sym (bytes-located (addresses a n) m ps there),
      rw (below (a + n) fits) (all_located (addresses a n) (location m Read) ∙ ap is_some there),
    )

-- a first window has the places of the first addresses
pub first_window :
    (s from t : Slices) (r : Option (Result Window GuestMemoryError)) (w : Window) → s ≡ from → r ≡ Some (Ok w) → GivesSlice s r t →
    located from.where_is (take w.len from.left) ≡ Some (places_of w)
first_window s from t r w e f h =
    let k : GivesSlice from (Some (Ok w)) t = rw (e, f) at h in
    k.2
