-- the places of addresses
use Rattle.std.proofs.Common.{◌≡◌, ℕ, Bool, true, false, ◌+◌, ◌-◌, ◌%◌, ◌^◌, ◌<◌, ◌≤◌, ◌&&◌, eqb, List, [], ◌∷◌, ◌++◌, length, get_or, take}
use Rattle.std.proofs.Common.{drop, refl, ap, sym, ◌∙◌}
use Rattle.std.proofs.Common.{append_assoc, append-nil, length-append, length-drop, map, subst, arith, min, zero, suc, Option, Some, None}
use Rattle.std.specs.Prelude.{unwrap_or, is_some, if◌then◌else◌, nat_le, Result, Ok, Err}
use Rattle.std.specs.Option.{option_map, option_and_then, option_or}
use Rattle.std.specs.List.{zip, list_all}
use Rattle.std.proofs.Math.Dec.{eqb-zero-suc, eqb-suc-suc}
use Rattle.std.proofs.lemmas.Bool.Decides.{nat_tests}
use Rattle.std.proofs.lemmas.List.{map-append, length-take-le, take_at, get_or_default, length-map, drop_at, drop-drop}
use Rattle.vm_iotlb.specs.declared.permissions.Permissions.TheVariants.{Read}
use Rattle.vm_iotlb.specs.Table.{is_within}
use Rattle.vm_memory_core.specs.Host.{Host, Place, byte_at}
use Rattle.vm_memory_core.specs.Window.{Window, LiesIn, places_of, span, byte_in, put_byte, put_all}
use Rattle.vm_memory_core.proofs.WindowLemmas.{take-put, zip-append}
use Rattle.vm_memory.specs.Layout.{Region, left_at, place, region_at, AllFrom, IsLayout, AreHeld}
use Rattle.vm_memory.specs.Regions.{window_in}
use Rattle.vm_memory.specs.declared.error.GuestMemoryError.{GuestMemoryError}
use Rattle.vm_memory.specs.declared.error.GuestMemoryError.TheVariants.{InvalidBackendAddress}
use Rattle.vm_memory.specs.Memory.{Memory, memory_of, addresses, circular, location, located, reached, after, byte, stored, stored_at}
use Rattle.vm_memory.specs.Memory.{stored_all}

-- ---- one address

within_true : (r : Region) (a : ℕ) → r.start ≤ a → a < r.start + r.size → is_within r.start r.size a ≡ true
within_true r a low high = grind (arith, nat_tests)

pub within_false : (r : Region) (a : ℕ) → (r.start ≤ a → r.start + r.size ≤ a) → is_within r.start r.size a ≡ false
within_false r a out = grind (arith, nat_tests)

pub within_low : (r : Region) (a : ℕ) → is_within r.start r.size a ≡ true → r.start ≤ a
within_low r a h = grind (arith, nat_tests)

pub within_high : (r : Region) (a : ℕ) → is_within r.start r.size a ≡ true → a < r.start + r.size
within_high r a h = grind (arith, nat_tests)

from_at : (l : List Region) (e i : ℕ) (d : Region) → AllFrom e l → i < length l → e ≤ (get_or l i d).start
from_at [] e i d f h = absurd (omega arith)
from_at (r ∷ l) e zero d f h = f.0
from_at (r ∷ l) e (suc i) d f h = from_at l e i d f.1 (omega arith)

abbrev place_at : ℕ → ℕ → Place
place_at block offset = record { block = block; offset = offset; io = None }

-- no other region has an address of this one
pub place_here : (l : List Region) (i a : ℕ) (d : Region) → IsLayout l → i < length l → (get_or l i d).start ≤ a →
    a < (get_or l i d).start + (get_or l i d).size →
    place l a ≡ Some (place_at (get_or l i d).block (a - (get_or l i d).start))
unfolding place
place_here [] i a d is h low high = absurd (omega arith)
place_here (r ∷ l) zero a d is h low high = rw (within_true r a low high)
place_here (r ∷ l) (suc i) a d is h low high =
    let above = from_at l (r.start + r.size) i d is.2 (omega arith) in
    rw (within_false r a (λ _. omega arith)) (place_here l i a d is.3 (omega arith) low high)

-- ---- lists of addresses

abbrev pub Where : Type 0
Where = ℕ → Option Place

-- addresses whose places follow one another
pub located_run : (n : ℕ) (f : Where) (a b o : ℕ) → ((k : ℕ) → k < n → f (a + k) ≡ Some (place_at b (o + k))) →
    located f (addresses a n) ≡ Some (span b o None n)
unfolding located addresses span
located_run zero f a b o at = refl
located_run (suc n) f a b o at =
    let here : a + 0 ≡ a = omega arith in
    let there : o + 0 ≡ o = omega arith in
    let first : f a ≡ Some (place_at b o) = rw (there, here) at (at 0 (omega arith)) in
    let more : located f (addresses (a + 1) n) ≡ Some (span b (o + 1) None n) =
    located_run n f (a + 1) b (o + 1) (λ k h.
    let e : a + 1 + k ≡ a + (k + 1) = omega arith in
    let g : o + 1 + k ≡ o + (k + 1) = omega arith in
    rw (e, g) (at (k + 1) (omega arith))) in
    rw (first, more)

pub addresses-append : (m n a : ℕ) → addresses a (m + n) ≡ addresses a m ++ addresses (a + m) n
unfolding addresses
addresses-append zero n a =
    let e : 0 + n ≡ n = omega arith in
    let g : a + 0 ≡ a = omega arith in
    rw (e, g)
addresses-append (suc m) n a =
    let e : suc m + n ≡ suc (m + n) = omega arith in
    let g : a + suc m ≡ a + 1 + m = omega arith in
    rw (e, g) (ap (λ (l : List ℕ). a ∷ l) (addresses-append m n (a + 1)))

pub length-addresses : (n a : ℕ) → length (addresses a n) ≡ n
unfolding addresses
length-addresses zero a = refl
length-addresses (suc n) a = ap suc (length-addresses n (a + 1))

pub length-circular : (n a : ℕ) → length (circular a n) ≡ n
length-circular n a = length-map (addresses a n) (λ x. x % 2 ^ 64) ∙ length-addresses n a

pub circular-append : (m n a : ℕ) → circular a (m + n) ≡ circular a m ++ circular (a + m) n
circular-append m n a =
    ap (map (λ x. x % 2 ^ 64)) (addresses-append m n a) ∙ map-append (λ x. x % 2 ^ 64) (addresses a m) (addresses (a + m) n)

next_low : (a x : ℕ) → x ≡ a % 2 ^ 64 → x + 1 < 2 ^ 64 → x + 1 ≡ (a + 1) % 2 ^ 64
next_low a x e h = omega arith

-- below 2^64 one address comes after the other
pub circular-low : (n a x : ℕ) → x ≡ a % 2 ^ 64 → x + n ≤ 2 ^ 64 → circular a n ≡ addresses x n
unfolding addresses
circular-low zero a x e h = refl
circular-low (suc zero) a x e h = ap (λ y. y ∷ []) (sym e)
circular-low (suc (suc n)) a x e h =
    let head : a % 2 ^ 64 ≡ x = sym e in
    rw head (ap (λ (l : List ℕ). x ∷ l) (circular-low (suc n) (a + 1) (x + 1) (next_low a x e (omega arith)) (omega arith)))

pub circular-is : (n a : ℕ) → a + n < 2 ^ 64 → circular a n ≡ addresses a n
circular-is n a h = circular-low n a a (omega arith) (omega arith)

after-nil : {X : Type 0} (o : Option (List X)) → o ≡ after [] o
after-nil None = refl
after-nil (Some x) = refl

located_step : (o : Option Place) (r whole rest : Option (List Place)) (ps : List Place) →
    option_and_then (λ (p : Place). option_map (λ (s : List Place). p ∷ s) r) o ≡ Some ps →
    ((qs : List Place) → r ≡ Some qs → whole ≡ after qs rest) →
    option_and_then (λ (p : Place). option_map (λ (s : List Place). p ∷ s) whole) o ≡ after ps rest
located_step None r whole rest ps e h = absurd (cc)
located_step (Some p) None whole rest ps e h = absurd (cc)
located_step (Some p) (Some qs) whole None ps e h = rw (h qs refl)
located_step (Some p) (Some qs) whole (Some x) ps e h = rw (h qs refl) (ap (option_map (λ (s : List Place). s ++ x)) e)

-- addresses in two parts, of which the first has its places
pub located-append :
    (xs ys : List ℕ) (f : Where) (ps : List Place) → located f xs ≡ Some ps → located f (xs ++ ys) ≡ after ps (located f ys)
unfolding located
located-append [] ys f ps e = let none : [] ≡ ps = cc in rw (← none) (after-nil (located f ys))
located-append (x ∷ xs) ys f ps e = located_step (f x) (located f xs) _ _ ps e (λ qs h. located-append xs ys f qs h)

pub parts : (o : Option Place) (r : Option (List Place)) (ps : List Place) →
    option_and_then (λ (p : Place). option_map (λ (qs : List Place). p ∷ qs) r) o ≡ Some ps →
    (p : Place) × (qs : List Place) × (o ≡ Some p) × (r ≡ Some qs) × (ps ≡ p ∷ qs)
parts None r ps e = absurd (cc)
parts (Some p) None ps e = absurd (cc)
parts (Some p) (Some qs) ps e = (p, qs, refl, refl, cc)

pub after-after : {X : Type 0} (o : Option (List X)) (old ps : List X) → after old (after ps o) ≡ after (old ++ ps) o
after-after None old ps = refl
after-after (Some x) old ps = ap Some (sym (append_assoc old ps x))

-- those that have their places count as reached
pub reached-append :
    (xs ys : List ℕ) (f : Where) (ps : List Place) → located f xs ≡ Some ps → reached f (xs ++ ys) ≡ length xs + reached f ys
unfolding located reached
reached-append [] ys f ps e = omega arith
reached-append (x ∷ xs) ys f ps e =
    let s = parts (f x) (located f xs) ps e in
    let rest = reached-append xs ys f s.1 s.3 in
    rw s.2 (ap suc rest ∙ omega arith)

-- ---- one window further

-- what is left of a range once a window at its front was found
pub circular_step : (addr done n len x : ℕ) → x ≡ (addr + done) % 2 ^ 64 → x + n ≤ 2 ^ 64 → done + n ≤ len →
    circular (addr + done) (len - done) ≡ addresses x n ++ circular (addr + (done + n)) (len - (done + n))
circular_step addr done n len x e h le =
    let count : len - done ≡ n + (len - (done + n)) = omega arith in
    let there : addr + (done + n) ≡ addr + done + n = omega arith in
    rw (count, there) (circular-append n (len - (done + n)) (addr + done)
    ∙ ap (λ (l : List ℕ). l ++ circular (addr + done + n) (len - (done + n))) (circular-low n (addr + done) x e h))

-- what is left of a range that begins without a place
pub circular_head :
    (addr done len x : ℕ) → x ≡ (addr + done) % 2 ^ 64 → done < len → (rest : List ℕ) × (circular (addr + done) (len - done) ≡ x ∷ rest)
unfolding addresses
circular_head addr done len x e h =
    let count : len - done ≡ suc (len - done - 1) = omega arith in
    let rest : List ℕ = circular (addr + done + 1) (len - done - 1) in
    (rest, ap (circular (addr + done)) count ∙ ap (λ y. y ∷ rest) (sym e))

pub circular_done : (addr n len : ℕ) → len ≤ n → circular (addr + n) (len - n) ≡ []
unfolding addresses
circular_done addr n len h = let none : len - n ≡ 0 = omega arith in rw none

pub circular_all : (addr len : ℕ) → circular (addr + 0) (len - 0) ≡ circular addr len
circular_all addr len =
    let a : addr + 0 ≡ addr = omega arith in
    let b : len - 0 ≡ len = omega arith in
    rw (a, b)

pub located_none : (x : ℕ) (rest : List ℕ) (f : Where) → f x ≡ None → located f (x ∷ rest) ≡ None
unfolding located
located_none x rest f e = rw e

pub reached_none : (x : ℕ) (rest : List ℕ) (f : Where) → f x ≡ None → reached f (x ∷ rest) ≡ 0
unfolding reached
reached_none x rest f e = rw e

pub found_step : (f : Where) (xs ys zs : List ℕ) (ps old new : List Place) → xs ≡ ys ++ zs → located f ys ≡ Some ps → new ≡ old ++ ps →
    after old (located f xs) ≡ after new (located f zs)
found_step f xs ys zs ps old new cut e is =
    rw (cut, is, located-append ys zs f ps e) (after-after (located f zs) old ps)

pub reached_step : (f : Where) (xs ys zs : List ℕ) (ps : List Place) (done n : ℕ) → xs ≡ ys ++ zs → located f ys ≡ Some ps → length ys ≡ n →
    done + reached f xs ≡ done + n + reached f zs
reached_step f xs ys zs ps done n cut e l = rw (cut, reached-append ys zs f ps e, l) (omega arith)

-- ---- what is read and written there

-- the bytes at addresses are those at their places
pub bytes-located :
    (xs : List ℕ) (m : Memory) (ps : List Place) → located (location m Read) xs ≡ Some ps → map (byte m) xs ≡ map (byte_in m.host) ps
unfolding located
bytes-located [] m ps e = let none : [] ≡ ps = cc in rw (← none)
bytes-located (x ∷ xs) m ps e =
    let s = parts (location m Read x) (located (location m Read) xs) ps e in
    let here : byte m x ≡ byte_in m.host s.0 = ap (λ (o : Option Place). unwrap_or (option_and_then (byte_at m.host) o) 0) s.2 in
    rw (s.4, here) (ap (λ (l : List ℕ). byte_in m.host s.0 ∷ l) (bytes-located xs m s.1 s.3))

pub stored_all-append : (xs ys : List (ℕ × ℕ)) (m : Memory) → stored_all m (xs ++ ys) ≡ stored_all (stored_all m xs) ys
unfolding stored_all
stored_all-append [] ys m = refl
stored_all-append (x ∷ xs) ys m = stored_all-append xs ys (stored m x)

pub put_none : (ps : List Place) (h : Host) → h ≡ put_all h (zip ps [])
unfolding put_all
put_none [] h = refl
put_none (p ∷ ps) h = refl

stored_one : (a x : ℕ) (as' xs : List ℕ) (ps qs : List Place) (p : Place) (l : List Region) (h : Host) → place l a ≡ Some p → ps ≡ p ∷ qs →
    stored_all (memory_of (put_byte h p x) l) (zip as' xs) ≡ memory_of (put_all (put_byte h p x) (zip qs xs)) l →
    stored_all (memory_of h l) (zip (a ∷ as') (x ∷ xs)) ≡ memory_of (put_all h (zip ps (x ∷ xs))) l
unfolding stored_all put_all
stored_one a x as' xs ps qs p l h at is ih =
    ap (λ (o : Option Place). stored_all (stored_at (memory_of h l) x o) (zip as' xs)) at ∙ ih
    ∙ sym (ap (λ (rs : List Place). memory_of (put_all h (zip rs (x ∷ xs))) l) is)

-- stores at addresses are stores at their places
pub stored_all-zip : (as' : List ℕ) (ps : List Place) (xs : List ℕ) (l : List Region) (h : Host) → located (place l) as' ≡ Some ps →
    stored_all (memory_of h l) (zip as' xs) ≡ memory_of (put_all h (zip ps xs)) l
unfolding located stored_all put_all
stored_all-zip [] ps xs l h e = let none : [] ≡ ps = cc in rw (← none)
stored_all-zip (a ∷ as') ps [] l h e = ap (λ (g : Host). memory_of g l) (put_none ps h)
stored_all-zip (a ∷ as') ps (x ∷ xs) l h e =
    let s = parts (place l a) (located (place l) as') ps e in
    stored_one a x as' xs ps s.1 s.0 l h s.2 s.4 (stored_all-zip as' s.1 xs l (put_byte h s.0 x) s.3)

-- ---- regions and their blocks

-- a part of a region, from an address on
pub located_in : (l : List Region) (i a n : ℕ) (d : Region) → IsLayout l → i < length l → (get_or l i d).start ≤ a →
    a - (get_or l i d).start + n ≤ (get_or l i d).size →
    located (place l) (addresses a n) ≡ Some (span (get_or l i d).block (a - (get_or l i d).start) None n)
located_in l i a n d is h low high =
    located_run n (place l) a _ _ (λ k below.
    let e : a - (get_or l i d).start + k ≡ a + k - (get_or l i d).start = omega arith in
    rw e (place_here l i (a + k) d is h (omega arith) (omega arith)))

-- the block of a region is in memory
pub held_at : (lengths : List ℕ) (l : List Region) (i : ℕ) (d : Region) → AreHeld lengths l → i < length l →
    ((get_or l i d).block < length lengths) × (get_or lengths (get_or l i d).block 0 ≡ (get_or l i d).size)
held_at lengths [] i d held h = absurd (omega arith)
held_at lengths (r ∷ l) zero d held h = (held.0, held.1)
held_at lengths (r ∷ l) (suc i) d held h = held_at lengths l i d held.2 (omega arith)

abbrev no_region : Region
no_region = record { start = 0; size = 0; block = 0 }

-- the same of an item of the list
pub located_item :
    (l : List Region) (i a n : ℕ) (r : Region) → IsLayout l → i < length l → r ≡ get_or l i r → r.start ≤ a → a - r.start + n ≤ r.size →
    located (place l) (addresses a n) ≡ Some (span r.block (a - r.start) None n)
located_item l i a n r is h item =
    let e : get_or l i no_region ≡ r = get_or_default l i no_region r h ∙ sym item in
    subst (λ (s : Region). s.start ≤ a → a - s.start + n ≤ s.size →
    located (place l) (addresses a n) ≡ Some (span s.block (a - s.start) None n)) e (located_in l i a n no_region is h)

pub held_item : (lengths : List ℕ) (l : List Region) (i : ℕ) (r : Region) → AreHeld lengths l → i < length l → r ≡ get_or l i r →
    (r.block < length lengths) × (get_or lengths r.block 0 ≡ r.size)
held_item lengths l i r held h item =
    let e : get_or l i no_region ≡ r = get_or_default l i no_region r h ∙ sym item in
    subst (λ (s : Region). (s.block < length lengths) × (get_or lengths s.block 0 ≡ s.size)) e (held_at lengths l i no_region held h)

all_step : (o : Option Place) (k n : ℕ) (t : Bool) → t ≡ eqb k n → (is_some o && t) ≡ eqb (if is_some o then suc k else 0) (suc n)
all_step None k n t e = sym (eqb-zero-suc n)
all_step (Some p) k n t e = e ∙ sym (eqb-suc-suc k n)

-- all are reached exactly if each has a place
pub list_all-reached : (xs : List ℕ) (f : Where) → list_all (λ a. is_some (f a)) xs ≡ eqb (reached f xs) (length xs)
unfolding reached
list_all-reached [] f = refl
list_all-reached (x ∷ xs) f = all_step (f x) (reached f xs) (length xs) (list_all (λ a. is_some (f a)) xs) (list_all-reached xs f)

-- ---- loops over a range, one window further

pub count_step : (f : Where) (addr done len n x : ℕ) (ps : List Place) → x ≡ (addr + done) % 2 ^ 64 → x + n ≤ 2 ^ 64 → done + n ≤ len →
    located f (addresses x n) ≡ Some ps →
    done + n + reached f (circular (addr + (done + n)) (len - (done + n))) ≡ done + reached f (circular (addr + done) (len - done))
count_step f addr done len n x ps e h le at =
    sym (reached_step f _ (addresses x n) _ ps done n (circular_step addr done n len x e h le) at (length-addresses n x))

pub count_none : (f : Where) (addr done len x : ℕ) → x ≡ (addr + done) % 2 ^ 64 → done < len → f x ≡ None →
    reached f (circular (addr + done) (len - done)) ≡ 0
count_none f addr done len x e h at =
    let head = circular_head addr done len x e h in
    ap (reached f) head.1 ∙ reached_none x head.0 f at

pub count_end : (f : Where) (addr done len : ℕ) → len ≤ done → reached f (circular (addr + done) (len - done)) ≡ 0
unfolding reached
count_end f addr done len h = ap (reached f) (circular_done addr done len h)

pub find_step : (f : Where) (addr done len n x : ℕ) (ps old new : List Place) → x ≡ (addr + done) % 2 ^ 64 → x + n ≤ 2 ^ 64 →
    done + n ≤ len → located f (addresses x n) ≡ Some ps → new ≡ old ++ ps →
    after new (located f (circular (addr + (done + n)) (len - (done + n)))) ≡ after old (located f (circular (addr + done) (len - done)))
find_step f addr done len n x ps old new e h le at is =
    sym (found_step f _ (addresses x n) _ ps old new (circular_step addr done n len x e h le) at is)

pub find_none : (f : Where) (addr done len x : ℕ) (old : List Place) → x ≡ (addr + done) % 2 ^ 64 → done < len → f x ≡ None →
    after old (located f (circular (addr + done) (len - done))) ≡ None
find_none f addr done len x old e h at =
    let head = circular_head addr done len x e h in
    ap (after old) (ap (located f) head.1 ∙ located_none x head.0 f at)

pub find_end :
    (f : Where) (addr done len : ℕ) (old : List Place) → len ≤ done → after old (located f (circular (addr + done) (len - done))) ≡ Some old
unfolding located
find_end f addr done len old h = ap (λ (l : List ℕ). after old (located f l)) (circular_done addr done len h) ∙ ap Some (append-nil old)

-- ---- what such a loop has read or written

pub take_circular : (addr done len : ℕ) → done ≤ len → take done (circular addr len) ≡ circular addr done
take_circular addr done len h =
    let count : len ≡ done + (len - done) = omega arith in
    ap (λ k. take done (circular addr k)) count ∙ ap (take done) (circular-append done (len - done) addr)
    ∙ take_at (circular addr done) (circular (addr + done) (len - done)) done (length-circular done addr)

take_step : (addr done len n x : ℕ) → x ≡ (addr + done) % 2 ^ 64 → x + n ≤ 2 ^ 64 → done + n ≤ len →
    take (done + n) (circular addr len) ≡ take done (circular addr len) ++ addresses x n
take_step addr done len n x e h le =
    take_circular addr (done + n) len le ∙ circular-append done n addr
    ∙ ap (λ (l : List ℕ). circular addr done ++ l) (circular-low n (addr + done) x e h)
    ∙ ap (λ (l : List ℕ). l ++ addresses x n) (sym (take_circular addr done len (omega arith)))

-- the rest of a buffer that got more bytes
drop-put : (old bytes : List ℕ) (at n : ℕ) → n ≡ length bytes → at + n ≤ length old →
    drop (at + n) (take at old ++ bytes ++ drop (at + length bytes) old) ≡ drop (at + n) old
drop-put old bytes at n e h =
    let front = length-take-le at old (omega arith) in
    let size : length (take at old ++ bytes) ≡ at + n = omega (arith, length-append (take at old) bytes) in
    drop_at (take at old ++ bytes) (drop (at + length bytes) old) (at + n) size ∙ ap (λ k. drop (at + k) old) (sym e)

pub front_step : (m : Memory) (addr done len n x : ℕ) (ps : List Place) (old bytes new : List ℕ) → x ≡ (addr + done) % 2 ^ 64 →
    x + n ≤ 2 ^ 64 → done + n ≤ len → len ≡ length old →
    located (location m Read) (addresses x n) ≡ Some ps → n ≡ length bytes → bytes ≡ map (byte_in m.host) ps →
    new ≡ take done old ++ bytes ++ drop (done + length bytes) old →
    take done old ≡ map (byte m) (take done (circular addr len)) → take (done + n) new ≡ map (byte m) (take (done + n) (circular addr len))
front_step m addr done len n x ps old bytes new e h le size at count got is front =
    ap (take (done + n)) is ∙ take-put old bytes done n count (omega arith)
    ∙ ap (λ (l : List ℕ). l ++ bytes) front
    ∙ ap (λ (l : List ℕ). map (byte m) (take done (circular addr len)) ++ l) (got ∙ sym (bytes-located (addresses x n) m ps at))
    ∙ sym (map-append (byte m) (take done (circular addr len)) (addresses x n))
    ∙ ap (map (byte m)) (sym (take_step addr done len n x e h le))

pub back_step : (done n : ℕ) (old bytes new whole : List ℕ) → n ≡ length bytes → done + n ≤ length old →
    new ≡ take done old ++ bytes ++ drop (done + length bytes) old →
    drop done old ≡ drop done whole → drop (done + n) new ≡ drop (done + n) whole
back_step done n old bytes new whole count fits is back =
    ap (drop (done + n)) is ∙ drop-put old bytes done n count fits
    ∙ sym (drop-drop n done old) ∙ ap (drop n) back ∙ drop-drop n done whole

zip_front : (a : List ℕ) (d : List ℕ) (k : ℕ) → k ≡ length a → k ≤ length d → zip a d ≡ zip a (take k d)
zip_front a d k e h =
    ap (λ (l : List ℕ). zip l d) (sym (append-nil a)) ∙ zip-append a [] d k (omega arith) ∙ append-nil (zip a (take k d))

pub store_step : (l : List Region) (start : Memory) (h h' : Host) (bytes piece : List ℕ) (addr done len n x : ℕ) (ps : List Place) →
    x ≡ (addr + done) % 2 ^ 64 → x + n ≤ 2 ^ 64 → done + n ≤ len →
    len ≡ length bytes → located (place l) (addresses x n) ≡ Some ps →
    memory_of h l ≡ stored_all start (zip (take done (circular addr len)) bytes) →
    piece ≡ take n (drop done bytes) → h' ≡ put_all h (zip ps piece) →
    memory_of h' l ≡ stored_all start (zip (take (done + n) (circular addr len)) bytes)
store_step l start h h' bytes piece addr done len n x ps e w le size at so cut is =
    let front : length (take done (circular addr len)) ≡ done =
    ap length (take_circular addr done len (omega arith)) ∙ length-circular done addr in
    let left = length-drop done bytes in
    let a : List ℕ = take done (circular addr len) in
    let both : zip a bytes ++ zip (addresses x n) piece ≡ zip (take (done + n) (circular addr len)) bytes =
    ap (λ (s : List (ℕ × ℕ)). s ++ zip (addresses x n) piece) (zip_front a bytes done (sym front) (omega arith))
    ∙ ap (λ (s : List (ℕ × ℕ)). zip a (take done bytes) ++ s)
    (ap (zip (addresses x n)) cut ∙ sym (zip_front (addresses x n) (drop done bytes) n (sym (length-addresses n x)) (omega arith)))
    ∙ sym (zip-append a (addresses x n) bytes done (omega arith))
    ∙ ap (λ (s : List ℕ). zip s bytes) (sym (take_step addr done len n x e w le)) in
    ap (λ (g : Host). memory_of g l) is ∙ sym (stored_all-zip (addresses x n) ps piece l h at)
    ∙ ap (λ (m : Memory). stored_all m (zip (addresses x n) piece)) so
    ∙ sym (stored_all-append (zip a bytes) (zip (addresses x n) piece) start)
    ∙ ap (stored_all start) both

-- ---- the region of an address

-- the region of an address is one of the layout, and has it
pub region_at-Some : (l : List Region) (a : ℕ) (r : Region) → region_at l a ≡ Some r →
    (r.start ≤ a) × (a < r.start + r.size) × (i : ℕ) × (i < length l) × (r ≡ get_or l i r)
unfolding region_at
region_at-Some [] a r e = absurd (cc)
region_at-Some (x ∷ l) a r e =
    elim (is_within x.start x.size a) as (λ b. is_within x.start x.size a ≡ b → (if b then Some x else region_at l a) ≡ Some r →
    (r.start ≤ a) × (a < r.start + r.size) × (i : ℕ) × (i < suc (length l)) × (r ≡ get_or (x ∷ l) i r)) [
      | true ↦ λ inside found.
          let same : x ≡ r = cc in
          let low = within_low x a inside in
          let high = within_high x a inside in
          rw (← same) (low, high, 0, omega arith, refl)
      | false ↦ λ outside found.
          let more = region_at-Some l a r found in
          (more.0, more.1, suc more.2, omega (arith, more.3), more.4)
    ] refl e

pub region_at-None : (l : List Region) (a : ℕ) → region_at l a ≡ None → place l a ≡ None
unfolding region_at place
region_at-None [] a e = refl
region_at-None (x ∷ l) a e =
    elim (is_within x.start x.size a) as (λ b. (if b then Some x else region_at l a) ≡ None →
    option_or (if b then Some (place_at x.block (a - x.start)) else None) (place l a) ≡ None) [
      | true ↦ λ found. absurd (cc)
      | false ↦ λ found. region_at-None l a found
    ] e

-- addresses from one on that lie in its region
pub run_in : (l : List Region) (a n : ℕ) (r : Region) → IsLayout l → Some r ≡ region_at l a → a - r.start + n ≤ r.size →
    located (place l) (addresses a n) ≡ Some (span r.block (a - r.start) None n)
run_in l a n r is found high =
    let here = region_at-Some l a r (sym found) in
    located_item l here.2 a n r is here.3 here.4 here.0 high

pub held_there : (lengths : List ℕ) (l : List Region) (a : ℕ) (r : Region) → AreHeld lengths l → Some r ≡ region_at l a →
    (r.block < length lengths) × (get_or lengths r.block 0 ≡ r.size)
held_there lengths l a r held found =
    let here = region_at-Some l a r (sym found) in
    held_item lengths l here.2 r held here.3 here.4

pub start_below : (l : List Region) (a : ℕ) (r : Region) → Some r ≡ region_at l a → r.start ≤ a
start_below l a r found = (region_at-Some l a r (sym found)).0

pub end_above : (l : List Region) (a : ℕ) (r : Region) → Some r ≡ region_at l a → a < r.start + r.size
end_above l a r found = (region_at-Some l a r (sym found)).1

abbrev pub ok_of : Window → Result Window GuestMemoryError
ok_of w = Ok w

abbrev pub err_of : GuestMemoryError → Result Window GuestMemoryError
err_of e = Err e

refused : (e : GuestMemoryError) (w : Window) → err_of e ≡ ok_of w → ⊥
refused e w h = cc

-- a window that its region has
pub window_is :
    (r : Region) (o n : ℕ) → o + n ≤ r.size → window_in r o n ≡ ok_of (record { block = r.block; offset = o; len = n; io = None })
window_is r o n h =
    let test : nat_le (o + n) r.size ≡ true = grind (arith, nat_tests) in
    ap (λ (b : Bool). if b then ok_of (record { block = r.block; offset = o; len = n; io = None }) else Err InvalidBackendAddress) test

ok_is : (v w : Window) → ok_of v ≡ ok_of w → v ≡ w
ok_is v w e = cc

-- what the window from an address on is, and which addresses it has
window_there :
    (l : List Region) (a most start size : ℕ) (r : Region) (w : Window) → Some r ≡ region_at l a → start ≡ r.start → size ≡ r.size →
    ok_of w ≡ window_in r (a - start) (min (size - (a - start)) most) →
    w ≡ record { block = r.block; offset = a - r.start; len = min (r.size - (a - r.start)) most; io = None }
window_there l a most start size r w found from many e =
    let low = start_below l a r found in
    let high = end_above l a r found in
    ok_is w (record { block = r.block; offset = a - r.start; len = min (r.size - (a - r.start)) most; io = None })
    (e ∙ ap (λ s. window_in r (a - s) (min (size - (a - s)) most)) from
    ∙ ap (λ n. window_in r (a - r.start) (min (n - (a - r.start)) most)) many
    ∙ window_is r (a - r.start) (min (r.size - (a - r.start)) most) (omega arith))

pub window_found : (l : List Region) (a most start size : ℕ) (r : Region) (w : Window) → IsLayout l → Some r ≡ region_at l a →
    start ≡ r.start → size ≡ r.size → 0 < most → r.start + r.size ≤ 2 ^ 64 →
    ok_of w ≡ window_in r (a - start) (min (size - (a - start)) most) →
    (0 < w.len) × (w.len ≤ most) × (a + w.len ≤ 2 ^ 64) × (located (place l) (addresses a w.len) ≡ Some (places_of w))
window_found l a most start size r w is found from many some fits e =
    let low = start_below l a r found in
    let high = end_above l a r found in
    let same = window_there l a most start size r w found from many e in
    let n : ℕ = min (r.size - (a - r.start)) most in
    rw same (omega arith, omega arith, omega arith, run_in l a n r is found (omega arith))

-- it is as long as its region and what is asked for allow
pub window_longest :
    (l : List Region) (a most start size : ℕ) (r : Region) (w : Window) → Some r ≡ region_at l a → start ≡ r.start → size ≡ r.size →
    ok_of w ≡ window_in r (a - start) (min (size - (a - start)) most) → w.len ≡ min most (left_at l a)
window_longest l a most start size r w found from many e =
    let low = start_below l a r found in
    let same = window_there l a most start size r w found from many e in
    ap (λ (v : Window). v.len) same ∙ rw (← found) (omega arith)

pub window_held : (lengths : List ℕ) (l : List Region) (a most start size : ℕ) (r : Region) (w : Window) → Some r ≡ region_at l a →
    start ≡ r.start → size ≡ r.size →
    ok_of w ≡ window_in r (a - start) (min (size - (a - start)) most) → AreHeld lengths l → LiesIn lengths w
window_held lengths l a most start size r w found from many e held =
    let low = start_below l a r found in
    let high = end_above l a r found in
    let same = window_there l a most start size r w found from many e in
    let there = held_there lengths l a r held found in
    rw same (there.0, omega (arith, there.1))

-- the window from an address on is never refused
pub window_refused : (l : List Region) (a most start size : ℕ) (r : Region) (e : GuestMemoryError) → Some r ≡ region_at l a →
    start ≡ r.start → size ≡ r.size →
    err_of e ≡ window_in r (a - start) (min (size - (a - start)) most) → ⊥
window_refused l a most start size r e found from many is =
    let low = start_below l a r found in
    let high = end_above l a r found in
    let there = window_is r (a - start) (min (size - (a - start)) most) (omega arith) in
    refused e _ (is ∙ there)
