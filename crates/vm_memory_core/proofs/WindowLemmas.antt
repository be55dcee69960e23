-- stores through several windows are one list of stores
use Rattle.std.proofs.Common.{◌≡◌, ℕ, ◌+◌, ◌-◌, ◌<◌, ◌≤◌, List, [], ◌∷◌, ◌++◌, length, map, append_assoc, append-nil, get_or, take, drop}
use Rattle.std.proofs.Common.{refl, ap, sym, ◌∙◌, arith}
use Rattle.std.proofs.Common.{zero, suc, min, true, false, Option, Some, length-append, length-drop}
use Rattle.std.specs.Prelude.{if◌then◌else◌, nat_le}
use Rattle.std.proofs.lemmas.Bool.Decides.{nat_tests}
use Rattle.std.specs.List.{zip}
use Rattle.vm_memory_core.specs.Parts.{part_of}
use Rattle.std.proofs.lemmas.List.{length-map, drop_more, drop-drop, take_rest, drop_all, map-append, length-take-le, take_at}
use Rattle.vm_memory_core.specs.Host.{Host, Place}
use Rattle.vm_memory_core.specs.declared.window.IoMarks.{IoMarks}
use Rattle.vm_memory_core.specs.Window.{Window, io_address, io_from, span, with_io, places, places_of, byte_in, put_byte, put_all}

pub length-span : (n block offset : ℕ) (io : Option IoMarks) → length (span block offset io n) ≡ n
unfolding span
length-span zero b offset io = refl
length-span (suc n) b offset io = ap suc (length-span n b (offset + 1) io)

pub put_all-append : (xs ys : List (Place × ℕ)) (h : Host) → put_all h (xs ++ ys) ≡ put_all (put_all h xs) ys
unfolding put_all
put_all-append [] ys h = refl
put_all-append (x ∷ xs) ys h = put_all-append xs ys (put_byte h x.0 x.1)

zip-nil : {X Y : Type 0} (b : List X) → zip {X = Y} b [] ≡ []
zip-nil [] = refl
zip-nil (x ∷ b) = refl

pub zip-append : {X Y : Type 0} (a b : List X) (d : List Y) (k : ℕ) → k ≡ min (length a) (length d) →
    zip (a ++ b) d ≡ zip a (take k d) ++ zip b (drop k d)
zip-append [] b d zero e = refl
zip-append [] b d (suc k) e = absurd (omega arith)
zip-append (x ∷ a) b [] zero e = sym (zip-nil b)
zip-append (x ∷ a) b [] (suc k) e = absurd (omega arith)
zip-append (x ∷ a) b (y ∷ d) zero e = absurd (omega arith)
zip-append {X} {Y} (x ∷ a) b (y ∷ d) (suc k) e = ap (λ (l : List (X × Y)). (x, y) ∷ l) (zip-append a b d k (omega arith))

-- one more window, of which the first k places are stored to
pub places_step : (ws : List Window) (i k done : ℕ) (w : Window) (bytes : List ℕ) (h h' : Host) →
    drop i ws ≡ w ∷ drop (i + 1) ws → k ≡ min w.len (length bytes - done) →
    h' ≡ put_all h (zip (places_of w) (take k (take (length bytes - done) (drop done bytes)))) →
    put_all h' (zip (places (drop (i + 1) ws)) (drop (done + k) bytes)) ≡ put_all h (zip (places (drop i ws)) (drop done bytes))
places_step ws i k done w bytes h h' at k-is stored =
    let n = length-span w.len w.block w.offset w.io in
    let left = length-drop done bytes in
    let cut = zip-append (places_of w) (places (drop (i + 1) ws)) (drop done bytes) k (omega arith) in
    rw (at, cut, stored, take_rest bytes done, put_all-append, drop-drop)

pub length-places_step : (ws : List Window) (i : ℕ) (w : Window) → drop i ws ≡ w ∷ drop (i + 1) ws →
    length (places (drop i ws)) ≡ w.len + length (places (drop (i + 1) ws))
length-places_step ws i w at =
    let n = length-span w.len w.block w.offset w.io in
    rw at (omega (arith, length-append (places_of w) (places (drop (i + 1) ws))))

-- the bytes read so far, one window further
pub bytes_step : (h : Host) (ws : List Window) (i : ℕ) (w : Window) (old piece new : List ℕ) →
    drop i ws ≡ w ∷ drop (i + 1) ws → piece ≡ map (byte_in h) (places_of w) → new ≡ old ++ piece →
    new ++ map (byte_in h) (places (drop (i + 1) ws)) ≡ old ++ map (byte_in h) (places (drop i ws))
bytes_step h ws i w old piece new at p e =
    rw (at, e, p, map-append, append_assoc)

pub bytes_done : (h : Host) (ws : List Window) (i : ℕ) (old : List ℕ) → length ws ≤ i →
    old ≡ old ++ map (byte_in h) (places (drop i ws))
bytes_done h ws i old past =
    let none = drop_all i ws past in
    rw none (sym (append-nil old))

-- the front of a buffer that got more bytes
pub take-put : (old bytes : List ℕ) (at n : ℕ) → n ≡ length bytes → at + n ≤ length old →
    take (at + n) (take at old ++ bytes ++ drop (at + length bytes) old) ≡ take at old ++ bytes
take-put old bytes at n e h =
    let front = length-take-le at old (omega arith) in
    take_at (take at old ++ bytes) (drop (at + length bytes) old) (at + n) (omega (arith, length-append (take at old) bytes))

-- the next item of a list
pub drop_item : {X : Type 0} (xs : List X) (i : ℕ) (x : X) → i < length xs → x ≡ get_or xs i x → drop i xs ≡ x ∷ drop (i + 1) xs
drop_item {X} xs i x lt is = drop_more xs i x lt ∙ ap (λ (y : X). y ∷ drop (i + 1) xs) (sym is)

-- the first places of a span
pub span-part : (n m block offset : ℕ) (io : Option IoMarks) → n ≤ m → span block offset io n ≡ take n (span block offset io m)
unfolding span
span-part zero m b o io h = refl
span-part (suc n) zero b o io h = absurd (omega arith)
span-part (suc n) (suc m) b o io h =
    ap (λ (r : List Place). let p : Place = record { block = b; offset = o; io = io_address o io } in p ∷ r)
    (span-part n m b (o + 1) io (omega arith))

pub places-part : (w : Window) (n : ℕ) → n ≤ w.len → places_of (part_of w 0 n) ≡ take n (places_of w)
places-part w n h =
    let start : w.offset + 0 ≡ w.offset = omega arith in
    ap (λ o. span w.block o w.io n) start ∙ span-part n w.len w.block w.offset w.io h

map-take : {X Y : Type 0} (f : X → Y) (n : ℕ) (l : List X) → map f (take n l) ≡ take n (map f l)
map-take f zero l = refl
map-take f (suc n) [] = refl
map-take {X} {Y} f (suc n) (x ∷ l) = ap (λ (r : List Y). f x ∷ r) (map-take f n l)

pub zip-take : {X Y : Type 0} (a : List X) (b : List Y) (n : ℕ) → n ≡ min (length a) (length b) → zip (take n a) (take n b) ≡ zip a b
zip-take [] b zero e = refl
zip-take [] b (suc n) e = absurd (omega arith)
zip-take (x ∷ a) [] zero e = refl
zip-take (x ∷ a) [] (suc n) e = absurd (omega arith)
zip-take (x ∷ a) (y ∷ b) zero e = absurd (omega arith)
zip-take {X} {Y} (x ∷ a) (y ∷ b) (suc n) e = ap (λ (l : List (X × Y)). (x, y) ∷ l) (zip-take a b n (omega arith))

-- a copy of the bytes that two windows have both
pub zip-parts : (h : Host) (source dest : Window) (n : ℕ) → n ≡ min source.len dest.len →
    zip (places_of (part_of dest 0 n)) (map (byte_in h) (places_of (part_of source 0 n)))
    ≡ zip (places_of dest) (map (byte_in h) (places_of source))
zip-parts h source dest n e =
    let to = length-span dest.len dest.block dest.offset dest.io in
    let from = length-span source.len source.block source.offset source.io in
    let read = length-map (places_of source) (byte_in h) in
    rw (places-part dest n (omega arith), places-part source n (omega arith), map-take (byte_in h) n (places_of source))
    (zip-take (places_of dest) (map (byte_in h) (places_of source)) n (omega arith))

-- bytes past the last place are not stored
pub zip-take_right : {X Y : Type 0} (a : List X) (b : List Y) (n : ℕ) → n ≡ length a → zip a (take n b) ≡ zip a b
zip-take_right [] b n e = refl
zip-take_right (x ∷ a) b zero e = absurd (omega arith)
zip-take_right (x ∷ a) [] (suc n) e = refl
zip-take_right {X} {Y} (x ∷ a) (y ∷ b) (suc n) e = ap (λ (l : List (X × Y)). (x, y) ∷ l) (zip-take_right a b n (omega arith))

-- ---- windows of I/O addresses

from_address : (o a k : ℕ) (set : ℕ) → io_address (o + k) (Some (io_from set a o)) ≡ Some (record { set = set; address = a + k })
from_address o a k set =
    elim (nat_le o a) as (λ b. nat_le o a ≡ b → io_address (o + k)
    (Some (if b then record { set = set; base = a - o; from = 0 } else record { set = set; base = 0; from = o - a })) ≡ Some
    (record { set = set; address = a + k })) [
      | true ↦ λ le. let low : o ≤ a = grind (arith, nat_tests) in let same : a - o + (o + k - 0) ≡ a + k = omega arith in
          ap (λ x. Some (record { set = set; address = x })) same
      | false ↦ λ gt. let high : a < o = grind (arith, nat_tests) in let same : 0 + (o + k - (o - a)) ≡ a + k = omega arith in
          ap (λ x. Some (record { set = set; address = x })) same
    ] refl

span_io : (n b o a k set : ℕ) (io : Option IoMarks) → span b (o + k) (Some (io_from set a o)) n ≡ with_io set (a + k) (span b (o + k) io n)
unfolding span
span_io zero b o a k set io = refl
span_io (suc n) b o a k set io =
    let at : o + k + 1 ≡ o + (k + 1) = omega arith in
    let to : a + k + 1 ≡ a + (k + 1) = omega arith in
    let more = span_io n b o a (k + 1) set io in
    rw (from_address o a k set, at, to)
    (ap (λ (ps : List Place). record { block = b; offset = o + k; io = Some (record { set = set; address = a + k }) } ∷ ps) more)

pub places_replaced : (w : Window) (set a : ℕ) → with_io set a (places_of w) ≡ places_of (record w { io = Some (io_from set a w.offset) })
places_replaced w set a =
    let o : w.offset + 0 ≡ w.offset = omega arith in
    let x : a + 0 ≡ a = omega arith in
    sym (rw (o, x) at (span_io w.len w.block w.offset a 0 set w.io))

-- where the addresses lie above the offsets, and where they lie below them
pub places_above : (b o n set a : ℕ) (io : Option IoMarks) → o ≤ a →
    span b o (Some (record { set = set; base = a - o; from = 0 })) n ≡ with_io set a (span b o io n)
places_above b o n set a io le =
    let yes : nat_le o a ≡ true = grind (arith, nat_tests) in
    let same : io_from set a o ≡ record { set = set; base = a - o; from = 0 } = rw yes refl in
    ap (λ (m : IoMarks). span b o (Some m) n) (sym same) ∙ sym (places_replaced (record { block = b; offset = o; len = n; io = io }) set a)

pub places_below : (b o n set a : ℕ) (io : Option IoMarks) → a < o →
    span b o (Some (record { set = set; base = 0; from = o - a })) n ≡ with_io set a (span b o io n)
places_below b o n set a io lt =
    let no : nat_le o a ≡ false = grind (arith, nat_tests) in
    let same : io_from set a o ≡ record { set = set; base = 0; from = o - a } = rw no refl in
    ap (λ (m : IoMarks). span b o (Some m) n) (sym same) ∙ sym (places_replaced (record { block = b; offset = o; len = n; io = io }) set a)
