-- Fields of one shape that fit and have the same bytes are equal: a lemma with its proof. It is among the
-- definitions because the trait `ByteValued` cites it. Nothing here has to be believed: all of it is checked,
-- and no contract uses it.
use Rattle.std.proofs.Common.{◌≡◌, ℕ, zero, suc, ◌+◌, ◌<◌, ◌^◌, ◌/◌, ◌%◌, List, [], ◌∷◌, ◌++◌, length, map}
use Rattle.std.proofs.Common.{reverse, take, drop, slice_index, refl, ap, sym, ◌∙◌, arith}
use Rattle.std.proofs.Common.{length-append, append_assoc, append-nil}
use Rattle.std.specs.List.{flat_map}
use Rattle.std.specs.Int.{Width, w8, w16, w32, w64, w128, to_le_bytes, to_be_bytes, from_le_bytes, byte_len}
use Rattle.std.specs.Int.{bytes_low_first, cast_unsigned, cast_signed}
use Rattle.std.specs.Int.RustNames.{FitsSigned}
use Rattle.std.proofs.lemmas.Nat.{from_le_bytes-to_le_bytes_2, from_le_bytes-to_le_bytes_4}
use Rattle.std.proofs.lemmas.Nat.{from_le_bytes-to_le_bytes_8}
use Rattle.std.proofs.lemmas.Int.{to_z-of_z}
use Rattle.std.proofs.lemmas.List.{take_at, drop_at, reverse-reverse}
use Rattle.std.proofs.Math.Facts.{Fits-of_z}
use Rattle.std.proofs.Math.Nat.{div-div-eq-div-mul}
use mir.Val.{bits}
use Rattle.vm_values.specs.Fields.{Field, unsigned, signed, big_endian, array, field_bytes, Fits, AllFit}
use Rattle.vm_values.specs.Fields.{zero_field, then_fields, spelled}

length_low : (i k n : ℕ) → length (bytes_low_first i k n) ≡ k
length_low i zero n = refl
length_low i (suc k) n = ap suc (length_low (suc i) k n)

length-number : (v : Width) (n : ℕ) → length (to_le_bytes v n) ≡ byte_len v
length-number v n = length_low 0 (byte_len v) n

-- the bytes of a sixteen-byte number are those of its low half, then those of its high half
pub two_halves : (n : ℕ) → to_le_bytes w128 n ≡ to_le_bytes w64 (n % 2 ^ 64) ++ to_le_bytes w64 (n / 2 ^ 64)
two_halves n =
    let low_0 : n % 256 ≡ n % 18446744073709551616 % 256 = omega arith in
    let low_1 : n / 256 % 256 ≡ n % 18446744073709551616 / 256 % 256 = omega arith in
    let low_2 : n / 65536 % 256 ≡ n % 18446744073709551616 / 65536 % 256 = omega arith in
    let low_3 : n / 16777216 % 256 ≡ n % 18446744073709551616 / 16777216 % 256 = omega arith in
    let low_4 : n / 4294967296 % 256 ≡ n % 18446744073709551616 / 4294967296 % 256 = omega arith in
    let low_5 : n / 1099511627776 % 256 ≡ n % 18446744073709551616 / 1099511627776 % 256 = omega arith in
    let low_6 : n / 281474976710656 % 256 ≡ n % 18446744073709551616 / 281474976710656 % 256 = omega arith in
    let low_7 : n / 72057594037927936 % 256 ≡ n % 18446744073709551616 / 72057594037927936 % 256 =
    omega arith in
    let high_0 : n / 18446744073709551616 % 256 ≡ n / 18446744073709551616 % 256 = refl in
    let high_1 : n / 4722366482869645213696 % 256 ≡ n / 18446744073709551616 / 256 % 256 =
    ap (λ m. m % 256) (sym (div-div-eq-div-mul n 18446744073709551616 256)) in
    let high_2 : n / 1208925819614629174706176 % 256 ≡ n / 18446744073709551616 / 65536 % 256 =
    ap (λ m. m % 256) (sym (div-div-eq-div-mul n 18446744073709551616 65536)) in
    let high_3 : n / 309485009821345068724781056 % 256 ≡ n / 18446744073709551616 / 16777216 % 256 =
    ap (λ m. m % 256) (sym (div-div-eq-div-mul n 18446744073709551616 16777216)) in
    let high_4 : n / 79228162514264337593543950336 % 256 ≡ n / 18446744073709551616 / 4294967296 % 256 =
    ap (λ m. m % 256) (sym (div-div-eq-div-mul n 18446744073709551616 4294967296)) in
    let high_5 : n / 20282409603651670423947251286016 % 256 ≡ n / 18446744073709551616 / 1099511627776 % 256 =
    ap (λ m. m % 256) (sym (div-div-eq-div-mul n 18446744073709551616 1099511627776)) in
    let high_6 : n / 5192296858534827628530496329220096 % 256
    ≡ n / 18446744073709551616 / 281474976710656 % 256 = ap (λ m. m % 256)
    (sym (div-div-eq-div-mul n 18446744073709551616 281474976710656)) in
    let high_7 : n / 1329227995784915872903807060280344576 % 256
    ≡ n / 18446744073709551616 / 72057594037927936 % 256 = ap (λ m. m % 256)
    (sym (div-div-eq-div-mul n 18446744073709551616 72057594037927936)) in
    λ i. low_0 i ∷ low_1 i ∷ low_2 i ∷ low_3 i ∷ low_4 i ∷ low_5 i ∷ low_6 i ∷ low_7 i ∷ high_0 i ∷ high_1 i
    ∷ high_2 i ∷ high_3 i ∷ high_4 i ∷ high_5 i ∷ high_6 i ∷ high_7 i ∷ []

-- if two appended pairs are equal and their first lists have one length, their parts are equal
pub halves : (a b s t : List ℕ) → length a ≡ length b → a ++ s ≡ b ++ t → (a ≡ b) × (s ≡ t)
halves a b s t l e = (
  sym (take_at a s (length b) l) ∙ ap (take (length b)) e ∙ take_at b t (length b) refl,
  sym (drop_at a s (length b) l) ∙ ap (drop (length b)) e ∙ drop_at b t (length b) refl,
)

number_once_64 : (m n : ℕ) → m < 2 ^ 64 → n < 2 ^ 64 → to_le_bytes w64 m ≡ to_le_bytes w64 n → m ≡ n
number_once_64 m n hm hn e =
    sym (from_le_bytes-to_le_bytes_8 m hm) ∙ ap (from_le_bytes w64) e ∙ from_le_bytes-to_le_bytes_8 n hn

number_once :
    (v : Width) (m n : ℕ) → m < 2 ^ bits v → n < 2 ^ bits v → to_le_bytes v m ≡ to_le_bytes v n → m ≡ n
number_once w8 m n hm hn e =
    let h : slice_index (to_le_bytes w8 m) 0 ≡ slice_index (to_le_bytes w8 n) 0 =
    ap (λ s. slice_index s 0) e in
    omega (arith, h, hm, hn)
number_once w16 m n hm hn e =
    sym (from_le_bytes-to_le_bytes_2 m hm) ∙ ap (from_le_bytes w16) e ∙ from_le_bytes-to_le_bytes_2 n hn
number_once w32 m n hm hn e =
    sym (from_le_bytes-to_le_bytes_4 m hm) ∙ ap (from_le_bytes w32) e ∙ from_le_bytes-to_le_bytes_4 n hn
number_once w64 m n hm hn e = number_once_64 m n hm hn e
number_once w128 m n hm hn e =
    let p = halves (to_le_bytes w64 (m % 2 ^ 64)) (to_le_bytes w64 (n % 2 ^ 64)) (to_le_bytes w64
    (m / 2 ^ 64)) (to_le_bytes w64 (n / 2 ^ 64)) refl (sym (two_halves m) ∙ e ∙ two_halves n) in
    let a : m % 2 ^ 64 ≡ n % 2 ^ 64 =
    number_once_64 (m % 2 ^ 64) (n % 2 ^ 64) (omega arith) (omega arith) p.0 in
    let b : m / 2 ^ 64 ≡ n / 2 ^ 64 =
    number_once_64 (m / 2 ^ 64) (n / 2 ^ 64) (omega arith) (omega arith) p.1 in
    omega (arith, a, b)

-- the big-endian bytes are the little-endian bytes, reversed
be_is_reverse : (v : Width) (n : ℕ) → to_be_bytes v n ≡ reverse (to_le_bytes v n)
be_is_reverse w8 n = refl
be_is_reverse w16 n = refl
be_is_reverse w32 n = refl
be_is_reverse w64 n = refl
be_is_reverse w128 n = refl

be_once : (v : Width) (m n : ℕ) → m < 2 ^ bits v → n < 2 ^ bits v → to_be_bytes v m ≡ to_be_bytes v n → m ≡ n
be_once v m n hm hn e =
    number_once v m n hm hn (sym (reverse-reverse (to_le_bytes v m))
    ∙ ap reverse (sym (be_is_reverse v m) ∙ e ∙ be_is_reverse v n) ∙ reverse-reverse (to_le_bytes v n))

length_be : (v : Width) (n : ℕ) → length (to_be_bytes v n) ≡ byte_len v
length_be w8 n = refl
length_be w16 n = refl
length_be w32 n = refl
length_be w64 n = refl
length_be w128 n = refl

pub then_is : (before : List ℕ) (fs : List Field) → then_fields before fs ≡ before ++ spelled fs
then_is before [] = sym (append-nil before)
then_is before (f ∷ fs) =
    then_is (before ++ field_bytes f) fs ∙ append_assoc before (field_bytes f) (spelled fs)
    ∙ ap (λ s. before ++ s) (sym (then_is (field_bytes f) fs))

numbers_once : (v : Width) (xs ys : List ℕ) → length xs ≡ length ys →
    ((k : ℕ) → k < length xs → slice_index xs k < 2 ^ bits v) →
    ((k : ℕ) → k < length ys → slice_index ys k < 2 ^ bits v) →
    flat_map (to_le_bytes v) xs ≡ flat_map (to_le_bytes v) ys → xs ≡ ys
numbers_once v [] [] l f g e = refl
numbers_once v [] (y ∷ ys) l f g e = absurd (omega (arith, l))
numbers_once v (x ∷ xs) [] l f g e = absurd (omega (arith, l))
numbers_once v (x ∷ xs) (y ∷ ys) l f g e =
    let p = halves (to_le_bytes v x) (to_le_bytes v y) (flat_map (to_le_bytes v) xs)
    (flat_map (to_le_bytes v) ys) (length-number v x ∙ sym (length-number v y)) e in
    let a : x ≡ y = number_once v x y (f 0 (omega arith)) (g 0 (omega arith)) p.0 in
    let b : xs ≡ ys = numbers_once v xs ys (omega (arith, l)) (λ k q. f (suc k) (omega (arith, q)))
    (λ k q. g (suc k) (omega (arith, q))) p.1 in
    cc

length-numbers : (v : Width) (xs ys : List ℕ) → length xs ≡ length ys →
    length (flat_map (to_le_bytes v) xs) ≡ length (flat_map (to_le_bytes v) ys)
length-numbers v [] [] l = refl
length-numbers v [] (y ∷ ys) l = absurd (omega (arith, l))
length-numbers v (x ∷ xs) [] l = absurd (omega (arith, l))
length-numbers v (x ∷ xs) (y ∷ ys) l = length-append (to_le_bytes v x) (flat_map (to_le_bytes v) xs)
    ∙ ap (λ n. n + length (flat_map (to_le_bytes v) xs)) (length-number v x ∙ sym (length-number v y))
    ∙ ap (λ n. length (to_le_bytes v y) + n) (length-numbers v xs ys (omega (arith, l)))
    ∙ sym (length-append (to_le_bytes v y) (flat_map (to_le_bytes v) ys))

-- two fields of one shape that fit have the same number of bytes
same_length : (f g : Field) → zero_field f ≡ zero_field g → Fits f → Fits g →
    length (field_bytes f) ≡ length (field_bytes g)
unfolding field_bytes Fits
same_length (unsigned v m) (unsigned v' n) e p r =
    let a : v ≡ v' = cc in length-number v m ∙ ap byte_len a ∙ sym (length-number v' n)
same_length (big_endian v m) (big_endian v' n) e p r =
    let a : v ≡ v' = cc in length_be v m ∙ ap byte_len a ∙ sym (length_be v' n)
same_length (signed v m) (signed v' n) e p r =
    let a : v ≡ v' = cc in
    length-number v (cast_unsigned v m) ∙ ap byte_len a ∙ sym (length-number v' (cast_unsigned v' n))
same_length (array v n xs) (array v' n' ys) e p r =
    let a : v ≡ v' = cc in
    let b : n ≡ n' = cc in
    length-numbers v xs ys (p.0 ∙ b ∙ sym r.0) ∙ ap (λ u. length (flat_map (to_le_bytes u) ys)) a
same_length (unsigned v m) (signed v' n) e p r = absurd (cc)
same_length (unsigned v m) (big_endian v' n) e p r = absurd (cc)
same_length (unsigned v m) (array v' n ys) e p r = absurd (cc)
same_length (signed v m) (unsigned v' n) e p r = absurd (cc)
same_length (signed v m) (big_endian v' n) e p r = absurd (cc)
same_length (signed v m) (array v' n ys) e p r = absurd (cc)
same_length (big_endian v m) (unsigned v' n) e p r = absurd (cc)
same_length (big_endian v m) (signed v' n) e p r = absurd (cc)
same_length (big_endian v m) (array v' n ys) e p r = absurd (cc)
same_length (array v m xs) (unsigned v' n) e p r = absurd (cc)
same_length (array v m xs) (signed v' n) e p r = absurd (cc)
same_length (array v m xs) (big_endian v' n) e p r = absurd (cc)

-- two fields of one shape that fit and have the same bytes are equal
field_once :
    (f g : Field) → zero_field f ≡ zero_field g → Fits f → Fits g → field_bytes f ≡ field_bytes g → f ≡ g
unfolding field_bytes Fits
field_once (unsigned v m) (unsigned v' n) e p r b =
    let a : v ≡ v' = cc in
    let below : n < 2 ^ bits v = rw a r in
    let c : m ≡ n = number_once v m n p below (b ∙ ap (λ u. to_le_bytes u n) (sym a)) in
    cc
field_once (signed v m) (signed v' n) e p r b =
    let a : v ≡ v' = cc in
    let fits : FitsSigned v n = rw a r in
    let c : cast_unsigned v m ≡ cast_unsigned v n =
    number_once v (cast_unsigned v m) (cast_unsigned v n) (Fits-of_z p).fits (Fits-of_z fits).fits
    (b ∙ ap (λ u. to_le_bytes u (cast_unsigned u n)) (sym a)) in
    let x : m ≡ n = sym (to_z-of_z v m p) ∙ ap (cast_signed v) c ∙ to_z-of_z v n fits in
    cc
field_once (big_endian v m) (big_endian v' n) e p r b =
    let a : v ≡ v' = cc in
    let below : n < 2 ^ bits v = rw a r in
    let c : m ≡ n = be_once v m n p below (b ∙ ap (λ u. to_be_bytes u n) (sym a)) in
    cc
field_once (array v n xs) (array v' n' ys) e p r b =
    let a : v ≡ v' = cc in
    let c : n ≡ n' = cc in
    let below : (k : ℕ) → k < n' → slice_index ys k < 2 ^ bits v = rw a r.1 in
    let x : xs ≡ ys = numbers_once v xs ys (p.0 ∙ c ∙ sym r.0) (λ k q. p.1 k (omega (arith, q, p.0)))
    (λ k q. below k (omega (arith, q, r.0))) (b ∙ ap (λ u. flat_map (to_le_bytes u) ys) (sym a)) in
    cc
field_once (unsigned v m) (signed v' n) e p r b = absurd (cc)
field_once (unsigned v m) (big_endian v' n) e p r b = absurd (cc)
field_once (unsigned v m) (array v' n ys) e p r b = absurd (cc)
field_once (signed v m) (unsigned v' n) e p r b = absurd (cc)
field_once (signed v m) (big_endian v' n) e p r b = absurd (cc)
field_once (signed v m) (array v' n ys) e p r b = absurd (cc)
field_once (big_endian v m) (unsigned v' n) e p r b = absurd (cc)
field_once (big_endian v m) (signed v' n) e p r b = absurd (cc)
field_once (big_endian v m) (array v' n ys) e p r b = absurd (cc)
field_once (array v m xs) (unsigned v' n) e p r b = absurd (cc)
field_once (array v m xs) (signed v' n) e p r b = absurd (cc)
field_once (array v m xs) (big_endian v' n) e p r b = absurd (cc)

spelled-cons : (f : Field) (fs : List Field) → spelled (f ∷ fs) ≡ field_bytes f ++ spelled fs
spelled-cons f fs = then_is (field_bytes f) fs

-- fields of one shape that fit and have the same bytes are equal
pub fields_once : (fs gs : List Field) → map zero_field fs ≡ map zero_field gs → AllFit fs → AllFit gs →
    spelled fs ≡ spelled gs → fs ≡ gs
fields_once [] [] e p r b = refl
fields_once [] (g ∷ gs) e p r b = absurd (cc)
fields_once (f ∷ fs) [] e p r b = absurd (cc)
fields_once (f ∷ fs) (g ∷ gs) e p r b =
    let s : zero_field f ≡ zero_field g = cc in
    let t : map zero_field fs ≡ map zero_field gs = cc in
    let q = halves (field_bytes f) (field_bytes g) (spelled fs) (spelled gs) (same_length f g s p.0 r.0)
    (sym (spelled-cons f fs) ∙ b ∙ spelled-cons g gs) in
    let x : f ≡ g = field_once f g s p.0 r.0 q.0 in
    let y : fs ≡ gs = fields_once fs gs t p.1 r.1 q.1 in
    cc
