use Rattle.std.proofs.Common.{◌%◌, ◌/◌, ◌*◌, ◌^◌, ◌≡◌, ℕ, ◌+◌, ◌-◌, ◌≤◌, ◌<◌, slice_index, List, [], ◌∷◌, ◌++◌, length, take, drop, ap, sym}
use Rattle.std.proofs.Common.{◌∙◌, append_assoc, arith}
use Rattle.std.specs.List.{flat_map}
use Rattle.std.specs.Int.{w32, w64, w128, to_le_bytes}
use Rattle.std.proofs.lemmas.Grind.{flat_map-append, common_steps}
use Rattle.std.proofs.Math.ListN.{set}
use Rattle.std.proofs.lemmas.List.{drop-drop, take_all, take_more, take_more_set, take-append-drop, length-take-le, length-drop}
use Rattle.std.proofs.lemmas.Slice.{take-put_mid}
use Rattle.std.proofs.Math.Seq.{take-append-add, take-add}
use borrow.Rule.Slice.PartMut.{put_mid}
use Rattle.vm_values.specs.Fields.{Field, array, d, field_bytes, then_fields, spelled}
use Rattle.vm_values.specs.UniqueProof.{then_is, two_halves}

pub put_at : (a k n : ℕ) (old part : List ℕ) (fs : List Field) → length part ≡ n → a ≤ length old → part ≡ spelled fs →
    take (a + n) (put_mid a k old part) ≡ then_fields (take a old) fs
put_at a k n old part fs l h e =
    take-put_mid a k old part (a + n) (omega arith) h ∙ ap (λ s. take a old ++ s) e ∙ sym (then_is (take a old) fs)

pub get_at : (a k n : ℕ) (xs : List ℕ) (fs : List Field) → k ≡ n → a ≤ length xs → take k (drop a xs) ≡ spelled fs →
    take (a + n) xs ≡ then_fields (take a xs) fs
get_at a k n xs fs l h e =
    take-add a n xs ∙ ap (λ s. take a xs ++ s) (ap (λ m. take m (drop a xs)) (sym l) ∙ e) ∙ sym (then_is (take a xs) fs)

-- what stands behind two parts in a row, each of which leaves it
pub behind_both : (m n : ℕ) (xs ys zs : List ℕ) → m ≤ n → drop n xs ≡ drop n ys → drop m ys ≡ drop m zs → drop n xs ≡ drop n zs
behind_both m n xs ys zs h e f =
    let parts : m + (n - m) ≡ n = omega arith in
    e ∙ ap (λ k. drop k ys) (sym parts) ∙ sym (drop-drop (n - m) m ys) ∙ ap (drop (n - m)) f ∙ drop-drop (n - m) m zs
    ∙ ap (λ k. drop k zs) parts

pub whole : (n : ℕ) (xs ys : List ℕ) → take n xs ≡ ys → n ≡ length xs → xs ≡ ys
whole n xs ys e h = sym (take_all n xs (omega arith)) ∙ e

-- one number more
pub more_array :
    (n k : ℕ) (xs before : List ℕ) → k < length xs → (before ++ field_bytes (array w32 n (take k xs))) ++ field_bytes (d (slice_index xs k))
    ≡ before ++ field_bytes (array w32 n (take (k + 1) xs))
unfolding field_bytes
more_array n k xs before h =
    append_assoc before (flat_map (to_le_bytes w32) (take k xs)) (to_le_bytes w32 (slice_index xs k))
    ∙ ap (λ s. before ++ s)
    (sym (ap (flat_map (to_le_bytes w32)) (take_more xs k 0 h) ∙ flat_map-append (to_le_bytes w32) (take k xs) (slice_index xs k ∷ [])))

pub more_array_set :
    (n k : ℕ) (xs before : List ℕ) (x : ℕ) → k < length xs → (before ++ field_bytes (array w32 n (take k xs))) ++ field_bytes (d x)
    ≡ before ++ field_bytes (array w32 n (take (k + 1) (set xs k x)))
unfolding field_bytes
more_array_set n k xs before x h =
    append_assoc before (flat_map (to_le_bytes w32) (take k xs)) (to_le_bytes w32 x)
    ∙ ap (λ s. before ++ s)
    (sym (ap (flat_map (to_le_bytes w32)) (take_more_set xs k x h) ∙ flat_map-append (to_le_bytes w32) (take k xs) (x ∷ [])))

pub below_set : (k : ℕ) (xs : List ℕ) (x m : ℕ) → k < length xs → ((j : ℕ) → j < k → slice_index xs j < m) → x < m → (j : ℕ) → j < k + 1 →
    slice_index (set xs k x) j < m
below_set k xs x m h f g j l = grind (arith, common_steps, f j)

-- the only byte of a list
pub one_byte : (xs : List ℕ) → length xs ≡ 1 → slice_index xs 0 < 256 → xs ≡ (slice_index xs 0 % 256) ∷ []
one_byte [] l h = absurd (omega (arith, l))
one_byte (x ∷ []) l h = let e : x ≡ x % 256 = omega (arith, h) in ap (λ n. n ∷ []) e
one_byte (x ∷ y ∷ ys) l h = absurd (omega (arith, l))

-- the number of sixteen bytes whose halves are spelled so
pub read_16 : (xs : List ℕ) (low high : ℕ) → length xs ≡ 16 → low < 2 ^ 64 → high < 2 ^ 64 → take 8 xs ≡ to_le_bytes w64 low →
    take (length xs - 8) (drop 8 xs) ≡ to_le_bytes w64 high →
    xs ≡ to_le_bytes w128 (high * 18446744073709551616 + low)
read_16 xs low high len below above l h =
    let n : ℕ = high * 18446744073709551616 + low in
    let a : n % 2 ^ 64 ≡ low = omega arith in
    let b : n / 2 ^ 64 ≡ high = omega arith in
    sym (two_halves n ∙ ap (λ m. to_le_bytes w64 m ++ to_le_bytes w64 (n / 2 ^ 64)) a ∙ ap (λ m. to_le_bytes w64 low ++ to_le_bytes w64 m) b
    ∙ ap (λ s. s ++ to_le_bytes w64 high) (sym l) ∙ ap
    (λ s. take 8 xs ++ s) (sym h ∙ take_all (length xs - 8) (drop 8 xs) (omega (arith, length-drop 8 xs))) ∙ take-append-drop 8 xs)
