-- The bytes of a value: those of its fields in order, without gaps.
use Rattle.std.specs.Prelude.{◌≡◌, ℕ, ◌<◌, ◌^◌, ℤ, pos, List, [], ◌∷◌, ◌++◌, length, slice_index}
use Rattle.std.specs.List.{flat_map}
use Rattle.std.specs.Int.{Width, w8, w16, w32, w64, to_le_bytes, to_be_bytes, cast_unsigned}
use Rattle.std.specs.Int.RustNames.{FitsSigned}
use mir.Val.{bits}

-- a field: an unsigned number, a signed one, a big-endian unsigned one, or n unsigned ones
pub data Field : Type 0 where
  unsigned : Width → ℕ → Field
  signed : Width → ℤ → Field
  big_endian : Width → ℕ → Field
  array : Width → ℕ → List ℕ → Field

-- an unsigned field of one byte
abbrev pub b : ℕ → Field
b n = unsigned w8 n

-- an unsigned field of two bytes
abbrev pub w : ℕ → Field
w n = unsigned w16 n

-- an unsigned field of four bytes
abbrev pub d : ℕ → Field
d n = unsigned w32 n

-- an unsigned field of eight bytes
abbrev pub q : ℕ → Field
q n = unsigned w64 n

-- a signed field of four bytes
abbrev pub i : ℤ → Field
i z = signed w32 z

-- a signed field of eight bytes
abbrev pub l : ℤ → Field
l z = signed w64 z

-- a field of n unsigned numbers of four bytes
abbrev pub ds : ℕ → List ℕ → Field
ds n xs = array w32 n xs

-- the bytes of a field: little-endian, except those of a `big_endian` field
unfoldable pub field_bytes : Field → List ℕ
field_bytes (unsigned w n) = to_le_bytes w n
field_bytes (signed w z) = to_le_bytes w (cast_unsigned w z)
field_bytes (big_endian w n) = to_be_bytes w n
field_bytes (array w n xs) = flat_map (to_le_bytes w) xs

-- each number of the field fits its width, and an array has n numbers
unfoldable pub Fits : Field → Type 0
Fits (unsigned w n) = n < 2 ^ bits w
Fits (signed w z) = FitsSigned w z
Fits (big_endian w n) = n < 2 ^ bits w
Fits (array w n xs) = (length xs ≡ n) × ((k : ℕ) → k < n → slice_index xs k < 2 ^ bits w)

-- the shape of a field: the same field with the number 0, or with no numbers in an array
abbrev pub zero_field : Field → Field
zero_field (unsigned w n) = unsigned w 0
zero_field (signed w z) = signed w (pos 0)
zero_field (big_endian w n) = big_endian w 0
zero_field (array w n xs) = array w n []

-- the bytes before, then those of the fields in order
abbrev pub then_fields : List ℕ → List Field → List ℕ
then_fields before [] = before
then_fields before (f ∷ fs) = then_fields (before ++ field_bytes f) fs

-- the bytes of the fields in their order
abbrev pub spelled : List Field → List ℕ
spelled fs = then_fields [] fs

-- each of the fields fits
abbrev pub AllFit : List Field → Type 0
AllFit [] = Unit {0}
AllFit (f ∷ fs) = Fits f × AllFit fs

-- two values are equal if their fields fit and have the same bytes
abbrev pub HasOneReading : {X : Type 0} → (X → List Field) → Type 0
HasOneReading {X} fields =
    (x y : X) → AllFit (fields x) → AllFit (fields y) → spelled (fields x) ≡ spelled (fields y) → x ≡ y
