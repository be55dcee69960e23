-- The numbers of a script.
use Rattle.std.specs.Prelude.{ℕ, List, Bool, ◌==◌, ◌&&◌, if◌then◌else◌, slice_index, drop}

-- the word begins with `0x`
abbrev pub is_hexadecimal : List ℕ → Bool
is_hexadecimal word = (slice_index word 0 == 48) && (slice_index word 1 == 120)

-- the radix of a word: 16 if it begins with `0x`, else 10
abbrev pub radix_of : List ℕ → ℕ
radix_of word = if is_hexadecimal word then 16 else 10

-- the digits: the word without a leading `0x`
abbrev pub digits_of : List ℕ → List ℕ
digits_of word = if is_hexadecimal word then drop 2 word else word
