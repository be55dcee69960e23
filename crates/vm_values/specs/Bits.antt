-- The bits of a number.
use Rattle.std.specs.Prelude.{ℕ, ◌^◌, Bool, not, ◌==◌, bit_and}

-- whether bit k of a number is 1
abbrev pub has_bit : ℕ → ℕ → Bool
has_bit n k = not (bit_and n (2 ^ k) == 0)
