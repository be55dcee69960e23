-- What the digits of a number keep, one by one.
use Rattle.std.proofs.Common.{◌≡◌, ℕ, ◌+◌, ◌*◌, ◌<◌, ◌≤◌, List, [], ◌∷◌, zero, suc, length, drop, get_or, refl, arith}
use Rattle.std.specs.Char.{digit_value}
use Rattle.std.specs.Str.Parse.{digits_value_after}
use Rattle.std.proofs.Math.Nat.{mul-le-mul_left}

-- a number doesn't shrink by further digits
pub grows : (radix n : ℕ) (digits : List ℕ) → 1 ≤ radix → n ≤ digits_value_after radix n digits
grows radix n [] h = omega arith
grows radix n (c ∷ cs) h =
    let more : n * radix + digit_value c ≤ digits_value_after radix (n * radix + digit_value c) cs =
    grows radix (n * radix + digit_value c) cs h in
    let least : n * 1 ≤ n * radix = mul-le-mul_left n h in
    omega arith

-- a number is at least what its next digit makes of it
pub next_at_least : (radix n : ℕ) (digits : List ℕ) (i : ℕ) → i < length digits → 1 ≤ radix
    → n * radix + digit_value (get_or digits i 0) ≤ digits_value_after radix n (drop i digits)
next_at_least radix n [] i l h = absurd (omega arith)
next_at_least radix n (c ∷ cs) zero l h = grows radix (n * radix + digit_value c) cs h
next_at_least radix n (c ∷ cs) (suc i) l h = next_at_least radix n cs i (omega arith) h

-- no digit is left behind the last
pub drop_all : (digits : List ℕ) (i : ℕ) → length digits ≤ i → drop i digits ≡ []
drop_all [] zero l = refl
drop_all [] (suc i) l = refl
drop_all (c ∷ cs) zero l = absurd (omega arith)
drop_all (c ∷ cs) (suc i) l = drop_all cs i (omega arith)
