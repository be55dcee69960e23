use Rattle.std.proofs.Common.{◌≡◌, ◌<◌, ◌^◌, length, drop}
use Rattle.std.specs.Str.Parse.{AllDigits, digits_value, digits_value_after}
use Rattle.virtio_fs_script.proofs.number.parse_digits.Given as goal

abbrev pub invariant-loop-digit : goal.invariant-loop-digit
invariant-loop-digit l =
    (0 < length l.digits)
    × (digits_value_after l.radix l.value (drop l.digit-index l.digits) ≡ digits_value l.radix l.digits)
    × (AllDigits l.radix (drop l.digit-index l.digits) → AllDigits l.radix l.digits)
    × (AllDigits l.radix l.digits → AllDigits l.radix (drop l.digit-index l.digits))
    × (l.value < 2 ^ 64)
