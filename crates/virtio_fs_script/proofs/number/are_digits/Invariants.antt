use Rattle.std.proofs.Common.{drop}
use Rattle.std.specs.Str.Parse.{AllDigits}
use Rattle.virtio_fs_script.proofs.number.are_digits.Given as goal

abbrev pub invariant-loop-digit : goal.invariant-loop-digit
invariant-loop-digit l =
    (AllDigits l.radix (drop l.digit-index l.digits) → AllDigits l.radix l.digits)
    × (AllDigits l.radix l.digits → AllDigits l.radix (drop l.digit-index l.digits))
