-- Where a step doesn't fit, neither does the whole number; and at the end no digit is left.
use Rattle.std.proofs.Common.{◌≡◌, ◌≤◌, ◌+◌, ◌*◌, drop, get_or, [], ap, arith}
use Rattle.std.specs.Char.{digit_value}
use Rattle.std.specs.Str.Parse.{AllDigits, digits_value, digits_value_after}
use Rattle.virtio_fs_script.proofs.Digits.{next_at_least, drop_all}
use Rattle.virtio_fs_script.proofs.number.parse_digits.Goals as goal

pub returns-in_err-checked_mul : goal.returns-in_err-checked_mul
returns-in_err-checked_mul c =
    rw c.from_residual-in_err-checked_mul.ensures (λ p.
    let ds = c.args.digits.now in
    let n = c.loop-digit.value in
    let least : n * c.args.radix + digit_value (get_or ds c.loop-digit.digit-index 0)
    ≤ digits_value_after c.args.radix n (drop c.loop-digit.digit-index ds)
    = next_at_least c.args.radix n ds c.loop-digit.digit-index (omega arith) (omega arith) in
    let same : n * c.from-in-loop-digit.result ≡ n * c.args.radix = ap (λ x. n * x) c.from-in-loop-digit.ensures in
    c.in_err-checked_mul.ensures (omega (arith, p.1, c.loop-digit.invariant.1)))

pub returns-in_err-value : goal.returns-in_err-value
returns-in_err-value c =
    rw c.from_residual-in_err-value.ensures (λ p.
    let ds = c.args.digits.now in
    let n = c.loop-digit.value in
    let least : n * c.args.radix + digit_value (get_or ds c.loop-digit.digit-index 0)
    ≤ digits_value_after c.args.radix n (drop c.loop-digit.digit-index ds)
    = next_at_least c.args.radix n ds c.loop-digit.digit-index (omega arith) (omega arith) in
    let same : n * c.from-in-loop-digit.result ≡ n * c.args.radix = ap (λ x. n * x) c.from-in-loop-digit.ensures in
    let digit : digit_value c.from.result ≡ digit_value (get_or ds c.loop-digit.digit-index 0) = ap digit_value c.from.ensures in
    c.in_err-value.ensures (omega (arith, p.1, c.loop-digit.invariant.1, c.in_ok-digit.ensures.value, c.in_ok-checked_mul.ensures)))

pub returns : goal.returns
returns c =
    let end : drop c.loop-digit.digit-index c.args.digits.now ≡ [] = drop_all c.args.digits.now c.loop-digit.digit-index (omega arith) in
    let value : c.loop-digit.value ≡ digits_value c.args.radix c.args.digits.now = rw end at c.loop-digit.invariant.1 in
    let all : AllDigits c.args.radix c.args.digits.now = c.loop-digit.invariant.2 (rw end tt) in
    (((c.loop-digit.invariant.0, all), omega (arith, c.loop-digit.invariant.4)), value)
