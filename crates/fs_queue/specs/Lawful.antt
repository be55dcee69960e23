-- The layouts that a queue may have (VIRTIO 1.2, 2.7).
use Rattle.std.specs.Prelude.{ℕ, ◌+◌, ◌*◌, ◌%◌, ◌^◌, not, ◌||◌, ◌==◌, nat_le, Option, Some, None}
use Rattle.std.specs.Prelude.{if◌then◌else◌}
use Rattle.std.specs.Int.{is_power_of_two}
use Rattle.fs_queue.specs.declared.fault.QueueLayoutError.{QueueLayoutError}
use Rattle.fs_queue.specs.declared.fault.QueueLayoutError.TheVariants.{BadSize, Misaligned, EndOverflow}

-- the first error of a layout, if it has one. The size has to be a power of two, the parts have to be
-- aligned (2.7: 16, 2 and 4 bytes), and their ends have to fit 64 bits
abbrev pub layout_error : (size desc avail used : ℕ) → Option QueueLayoutError
layout_error size desc avail used =
    if not (is_power_of_two size) then Some BadSize
    else if not (desc % 16 == 0) || not (avail % 2 == 0) || not (used % 4 == 0) then Some Misaligned
    else if nat_le (2 ^ 64) (desc + 16 * size) || nat_le (2 ^ 64) (avail + (6 + 2 * size))
    || nat_le (2 ^ 64) (used + (6 + 8 * size)) then Some EndOverflow
    else None
