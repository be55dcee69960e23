-- The numbers of refusals.
use Rattle.std.specs.Prelude.{ℕ}
use Rattle.fs_queue.specs.Numbers.{queue_number}
use Rattle.plain_machine.specs.declared.error.DeviceError.{DeviceError}
use Rattle.plain_machine.specs.declared.error.DeviceError.TheVariants as device
use Rattle.plain_machine.specs.declared.refusal.Refusal.{Refusal}
use Rattle.plain_machine.specs.declared.refusal.Refusal.TheVariants as why

-- the number of a step's refusal: that of a queue's error, and 10 for a missing queue
abbrev pub refusal_number : DeviceError → ℕ
refusal_number (device.Queue e) = queue_number e
refusal_number device.NoSuchQueue = 10

-- the number of a command's refusal
abbrev pub command_refusal_number : Refusal → ℕ
command_refusal_number why.NoPlace = 1
command_refusal_number why.EmptyBlock = 2
command_refusal_number why.UnknownBlock = 3
command_refusal_number why.BadRegion = 4
command_refusal_number why.Overlap = 5
command_refusal_number why.NoRegion = 6
command_refusal_number why.BadMapping = 7
command_refusal_number why.NoSuchQueue = 8
command_refusal_number why.OutOfMemory = 9
