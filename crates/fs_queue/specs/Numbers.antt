-- The numbers of faults and refusals.
use Rattle.std.specs.Prelude.{ℕ}
use Rattle.fs_queue.specs.declared.fault.ChainFault.{ChainFault}
use Rattle.fs_queue.specs.declared.fault.ChainFault.TheVariants as fault
use Rattle.fs_queue.specs.declared.fault.QueueError.{QueueError}
use Rattle.fs_queue.specs.declared.fault.QueueError.TheVariants as stop
use Rattle.fs_queue.specs.declared.fault.QueueLayoutError.{QueueLayoutError}
use Rattle.fs_queue.specs.declared.fault.QueueLayoutError.TheVariants as layout

-- the number of a chain's fault, 1 to 10
abbrev pub chain_fault_number : ChainFault → ℕ
chain_fault_number fault.TooLong = 1
chain_fault_number fault.NextOutOfTable = 2
chain_fault_number fault.AddressOverflow = 3
chain_fault_number fault.IndirectWithNext = 4
chain_fault_number fault.IndirectNested = 5
chain_fault_number fault.IndirectLength = 6
chain_fault_number fault.TableUnreachable = 7
chain_fault_number fault.OverLimit = 8
chain_fault_number fault.RequestUnreachable = 9
chain_fault_number fault.RoomUnreachable = 10

-- the number of a queue's refusal, 1 to 9
abbrev pub queue_number : QueueError → ℕ
queue_number stop.Stopped = 1
queue_number stop.AvailIndexUnreachable = 2
queue_number stop.AvailTooFar = 3
queue_number stop.RingEntryUnreachable = 4
queue_number stop.HeadOutOfTable = 5
queue_number stop.UsedUnreachable = 6
queue_number stop.AvailFlagsUnreachable = 7
queue_number stop.DescriptorUnreachable = 8
queue_number stop.OutOfMemory = 9

-- the number of a layout's error, 1 to 3
abbrev pub layout_error_number : QueueLayoutError → ℕ
layout_error_number layout.BadSize = 1
layout_error_number layout.Misaligned = 2
layout_error_number layout.EndOverflow = 3
