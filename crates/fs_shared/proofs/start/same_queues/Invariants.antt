use Rattle.std.proofs.Common.{◌≡◌, take}
use Rattle.fs_shared.proofs.start.same_queues.Given as goal

abbrev pub invariant-loop-number : goal.invariant-loop-number
invariant-loop-number g l = l.copies.items ≡ take l.number l.device.queues
