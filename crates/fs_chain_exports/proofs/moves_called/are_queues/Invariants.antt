use Rattle.std.proofs.Common.{All, take}
use Rattle.fs_chain_c.specs.Moving.{HasItsWidths, HasState}
use Rattle.fs_chain_exports.proofs.moves_called.are_queues.Given as goal

-- the numbers of each queue so far are valid
abbrev pub invariant-loop-queue : goal.invariant-loop-queue
invariant-loop-queue l = All HasState (take l.queue-index l.queues) × All HasItsWidths (take l.queue-index l.queues)
