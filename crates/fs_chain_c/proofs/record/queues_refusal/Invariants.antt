use Rattle.std.proofs.Common.{All, take}
use Rattle.fs_chain_c.specs.Queues.{IsQueue}
use Rattle.fs_chain_c.specs.Records.{HasNoneOut}
use Rattle.fs_chain_c.proofs.record.queues_refusal.Given as goal

-- each that was looked at is one and has no chain out
abbrev pub invariant-loop-queue : goal.invariant-loop-queue
invariant-loop-queue l = All IsQueue (take l.queue-index l.queues) × All HasNoneOut (take l.queue-index l.queues)
