use Rattle.std.proofs.Common.{◌≡◌, ◌≤◌, All, length, map, take, vec_capacity}
use Rattle.fs_chain_c.specs.Queues.{IsQueue}
use Rattle.fs_chain_c.specs.Records.{HasNoneOut, queue_of}
use Rattle.fs_chain_c.proofs.record.queues_of.Given as goal

-- there is a queue for each that was looked at, of which each is one and has no chain out, and room for all
abbrev pub invariant-loop-queue : goal.invariant-loop-queue
invariant-loop-queue l =
    (l.made.items ≡ map queue_of (take l.queue-index l.queues)) × (length l.queues ≤ vec_capacity l.made)
    × All IsQueue (take l.queue-index l.queues) × All HasNoneOut (take l.queue-index l.queues)
