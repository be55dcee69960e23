use Rattle.std.proofs.Common.{◌≡◌, ◌≤◌, length, take}
use Rattle.fs_chain_c.specs.Records.{restored_over}
use Rattle.fs_chain_c.proofs.record.put_queues.Given as goal

-- the numbers so far stand over what stood there
abbrev pub invariant-loop-k : goal.invariant-loop-k
invariant-loop-k l = record {
  few : l.k ≤ length l.restored;
  fits : length l.queues ≡ length l.initial.queues;
  are : l.queues ≡ restored_over l.initial.queues (take l.k l.restored);
}
