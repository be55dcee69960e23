use Rattle.std.proofs.Common.{◌≤◌, length}
use Rattle.fs_chain_c.specs.Records.{FitBefore}
use Rattle.fs_chain_c.proofs.record.unfit_status.Given as goal

-- those that were looked at fit
abbrev pub invariant-loop-k : goal.invariant-loop-k
invariant-loop-k l = (l.k ≤ length l.restored) × FitBefore l.queues l.restored l.k
