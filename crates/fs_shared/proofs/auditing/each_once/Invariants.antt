use Rattle.std.proofs.Common.{◌≡◌, ◌<◌, ℕ}
use Rattle.fs_shared.specs.Audit.{times}
use Rattle.fs_shared.proofs.auditing.each_once.Given as goal

-- those so far
abbrev pub invariant-loop-number : goal.invariant-loop-number
invariant-loop-number l = (number : ℕ) → number < l.number → times number l.receipts ≡ 1
