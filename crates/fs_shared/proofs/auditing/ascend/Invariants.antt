use Rattle.std.proofs.Common.{◌≡◌, ◌<◌, ◌≤◌, ℕ, take}
use Rattle.fs_shared.specs.Audit.{times}
use Rattle.fs_shared.proofs.auditing.ascend.Given as goal

-- those so far have the numbers below the next one, each once
abbrev pub invariant-loop-receipt : goal.invariant-loop-receipt
invariant-loop-receipt l = record {
  at : l.next ≡ l.receipt-index;
  once : (number : ℕ) → number < l.next → times number (take l.receipt-index l.receipts) ≡ 1;
  none : (number : ℕ) → l.next ≤ number → times number (take l.receipt-index l.receipts) ≡ 0;
}
