use Rattle.std.proofs.Common.{◌≡◌, ◌≤◌, take}
use Rattle.fs_shared.specs.Audit.{times}
use Rattle.fs_shared.proofs.auditing.times.Given as goal

-- those so far
abbrev pub invariant-loop-receipt : goal.invariant-loop-receipt
invariant-loop-receipt l = (l.count ≡ times l.number (take l.receipt-index l.receipts)) × (l.count ≤ l.receipt-index)
