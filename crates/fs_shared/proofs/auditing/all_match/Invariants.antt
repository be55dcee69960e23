use Rattle.std.proofs.Common.{All, take}
use Rattle.fs_shared.specs.Audit.{MatchesJournal}
use Rattle.fs_shared.proofs.auditing.all_match.Given as goal

-- those so far
abbrev pub invariant-loop-receipt : goal.invariant-loop-receipt
invariant-loop-receipt l = All (MatchesJournal l.journal) (take l.receipt-index l.receipts)
