use Rattle.std.proofs.Common.{List, All, subst, refl}
use Rattle.std.proofs.lemmas.List.{take_all}
use Rattle.std.proofs.lemmas.List.Elements.{All-more}
use Rattle.fs_shared.specs.declared.entry.Receipt.{Receipt}
use Rattle.fs_shared.specs.Audit.{MatchesJournal}
use Rattle.fs_shared.proofs.auditing.all_match.Goals as goal

pub loop-receipt-preserved : goal.loop-receipt-preserved
loop-receipt-preserved c =
    let P = λ (r : Receipt). MatchesJournal c.args.journal.now r in
    let matched : P c.receipt-item.result = c.matches_journal.ensures.0 c.if-not-matches_journal.false in
    All-more P c.args.receipts.now c.loop-receipt.receipt-index c.receipt-item.result c.loop-receipt-test.true c.loop-receipt.invariant
    (subst P c.receipt-item.is matched)

pub returns : goal.returns
returns c = (
  λ _. subst (λ (rs : List Receipt). All (MatchesJournal c.args.journal.now) rs)
      (take_all c.loop-receipt.receipt-index c.args.receipts.now c.loop-receipt-test.false) c.loop-receipt.invariant,
  λ _. refl,
)
