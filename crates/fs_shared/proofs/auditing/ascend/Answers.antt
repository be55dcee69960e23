use Rattle.std.proofs.Common.{◌≡◌, ◌<◌, ◌≤◌, ◌+◌, ◌==◌, ◌∙◌, ℕ, Bool, true, false, length, take, ap, subst, arith, ⊎_elim}
use Rattle.std.proofs.lemmas.Bool.{cases_lt, eq-eqb, ne_eqb}
use Rattle.std.proofs.lemmas.List.{take_all}
use Rattle.std.proofs.lemmas.List.Sums.{count_by_more_no, count_by_more_yes}
use Rattle.fs_shared.specs.Audit.{times}
use Rattle.fs_shared.specs.declared.entry.Receipt.{Receipt}
use Rattle.fs_shared.proofs.auditing.ascend.Goals as goal

pub loop-receipt-preserved : goal.loop-receipt-preserved
loop-receipt-preserved c =
    let i = c.loop-receipt.receipt-index in
    let rs = c.args.receipts.now in
    let r = c.receipt-item.result in
    let next = c.loop-receipt.next in
    let so_far = c.loop-receipt.invariant in
    let here : i < length rs = c.loop-receipt-test.true in
    let has : (number : ℕ) → Receipt → Bool = λ number x. x.number == number in
    let other : (number : ℕ) → (r.number ≡ number → ⊥) → times number (take (i + 1) rs) ≡ times number (take i rs) =
    λ number apart. count_by_more_no (has number) rs i r here
    (subst (λ (x : Receipt). (x.number == number) ≡ false) c.receipt-item.is (ne_eqb r.number number apart)) in
    let own : (number : ℕ) → r.number ≡ number → times number (take (i + 1) rs) ≡ times number (take i rs) + 1 =
    λ number same. count_by_more_yes (has number) rs i r here
    (subst (λ (x : Receipt). (x.number == number) ≡ true) c.receipt-item.is (eq-eqb r.number number same)) in
    record {
      at = omega (arith, so_far.at);
      once =
          λ number below. ⊎_elim
          (λ (less : number < next). other number (λ e. omega (arith, e, c.if-receipt-next.false, less)) ∙ so_far.once number less)
          (λ (rest : next ≤ number). own number (omega (arith, c.if-receipt-next.false, below, rest))
          ∙ ap (λ n. n + 1) (so_far.none number rest))
          (cases_lt number next);
      none =
          λ number above. other number (λ e. omega (arith, e, c.if-receipt-next.false, above)) ∙ so_far.none number (omega (arith, above));
    }

pub returns : goal.returns
returns c all number below =
    let i = c.loop-receipt.receipt-index in
    let rs = c.args.receipts.now in
    let whole : take i rs ≡ rs = take_all i rs (omega arith) in
    subst (λ l. times number l ≡ 1) whole (c.loop-receipt.invariant.once number (omega (arith, c.loop-receipt.invariant.at)))
