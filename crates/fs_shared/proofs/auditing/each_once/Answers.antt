use Rattle.std.proofs.Common.{◌≡◌, ◌<◌, ◌≤◌, ℕ, subst, arith, ⊎_elim}
use Rattle.std.proofs.lemmas.Bool.{cases_lt}
use Rattle.fs_shared.specs.Audit.{times}
use Rattle.fs_shared.proofs.auditing.each_once.Goals as goal

pub loop-number-preserved : goal.loop-number-preserved
loop-number-preserved c number below =
    let n = c.loop-number.number in
    ⊎_elim (λ (less : number < n). c.loop-number.invariant number less)
    (λ (same : n ≤ number).
    let here : n ≡ number = omega arith in
    subst (λ (k : ℕ). times k c.args.receipts.now ≡ 1) here (cc))
    (cases_lt number n)
