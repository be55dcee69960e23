use Rattle.std.proofs.Common.{◌≡◌, ◌+◌, ◌/◌, ◌<◌, get_or, ap, refl, arith, true}
use Rattle.vm_bitmaps.proofs.SummaryLemmas.{marked_summary, reported_summary, run_moved}
use Rattle.vm_bitmaps.proofs.summary.mark_run.Goals as goal

pub returns-then-head-tail-clause-summary : goal.returns-then-head-tail-clause-summary
returns-then-head-tail-clause-summary c =
    marked_summary c.args.words.now c.write_run.new.words c.args.summary.now c.write_run-then-head-tail.new.words c.args.first c.args.last
    c.requires.ordered c.write_run.ensures.run
    c.write_run.ensures.old_fits c.write_run.ensures.fits c.write_run.auto.words c.write_run-then-head-tail.auto.words
    c.write_run-then-head-tail.ensures.run c.requires.summary

pub returns-then-was-eq0-clause-summary : goal.returns-then-was-eq0-clause-summary
returns-then-was-eq0-clause-summary c =
    let one : c.args.first / 64 ≡ c.args.last / 64 = c.if-head-tail.false in
    marked_summary c.args.words.now c.write_run-2.new.words c.args.summary.now c.tell_one.new.summary c.args.first c.args.last
    c.requires.ordered c.write_run-2.ensures.run
    c.write_run-2.ensures.old_fits c.write_run-2.ensures.fits c.write_run-2.auto.words c.tell_one.auto.summary
    (run_moved c.args.summary.now c.tell_one.new.summary _ _ _ (c.args.last / 64 + 1) true refl (ap (λ i. i + 1) one) c.tell_one.ensures)
    c.requires.summary

pub returns-else-was-eq0-clause-summary : goal.returns-else-was-eq0-clause-summary
returns-else-was-eq0-clause-summary c =
    let some : 0 < get_or c.args.words.now (c.args.first / 64) 0 = omega (arith, c.if-was-eq0.false) in
    reported_summary c.args.words.now c.write_run-2.new.words c.args.summary.now c.args.first c.args.last c.requires.ordered
    c.if-head-tail.false some c.write_run-2.ensures.run
    c.write_run-2.ensures.old_fits c.write_run-2.ensures.fits c.write_run-2.auto.words c.requires.summary
