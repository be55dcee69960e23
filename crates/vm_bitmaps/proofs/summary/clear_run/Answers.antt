use Rattle.std.proofs.Common.{◌∙◌}
use Rattle.vm_bitmaps.proofs.SummaryLemmas.{cleared_summary}
use Rattle.vm_bitmaps.proofs.summary.clear_run.Goals as goal

pub returns-clause-summary : goal.returns-clause-summary
returns-clause-summary c =
    cleared_summary c.args.words.now c.write_run.new.words c.args.summary.now c.write_run-2.new.words c.tell.new.summary
    c.tell-2.new.summary c.args.first c.args.last c.requires.ordered
    c.write_run.ensures.run c.write_run.ensures.old_fits c.write_run.ensures.fits c.write_run.auto.words
    (c.tell-2.auto.summary ∙ c.tell.auto.summary ∙ c.write_run-2.auto.words)
    c.write_run-2.ensures.run c.tell.ensures.reported c.tell.ensures.others c.tell-2.ensures.reported c.tell-2.ensures.others
    c.requires.summary
