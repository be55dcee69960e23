use Rattle.std.proofs.Common.{◌+◌, arith}
use Rattle.std.proofs.Common.{true}
use Rattle.vm_bitmaps.proofs.SummaryLemmas.{run_moved}
use Rattle.vm_bitmaps.proofs.summary.tell_one.Goals as goal

pub returns : goal.returns
returns c = run_moved c.args.summary.now c.write_in_word.new.words _ c.args.word _ (c.args.word + 1) true (omega arith) (omega arith)
    c.write_in_word.ensures
