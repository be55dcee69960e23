use Rattle.std.proofs.Common.{arith}
use Rattle.vm_bitmaps.proofs.Words.{set_bits, clear_bits}
use Rattle.vm_bitmaps.proofs.page_words.written.Goals as goal

pub returns-then-mark : goal.returns-then-mark
returns-then-mark c =
    rw c.if-mark.true (set_bits c.args.word c.args.from c.args.to c.mask-run.result c.requires.ordered c.requires.within c.mask-run.ensures)

pub returns-else-mark : goal.returns-else-mark
returns-else-mark c =
    rw c.if-mark.false (clear_bits c.args.word c.args.from c.args.to c.mask-run.result (omega arith) (omega arith) c.requires.ordered
    c.requires.within c.mask-run.ensures)
