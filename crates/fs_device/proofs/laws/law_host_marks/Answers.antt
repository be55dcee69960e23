use Rattle.std.proofs.Common.{arith}
use Rattle.fs_device.proofs.MigrateLemmas.{sized_all, sized_next}
use Rattle.fs_device.proofs.laws.law_host_marks.Goals as goal

pub loop-block-preserved : goal.loop-block-preserved
loop-block-preserved c =
    sized_next c.bytes_and_bitmap.result (λ p. p.0.now) (λ p. p.1.now.marks) c.args.host.now.blocks c.loop-block.block (omega arith)
    c.bytes_and_bitmap.ensures.bytes c.bytes_and_bitmap.ensures.marks
    c.bytes_and_bitmap.ensures.count c.loop-block.invariant

pub returns : goal.returns
returns c = sized_all c.args.host.now.blocks c.loop-block.block (omega arith) c.loop-block.invariant
