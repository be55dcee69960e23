use Rattle.std.proofs.Common.{arith}
use Rattle.fs_device.proofs.HarvestLemmas.{cleared_step}
use Rattle.fs_device.proofs.harvested.clear.Goals as goal

pub loop-block-preserved : goal.loop-block-preserved
loop-block-preserved c =
    cleared_step c.args.host.now c.loop-block.host _ c.loop-block.block (omega arith) c.loop-block.invariant c.reset_bitmap.ensures.cleared
