use Rattle.std.proofs.Common.{arith, map}
use Rattle.vm_memory_core.specs.Host.{Block}
use Rattle.fs_device.specs.PageView.{page_view}
use Rattle.fs_device.proofs.HarvestLemmas.{no_block, block_next, blocks_done, not_none}
use Rattle.fs_device.proofs.harvested.copy_marked.Goals as goal
use Rattle.fs_device.proofs.harvested.copy_marked.Goals.{in-Some+in_ok-harvest_block, in_default}

pub loop-block-preserved : goal.loop-block-preserved
loop-block-preserved c =
    elim c.match-bytes_and_bitmap.branch [
      | in-Some+in_ok-harvest_block w ↦
          rw w.pages-is (block_next c.args.host.now.blocks c.loop-block.block _ _ (map page_view c.loop-block.pages.items) _ _ (omega arith)
          (rw w.in-Some.is at c.bytes_and_bitmap.ensures.bytes)
          (rw w.in-Some.is at c.bytes_and_bitmap.ensures.marks) w.in_ok-harvest_block.ensures c.loop-block.invariant)
      | in_default w ↦ absurd (not_none (λ (b : Block). b.bytes) c.args.host.now.blocks c.loop-block.block no_block (omega arith)
          (rw w.in_default.is at c.bytes_and_bitmap.ensures.bytes))
    ]

pub returns : goal.returns
returns c = blocks_done c.args.host.now.blocks c.loop-block.block _ _ (omega arith) c.loop-block.invariant
