use Rattle.std.proofs.Common.{◌≡◌, take}
use Rattle.vm_memory_core.proofs.block.cloned_blocks.Given as goal

abbrev pub invariant-loop-block : goal.invariant-loop-block
invariant-loop-block l = l.copies.items ≡ take l.block-index l.blocks
