use Rattle.std.proofs.Common.{arith, ◌∙◌, ap, sym, length, subst, ◌<◌}
use Rattle.vm_memory_core.proofs.Stores.{length-marked_range, length_written}
use Rattle.vm_memory_core.proofs.block.Block.read_volatile_from.Goals as goal

pub invariant_of-self : goal.invariant_of-self
invariant_of-self g c =
    let same = length_written c.self.inside.bytes.len c.read_to-answer.new.block c.self.inside.bytes.items
    (omega (arith, c.read_to-answer.ensures.len)) (omega arith) in (
      c.mark_dirty.ensures.size ∙ c.self.invariant.0,
      c.mark_dirty.ensures.base ∙ c.self.invariant.1,
      ap length c.mark_dirty.ensures.marks ∙ length-marked_range _ _ _ _ ∙ c.self.invariant.2 ∙ ap g.B.NewBitmap.count (sym same),
      subst (λ n. 0 < n) (sym same) c.self.invariant.3,
    )
