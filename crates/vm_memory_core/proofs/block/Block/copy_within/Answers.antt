use Rattle.std.proofs.Common.{◌∙◌, ap, sym, length, length-drop, drop, ◌+◌, ◌-◌, ◌≡◌, arith}
use Rattle.vm_memory_core.specs.Host.{Block}
use Rattle.std.proofs.lemmas.List.Edits.{length-paste}
use Rattle.vm_memory_core.proofs.Stores.{length-marked_range}
use Rattle.vm_memory_core.proofs.block.Block.copy_within.Goals as goal

pub invariant_of-self : goal.invariant_of-self
invariant_of-self g c =
    let same : length c.self.inside.bytes.items ≡ length c.args.self.now.bytes = ap (λ (b : Block). length b.bytes) c.self.view_is in
    let moved = ap length c.copy_within.ensures.items
    ∙ length-paste c.self.inside.bytes.items c.args.to (drop c.args.from c.self.inside.bytes.items) (c.args.from + c.args.len - c.args.from)
    (omega arith) (omega (arith, length-drop c.args.from c.self.inside.bytes.items)) in
    let some = c.self.invariant.3 in (
      c.mark_dirty.ensures.size ∙ c.self.invariant.0,
      c.mark_dirty.ensures.base ∙ c.self.invariant.1,
      ap length c.mark_dirty.ensures.marks ∙ length-marked_range _ _ _ _ ∙ c.self.invariant.2 ∙ ap g.B.NewBitmap.count (sym moved),
      omega arith,
    )
