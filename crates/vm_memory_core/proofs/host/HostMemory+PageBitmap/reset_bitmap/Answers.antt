use Rattle.std.proofs.Common.{Bool, List, ap, sym, ◌∙◌, arith}
use Rattle.vm_bitmaps.specs.Pages.{PageSet}
use Rattle.vm_memory_core.specs.Host.{Block, shape, unmarked, with_blocks}
use Rattle.vm_memory_core.proofs.Stores.{reset_in, changed_at-past, clear-is, shape-unmarked}
use Rattle.vm_memory_core.proofs.host.HostMemory+PageBitmap.reset_bitmap.Goals as goal

pub returns-clause-cleared : goal.returns-clause-cleared
returns-clause-cleared c =
    let f : PageSet → Block = λ (p : PageSet). record { bytes = c.bitmap.inside.bytes.items; marks = p.marks } in
    let g : List Bool → Block = λ (m : List Bool). record { bytes = c.bitmap.inside.bytes.items; marks = m } in
    reset_in _ _ _ _ _ c.self.view_is c.index_mut.ensures.value
    (ap f c.reset.ensures ∙ ap g (clear-is c.bitmap.inside.bitmap.marks _ (sym c.len-pages.ensures.pages ∙ c.len-pages.ensures.marks))
    ∙ ap unmarked c.bitmap.view_is)

pub returns-then-block-len-clause-cleared : goal.returns-then-block-len-clause-cleared
returns-then-block-len-clause-cleared c =
    sym (ap (with_blocks c.args.self.now)
    (changed_at-past c.args.self.now.blocks c.args.block unmarked (rw (← c.self.view_is) (omega arith))))

pub returns-clause-shape : goal.returns-clause-shape
returns-clause-shape c = ap shape (returns-clause-cleared c) ∙ shape-unmarked c.args.self.now c.args.block
