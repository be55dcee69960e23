use Rattle.std.proofs.Common.{length, ap, arith, ◌∙◌}
use Rattle.vm_memory_core.specs.Host.{Host, shape}
use Rattle.vm_memory_core.specs.Putting.{io_marked}
use Rattle.vm_memory_core.proofs.Stores.{put_parts, stored_at, shape-put_all}
use Rattle.vm_memory_core.proofs.host.HostMemory.write.Goals as goal

pub returns-clause-stored : goal.returns-clause-stored
returns-clause-stored g c =
    c.mark_io.ensures.marked
    ∙ ap (λ (h : Host). io_marked h c.args.window (length c.args.bytes.now))
    (stored_at _ _ c.args.window c.args.bytes.now _ _ _ _ _ c.block.ensures c.block_offset.ensures c.marks_its_block.ensures c.self.view_is
    c.index_mut-block.ensures.value c.write.ensures.stored
    c.write.ensures.marked)
    ∙ put_parts c.args.self.now c.args.window c.args.bytes.now c.requires.lies c.requires.fits (omega (arith, c.write.ensures.fits))
    c.mark_io.ensures.from

pub returns-clause-shape : goal.returns-clause-shape
returns-clause-shape g c = ap shape (returns-clause-stored g c) ∙ shape-put_all _ _
