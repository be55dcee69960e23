use Rattle.std.proofs.Common.{◌*◌, length, ap, arith, sym, ◌∙◌}
use Rattle.vm_memory_core.specs.Host.{Host, shape}
use Rattle.vm_memory_core.specs.Parts.{spelled_all}
use Rattle.vm_memory_core.specs.Putting.{io_marked, put_in_block}
use Rattle.vm_memory_core.proofs.Stores.{put_parts, stored_at, shape-put_all}
use Rattle.vm_memory_core.proofs.host.HostMemory.write_values.Goals as goal

pub returns-clause-stored : goal.returns-clause-stored
returns-clause-stored g c =
    let w = c.args.window in
    let xs = spelled_all g.T.ByteValued.fields c.args.values.now in
    let n = length c.args.values.now * c.SIZE.result in
    c.mark_io.ensures.marked
    ∙ ap (λ (h : Host). io_marked h w n) (stored_at _ _ w xs _ _ _ _ _ c.block.ensures c.block_offset.ensures c.marks_its_block.ensures
    c.self.view_is c.index_mut-block.ensures.value
    c.write_values.ensures.stored c.write_values.ensures.marked)
    ∙ ap (io_marked (put_in_block c.args.self.now w xs) w)
    (ap (λ s. length c.args.values.now * s) c.SIZE.ensures ∙ sym c.write_values.ensures.count)
    ∙ put_parts c.args.self.now w xs c.requires.lies (omega (arith, c.write_values.ensures.count))
    (omega (arith, c.write_values.ensures.fits)) c.mark_io.ensures.from

pub returns-clause-shape : goal.returns-clause-shape
returns-clause-shape g c = ap shape (returns-clause-stored g c) ∙ shape-put_all _ _
