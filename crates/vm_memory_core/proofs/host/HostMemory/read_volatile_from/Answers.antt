use Rattle.std.proofs.Common.{◌≡◌, length, ap, arith, refl, sym, ◌∙◌}
use Rattle.vm_memory_core.specs.Host.{Host, shape}
use Rattle.vm_memory_core.specs.Putting.{io_marked}
use Rattle.vm_memory_core.proofs.Stores.{loaded_at, put_parts, stored_at, shape-put_all}
use Rattle.vm_memory_core.proofs.host.HostMemory.read_volatile_from.Goals as goal

pub returns-clause-reads : goal.returns-clause-reads
returns-clause-reads g c =
    let r = c.read_volatile_from-answer.ensures.reads in
    let count : c.moved.result ≡ length r.0 = c.moved.ensures ∙ sym r.3 in
    let stored =
    c.mark_io.ensures.marked
    ∙ ap (io_marked _ c.args.window) count
    ∙ ap (λ (h : Host). io_marked h c.args.window (length r.0))
    (stored_at _ _ c.args.window r.0 _ _ _ _ _ c.block.ensures c.block_offset.ensures c.marks_its_block-mark.ensures c.self.view_is
    c.index_mut-block.ensures.value r.1 r.2)
    ∙ put_parts c.args.self.now c.args.window r.0 c.requires (omega (arith, r.4, c.len.ensures.len))
    (omega (arith, r.3, c.read_volatile_from-answer.ensures.fits, c.block_offset.ensures)) c.mark_io.ensures.from
    in
    let lent = loaded_at _ _ c.args.window _ _ _ _ _ c.block.ensures c.block_offset.ensures c.len.ensures.len c.self.view_is c.requires
    c.index_mut-block.ensures.value refl in
    (r.0, stored, r.3, omega (arith, r.4, c.len.ensures.len), rw lent at r.5)

pub returns-clause-shape : goal.returns-clause-shape
returns-clause-shape g c = ap shape (returns-clause-reads g c).1 ∙ shape-put_all _ _
