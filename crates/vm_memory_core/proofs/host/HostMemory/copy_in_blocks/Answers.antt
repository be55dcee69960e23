use Rattle.std.proofs.Common.{◌≡◌, List, [], arith, refl, ap, subst, map, take, drop, ◌∙◌}
use Rattle.std.proofs.lemmas.List.{with_items_is}
use Rattle.vm_memory_core.specs.Host.{Block, Host, with_blocks}
use Rattle.vm_memory_core.specs.Window.{byte_in, places_of}
use Rattle.vm_memory_core.specs.Putting.{put_in_block}
use Rattle.vm_memory_core.proofs.Stores.{stored_at, loaded_at}
use Rattle.vm_memory_core.proofs.host.HostMemory.copy_in_blocks.Goals as goal

pub returns-then-block : goal.returns-then-block
returns-then-block g c =
    let inside : Host =
    record { blocks = c.self.inside.blocks.items; tables = c.self.inside.tables.items; io_marks = c.self.inside.io_pages.items } in
    let dest = c.args.dest in
    let source = c.args.source in
    let old = c.index_mut-block.result.now in
    let b = c.block-then-block.result in
    let here : b ≡ source.block = omega (arith, c.block.ensures, c.block-2.ensures, c.block-then-block.ensures) in
    let length-is : c.len.result ≡ source.len = omega (arith, c.len.ensures.len) in
    let xs = take c.len.result (drop c.block_offset.result old.bytes) in
    let read = loaded_at c.args.self.now inside source old xs b _ _ here c.block_offset.ensures length-is c.self.view_is c.requires.source
    c.index_mut-block.ensures.value refl in
    stored_at c.args.self.now inside dest xs old c.copy_within.new.self b _ _ c.block-then-block.ensures c.block_offset-then-block.ensures
    c.marks_its_block.ensures c.self.view_is
    c.index_mut-block.ensures.value c.copy_within.ensures.stored c.copy_within.ensures.marked
    ∙ ap (put_in_block c.args.self.now dest) read

pub returns-else-block : goal.returns-else-block
returns-else-block g c =
    let none : Host = record { blocks = []; tables = c.self.inside.tables.items; io_marks = c.self.inside.io_pages.items } in
    let new = with_blocks none c.copy_across.new.blocks in
    let copied : Host → Type 0 = λ k. new ≡ put_in_block k c.args.dest (map (byte_in k) (places_of c.args.source)) in
    ap (with_blocks none) (with_items_is c.self.inside.blocks c.copy_across.new.blocks (omega arith))
    ∙ subst copied c.self.view_is
    (subst (λ (l : List Block). copied (with_blocks none l)) c.deref_mut.ensures.value (c.copy_across.ensures none))
