use Rattle.std.proofs.Common.{[], length, take, drop, arith, refl, ap, sym, ◌∙◌}
use Rattle.std.proofs.lemmas.List.{length-map, length-take}
use Rattle.vm_memory_core.specs.Host.{Block, Host, with_blocks}
use Rattle.vm_memory_core.specs.Putting.{put_in_block}
use Rattle.vm_memory_core.specs.Window.{byte_in, places_of}
use Rattle.vm_memory_core.proofs.Stores.{stored_at, loaded_at, room_at, seam_of, set-back, set-front, read-back, read-front}
use Rattle.vm_memory_core.proofs.WindowLemmas.{length-span}
use Rattle.vm_memory_core.proofs.block.copy_across.Goals as goal

pub bytes-bytes-requires : goal.bytes-bytes-requires
bytes-bytes-requires g c =
    let l = c.args.blocks.now in
    let before : Host = record { blocks = l; tables = []; io_marks = [] } in
    let low = c.split_at_mut-low.result.0.now in
    let high = c.split_at_mut-low.result.1.now in
    let d = c.block-then-block.result in
    let halves = c.split_at_mut-low.ensures in
    let seam = seam_of l low high d halves.front halves.back in
    let at = c.index-low-block.is ∙ read-front l low high _ _ seam (omega arith) in
    let room = room_at before c.args.source c.index-low-block.result _ _ _ c.block-then-block-2.ensures c.block_offset.ensures
    c.len.ensures.len c.requires.source at in
    omega (arith, room, ap (λ (b : Block). length b.bytes) c.index-low-block.is)

pub write-requires : goal.write-requires
write-requires g c =
    let l = c.args.blocks.now in
    let before : Host = record { blocks = l; tables = []; io_marks = [] } in
    let low = c.split_at_mut-low.result.0.now in
    let high = c.split_at_mut-low.result.1.now in
    let d = c.block-then-block.result in
    let halves = c.split_at_mut-low.ensures in
    let seam = seam_of l low high d halves.front halves.back in
    let old = c.index-high-0.is ∙ read-back l low high d _ seam halves.front_len in
    let room = room_at before c.args.dest c.index-high-0.result _ _ c.args.dest.len c.block-then-block.ensures
    c.block_offset-then-block.ensures refl c.requires.dest old in
    let count = ap length c.bytes-bytes.ensures ∙ length-take _ _ in
    omega (arith, room, count, c.len.ensures.len, c.requires.len, ap (λ (b : Block). length b.bytes) c.index-high-0.is)

pub returns-then-block : goal.returns-then-block
returns-then-block g c h =
    let l = c.args.blocks.now in
    let before = with_blocks h l in
    let source = c.args.source in
    let dest = c.args.dest in
    let low = c.split_at_mut-low.result.0.now in
    let high = c.split_at_mut-low.result.1.now in
    let d = c.block-then-block.result in
    let halves = c.split_at_mut-low.ensures in
    let seam = seam_of l low high d halves.front halves.back in
    let at = c.index-low-block.is ∙ read-front l low high _ _ seam (omega arith) in
    let read = loaded_at before before source c.index-low-block.result c.bytes-bytes.result.now _ _ _ c.block-then-block-2.ensures
    c.block_offset.ensures c.len.ensures.len refl c.requires.source at
    (c.bytes-bytes.ensures ∙ ap (λ (b : Block). take c.len.result (drop c.block_offset.result b.bytes)) (sym c.index-low-block.is)) in
    let count = ap length read ∙ length-map (places_of source) (byte_in before)
    ∙ length-span source.len source.block source.offset source.io in
    let old = c.index-high-0.is ∙ read-back l low high d _ seam halves.front_len in
    ap (with_blocks h) (set-back l low high d c.write.new.self seam halves.front_len)
    ∙ stored_at before before dest c.bytes-bytes.result.now c.index-high-0.result c.write.new.self d _ _ c.block-then-block.ensures
    c.block_offset-then-block.ensures c.marks_its_block.ensures refl
    old (rw (sym c.index-high-0.is) at c.write.ensures.stored) (rw (sym c.index-high-0.is) at c.write.ensures.marked)
    ∙ ap (put_in_block before dest) read

pub bytes-bytes-requires-else-block : goal.bytes-bytes-requires-else-block
bytes-bytes-requires-else-block g c =
    let l = c.args.blocks.now in
    let before : Host = record { blocks = l; tables = []; io_marks = [] } in
    let low = c.split_at_mut-low-else-block.result.0.now in
    let high = c.split_at_mut-low-else-block.result.1.now in
    let d = c.block-else-block.result in
    let halves = c.split_at_mut-low-else-block.ensures in
    let seam = seam_of l low high d halves.front halves.back in
    let at = c.index-high-0-else-block.is ∙ read-back l low high d _ seam halves.front_len in
    let room = room_at before c.args.source c.index-high-0-else-block.result _ _ _ c.block-else-block.ensures
    c.block_offset-else-block.ensures c.len-else-block.ensures.len c.requires.source at in
    omega (arith, room, ap (λ (b : Block). length b.bytes) c.index-high-0-else-block.is)

pub write-requires-else-block : goal.write-requires-else-block
write-requires-else-block g c =
    let l = c.args.blocks.now in
    let before : Host = record { blocks = l; tables = []; io_marks = [] } in
    let low = c.split_at_mut-low-else-block.result.0.now in
    let high = c.split_at_mut-low-else-block.result.1.now in
    let d = c.block-else-block.result in
    let halves = c.split_at_mut-low-else-block.ensures in
    let seam = seam_of l low high d halves.front halves.back in
    let old = c.index-low-block-else-block.is ∙ read-front l low high _ _ seam (omega arith) in
    let room = room_at before c.args.dest c.index-low-block-else-block.result _ _ c.args.dest.len c.block-else-block-2.ensures
    c.block_offset-else-block-2.ensures refl c.requires.dest old in
    let count = ap length c.bytes-bytes-else-block.ensures ∙ length-take _ _ in
    omega
    (arith, room, count, c.len-else-block.ensures.len, c.requires.len, ap (λ (b : Block). length b.bytes) c.index-low-block-else-block.is)

pub returns-else-block : goal.returns-else-block
returns-else-block g c h =
    let l = c.args.blocks.now in
    let before = with_blocks h l in
    let source = c.args.source in
    let dest = c.args.dest in
    let low = c.split_at_mut-low-else-block.result.0.now in
    let high = c.split_at_mut-low-else-block.result.1.now in
    let d = c.block-else-block.result in
    let i = c.block-else-block-2.result in
    let halves = c.split_at_mut-low-else-block.ensures in
    let seam = seam_of l low high d halves.front halves.back in
    let at = c.index-high-0-else-block.is ∙ read-back l low high d _ seam halves.front_len in
    let read = loaded_at before before source c.index-high-0-else-block.result c.bytes-bytes-else-block.result.now _ _ _
    c.block-else-block.ensures c.block_offset-else-block.ensures
    c.len-else-block.ensures.len refl c.requires.source at
    (c.bytes-bytes-else-block.ensures ∙ ap (λ (b : Block). take c.len-else-block.result (drop c.block_offset-else-block.result b.bytes))
    (sym c.index-high-0-else-block.is)) in
    let count = ap length read ∙ length-map (places_of source) (byte_in before)
    ∙ length-span source.len source.block source.offset source.io in
    let old = c.index-low-block-else-block.is ∙ read-front l low high i _ seam (omega arith) in
    ap (with_blocks h) (set-front l low high i c.write-else-block.new.self seam (omega arith))
    ∙ stored_at before before dest c.bytes-bytes-else-block.result.now c.index-low-block-else-block.result c.write-else-block.new.self i _ _
    c.block-else-block-2.ensures
    c.block_offset-else-block-2.ensures c.marks_its_block-else-block.ensures refl old
    (rw (sym c.index-low-block-else-block.is) at c.write-else-block.ensures.stored)
    (rw (sym c.index-low-block-else-block.is) at c.write-else-block.ensures.marked)
    ∙ ap (put_in_block before dest) read
