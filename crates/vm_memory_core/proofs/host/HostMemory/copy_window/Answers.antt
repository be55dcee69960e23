use Rattle.std.proofs.Common.{ap, arith, length, map, ◌≡◌, ◌∙◌}
use Rattle.std.proofs.lemmas.List.{length-map}
use Rattle.vm_memory_core.specs.Host.{Host, shape}
use Rattle.vm_memory_core.specs.Putting.{io_marked}
use Rattle.vm_memory_core.specs.Window.{byte_in, places_of}
use Rattle.vm_memory_core.proofs.Stores.{put_parts, shape-put_all}
use Rattle.vm_memory_core.proofs.WindowLemmas.{length-span}
use Rattle.vm_memory_core.proofs.host.HostMemory.copy_window.Goals as goal

pub returns-clause-stored : goal.returns-clause-stored
returns-clause-stored g c =
    let dest = c.args.dest in
    let source = c.args.source in
    let xs = map (byte_in c.args.self.now) (places_of source) in
    let count : length xs ≡ source.len =
    length-map (places_of source) (byte_in c.args.self.now) ∙ length-span source.len source.block source.offset source.io in
    let len : c.len.result ≡ length xs = omega (arith, count, c.len.ensures.len, c.requires.len) in
    c.mark_io.ensures.marked
    ∙ ap (λ (h : Host). io_marked h dest c.len.result) c.copy_in_blocks.ensures
    ∙ ap (io_marked _ dest) len
    ∙ put_parts c.args.self.now dest xs c.requires.dest (omega (arith, count, c.requires.len))
    (omega (arith, count, c.requires.len, c.len.ensures.fits)) c.mark_io.ensures.from

pub returns-clause-shape : goal.returns-clause-shape
returns-clause-shape g c = ap shape (returns-clause-stored g c) ∙ shape-put_all _ _
