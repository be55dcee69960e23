use Rattle.std.proofs.Common.{◌≡◌, Some, ap, sym, map, ◌∙◌}
use Rattle.vm_memory_core.specs.Host.{Host}
use Rattle.vm_memory_core.specs.Window.{byte_in, places_of}
use Rattle.vm_memory.specs.Memory.{Memory}
use Rattle.fs_queue.proofs.TableLemmas.{first_window, whole_window}
use Rattle.fs_queue.proofs.access.whole_bytes.Goals as goal

pub returns-in-Some-Ok : goal.returns-in-Some-Ok
returns-in-Some-Ok g c =
    let m = g.M.GuestMemory.memory c.args.mem.now (g.H.HostBlocks.host c.args.host.now) in
    let same : m.host ≡ (g.H.HostBlocks.host c.args.host.now) = ap (λ (x : Memory). x.host)
    (g.met.M.GuestMemory.over c.args.mem.now (g.H.HostBlocks.host c.args.host.now) (g.H.HostBlocks.host c.args.host.now)) in
    let there = first_window _ _ _ _ c.in-Some-Ok.window c.in-Ok.ensures.slices (c.in-Some-Ok.is ∙ ap Some c.in-Some-Ok.field-0-is)
    c.next.ensures.steps in
    whole_window m c.args.addr c.args.len c.in-Some-Ok.window.len _ c.bytes.result.now c.requires.fits
    (sym c.len.ensures.len ∙ c.if-len.true) there
    (c.bytes.ensures.bytes ∙ ap (λ (h : Host). map (byte_in h) (places_of c.in-Some-Ok.window)) (sym same))
