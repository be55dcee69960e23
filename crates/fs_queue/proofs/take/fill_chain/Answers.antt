use Rattle.std.proofs.Common.{sym, ◌≡◌, ◌∙◌, arith}
use Rattle.vm_iotlb.specs.declared.permissions.Permissions.TheVariants.{Read, Write}
use Rattle.vm_memory.specs.Memory.{location}
use Rattle.fs_queue.specs.Taking.{readable, writable, total_len}
use Rattle.fs_queue.proofs.TakeLemmas.{length-direction}
use Rattle.fs_queue.proofs.take.fill_chain.Goals as goal

pub invariant_of-chain : goal.invariant_of-chain
invariant_of-chain g c =
    let m = g.M.GuestMemory.memory c.args.mem.now (g.H.HostBlocks.host c.args.host.now) in
    let r = length-direction (location m Read) (readable c.args.descriptors.now) _
    (sym (c.in-Ok-true.ensures.readable c.in-Ok-true.field-0-test)) in
    let w = length-direction (location m Write) (writable c.args.descriptors.now) _
    (sym (c.in-Ok-true.ensures.writable c.in-Ok-true.field-0-test)) in
    let request : c.count_bytes-request_len.result ≡ total_len (readable c.args.descriptors.now) = omega arith in
    let room : c.count_bytes-room_len.result ≡ total_len (writable c.args.descriptors.now) = omega arith in
    record { request_counted = request ∙ sym r; room_counted = room ∙ sym w; short = omega (arith, w) }
