use Rattle.std.proofs.Common.{refl}
use Rattle.vm_memory.specs.Memory.{memory_behind}
use Rattle.fs_queue.specs.Queue.{fresh}
use Rattle.plain_machine.specs.Run.{effect}
use Rattle.fs_device.proofs.KickLemmas.{reset_there}
use Rattle.fs_device.proofs.machine.Machine.reset_queue.Goals as goal

pub returns-in-Ok : goal.returns-in-Ok
unfolding effect
returns-in-Ok g c =
    let d = c.args.self.now.device in
    let mem = c.args.self.now.mem in
    let m = memory_behind c.args.self.now.host mem.backend (g.I.Iommu.number mem.iommu) mem.io_bitmap mem.use_iommu in
    rw c.in-Ok.ensures.there.1
    (reset_there (record { limit = d.limit; page_size = d.page_size }) m d.queues (d.options, d.files) c.args.queue
    (fresh c.args.layout.size c.args.layout.desc c.args.layout.avail c.args.layout.used) c.in-Ok.ensures.there.0)

pub returns-in-Err : goal.returns-in-Err
unfolding effect
returns-in-Err g c = rw (c.in-Err.ensures.missing.1, c.in-Err.ensures.missing.2) refl
