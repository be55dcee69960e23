use Rattle.std.proofs.Common.{ap}
use Rattle.vm_memory.specs.Memory.{Memory}
use Rattle.fs_device.proofs.GuestLemmas.{written}
use Rattle.fs_device.proofs.StepLemmas.{state}
use Rattle.fs_device.proofs.machine.Machine.store.Goals as goal

pub returns : goal.returns
returns g c =
    let d = c.args.self.now.device in
    let mem = c.args.self.now.mem in
    ap (λ (m : Memory). state (record { limit = d.limit; page_size = d.page_size }) m d.queues (d.options, d.files))
    (written c.args.self.now.host c.write_slice.new.host mem.backend (g.I.Iommu.number mem.iommu) mem.io_bitmap mem.use_iommu c.args.addr
    c.args.bytes.now c.requires
    (rw c.get_backend-layout.ensures at c.write_slice.ensures.stored))
