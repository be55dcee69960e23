use Rattle.std.proofs.Common.{[], ap, refl}
use Rattle.vm_iotlb.specs.Ranges.{table_held}
use Rattle.vm_memory_core.specs.Host.{Host}
use Rattle.plain_machine.specs.Run.{with_host}
use Rattle.fs_device.specs.MachineView.{machine_of}
use Rattle.fs_device.proofs.machine.Machine.unmap_all.Goals as goal

pub returns : goal.returns
unfolding table_held
returns g c =
    let s = machine_of c.args.self.now in
    let number = rw c.iommu.ensures at c.table-number.ensures in
    (refl, ([], tt, (λ a. refl), ap (λ (h : Host). with_host s h) (rw number at c.unmap_all_in.ensures.changed)))
