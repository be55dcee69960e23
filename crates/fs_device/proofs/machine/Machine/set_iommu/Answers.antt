use Rattle.std.proofs.Common.{refl}
use Rattle.plain_machine.specs.Run.{effect}
use Rattle.fs_device.proofs.machine.Machine.set_iommu.Goals as goal

pub returns : goal.returns
unfolding effect
returns g c = rw c.set_iommu_enabled.ensures refl
