-- A machine in the plain machine's terms.
use Rattle.fs_device.specs.declared.machine.Machine.{Machine}
use Rattle.plain_machine.specs.Step.{State}
use Rattle.vm_memory.specs.Memory.{memory_behind}
use Rattle.fs_device.specs.DeviceView.{state_of}

-- a machine as the plain one: its memory behind the IOMMU, and its device's parts
abbrev pub machine_of : {F I : Type 0} {g : _} → Machine F I g → State F
machine_of {g = g} m =
    state_of (memory_behind m.host m.mem.backend (g.number m.mem.iommu) m.mem.io_bitmap m.mem.use_iommu)
    m.device
