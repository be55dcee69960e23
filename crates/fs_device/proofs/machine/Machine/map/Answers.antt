use Rattle.std.proofs.Common.{ap}
use Rattle.vm_iotlb.specs.Table.{mapped}
use Rattle.vm_memory_core.specs.Host.{Host}
use Rattle.vm_memory.specs.Memory.{table_of}
use Rattle.plain_machine.specs.Run.{with_host}
use Rattle.fs_device.specs.MachineView.{machine_of}
use Rattle.fs_device.proofs.MappingLemmas.{one_fits_not, left_same, refused, wanted_to_map}
use Rattle.fs_device.proofs.machine.Machine.map.Goals as goal

pub returns-in-Err-IommuMisconfigured : goal.returns-in-Err-IommuMisconfigured
returns-in-Err-IommuMisconfigured g c =
    let s = machine_of c.args.self.now in
    let t = c.in-Err-IommuMisconfigured.ensures.changed in
    let why = rw c.in-Err-IommuMisconfigured.field-0-is at t.2 in
    refused s _ _ _ (one_fits_not c.args.iova c.args.target c.args.len why.0)
    (ap (λ (h : Host). with_host s h) (left_same c.args.self.now.host c.map_in.new.host c.table-number.result t.0 why.1 t.3))

pub returns-in-Err-OutOfMemory : goal.returns-in-Err-OutOfMemory
returns-in-Err-OutOfMemory g c =
    let s = machine_of c.args.self.now in
    let t = c.in-Err-OutOfMemory.ensures.changed in
    let why = rw c.in-Err-OutOfMemory.field-0-is at t.2 in (
      wanted_to_map (table_of s.memory) (mapped c.args.iova c.args.target c.args.len c.args.perm (table_of s.memory)) c.args.iova
          c.args.target c.args.len why.0 why.1 why.2
          (rw (c.table-number.ensures, c.iommu.ensures) at why.3),
      ap (λ (h : Host). with_host s h) (left_same c.args.self.now.host c.map_in.new.host c.table-number.result t.0 why.4 t.3),
    )
