use Rattle.fs_device.specs.MachineView.{machine_of}
use Rattle.fs_shared.proofs.ReadLemmas.{read_returned}
use Rattle.fs_shared.proofs.state.SharedState.guest_read.Goals as goal

pub unreachable-requires : goal.unreachable-requires
unreachable-requires g c =
    let s = machine_of c.self.inside.machine in
    read_returned g.F.FileSystemBase.may s s c.args.addr c.args.len c.guest_read.result c.in_default.not-Bytes c.in_default.not-Refused
    c.guest_read.ensures
