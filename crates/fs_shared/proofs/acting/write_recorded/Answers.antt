use Rattle.fs_device.specs.CommandView.{answer_of}
use Rattle.fs_device.specs.MachineView.{machine_of}
use Rattle.fs_shared.proofs.ActLemmas.{write_keeps, write_performed}
use Rattle.fs_shared.proofs.acting.write_recorded.Goals as goal

pub returns-clause-keeps : goal.returns-clause-keeps
returns-clause-keeps g c =
    let before = machine_of c.args.machine.now in
    let after = machine_of c.guest_write.new.self in
    let done = write_performed g.F.FileSystemBase.may before after c.args.addr c.args.bytes.now (answer_of c.guest_write.result)
    c.requires.reaches c.guest_write.ensures in
    let pages = rw c.get_backend-layout.ensures at c.in_ok-pages.ensures in
    let recorded = c.in_ok-recorded.ensures in
    write_keeps g.F.FileSystemBase.may before after c.args.addr c.args.bytes.now c.in_ok-pages.pages.items c.in_ok-recorded.recorded done
    pages
    recorded.entry recorded.receipt
