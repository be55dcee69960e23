use Rattle.std.proofs.Common.{rules}
use Rattle.fs_device.specs.MachineView.{machine_of}
use Rattle.fs_shared.proofs.KickLemmas.{refusal_leaves, taken_waited}
use Rattle.fs_shared.proofs.kicking.kick_recorded.Goals as goal

pub returns-in-Err-recorded_refusal : goal.returns-in-Err-recorded_refusal
returns-in-Err-recorded_refusal g c =
    let no = c.in-Err-recorded_refusal.ensures.err in
    rw no.0 (refusal_leaves g.F.FileSystemBase.may (machine_of c.args.machine.now) _ c.args.queue c.in-Err.error no.1
    c.in-Err.ensures.takes)

pub returns-in-Err-exchange_recorded : goal.returns-in-Err-exchange_recorded
returns-in-Err-exchange_recorded g c =
    let takes = rw c.in-Ok-true.field-0-test at c.in-Ok-true.ensures.takes in
    (taken_waited (machine_of c.args.machine.now) c.args.queue c.take.new.taken takes.0, Prim.search rules)
