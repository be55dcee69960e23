use Rattle.std.proofs.Common.{sym, ◌∙◌}
use Rattle.fs_device.specs.MachineView.{machine_of}
use Rattle.fs_shared.proofs.KickLemmas.{is_open, missing_kick, stopped_kick}
use Rattle.fs_shared.proofs.calls.takes_chains.Goals as goal

pub returns-then-is_stopped-clause-closed : goal.returns-then-is_stopped-clause-closed
returns-then-is_stopped-clause-closed g c =
    stopped_kick g.F.FileSystemBase.may (machine_of c.args.machine.now) c.args.queue c.in-Some.queue.now (sym c.in-Some.ensures)
    (sym c.is_stopped.ensures ∙ c.if-is_stopped.true)

pub returns-else-is_stopped-clause-open : goal.returns-else-is_stopped-clause-open
returns-else-is_stopped-clause-open g c = is_open (machine_of c.args.machine.now) c.args.queue c.in-Some.queue.now (sym c.in-Some.ensures)
    (sym c.is_stopped.ensures ∙ c.if-is_stopped.false)

pub returns-in-None-clause-closed : goal.returns-in-None-clause-closed
returns-in-None-clause-closed g c = missing_kick g.F.FileSystemBase.may (machine_of c.args.machine.now) c.args.queue (sym c.in-None.ensures)
