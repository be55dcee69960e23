use Rattle.std.proofs.Common.{ap, ◌∙◌}
use Rattle.fs_device.specs.CommandView.{answer_of}
use Rattle.fs_device.specs.MachineView.{machine_of}
use Rattle.plain_machine.specs.Run.{SetLayout}
use Rattle.fs_shared.proofs.ActLemmas.{layout_keeps, layout_performed}
use Rattle.fs_shared.proofs.acting.layout_recorded.Goals as goal

pub returns-clause-keeps : goal.returns-clause-keeps
returns-clause-keeps g c =
    let before = machine_of c.args.machine.now in
    let after = machine_of c.set_layout.new.self in
    let first = c.layout_event.ensures in
    let second = c.layout_event-2.ensures in
    let done = layout_performed g.F.FileSystemBase.may before after c.args.layout (answer_of c.set_layout.result) c.requires
    c.set_layout.ensures in
    layout_keeps g.F.FileSystemBase.may before after c.args.layout
    (record { entry = c.layout_event.result; receipt = c.layout_event-2.result }) done
    (first.command ∙ ap SetLayout c.in_ok-first.ensures.same, first.outcome, first.pages)
    (second.command ∙ ap SetLayout c.in_ok-second.ensures.same, second.outcome, second.pages)
