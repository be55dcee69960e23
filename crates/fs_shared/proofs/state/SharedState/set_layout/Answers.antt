use Rattle.fs_device.specs.MachineView.{machine_of}
use Rattle.plain_machine.specs.Run.{SetLayout}
use Rattle.fs_shared.specs.Held.{journal_of}
use Rattle.fs_shared.proofs.CallLemmas.{act_replays, act_starts}
use Rattle.fs_shared.proofs.state.SharedState.set_layout.Goals as goal

pub invariant_of-self : goal.invariant_of-self
invariant_of-self g c =
    let s = c.self.inside in
    let new = c.layout_into.new in (
      act_replays g.F.FileSystemBase.may s.start (machine_of s.machine) (machine_of new.machine) (journal_of s.journal.items)
          (journal_of new.journal.items) (SetLayout c.args.layout)
          c.layout_into.result c.self.invariant.0 c.layout_into.ensures.layout,
      c.layout_into.ensures.total c.self.invariant.1,
    )

pub returns-clause-layout : goal.returns-clause-layout
returns-clause-layout g c =
    let s = c.self.inside in
    let new = c.layout_into.new in
    rw (← c.self.view_is) (
    act_starts g.F.FileSystemBase.may s.start (machine_of s.machine) (machine_of new.machine) (journal_of s.journal.items)
    (journal_of new.journal.items)
    (SetLayout c.args.layout) c.layout_into.result c.layout_into.ensures.layout
    )

pub returns-clause-replays : goal.returns-clause-replays
returns-clause-replays g c =
    let s = c.self.inside in
    let new = c.layout_into.new in
    act_replays g.F.FileSystemBase.may s.start (machine_of s.machine) (machine_of new.machine) (journal_of s.journal.items)
    (journal_of new.journal.items) (SetLayout c.args.layout)
    c.layout_into.result c.self.invariant.0 c.layout_into.ensures.layout
