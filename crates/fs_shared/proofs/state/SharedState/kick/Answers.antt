use Rattle.fs_device.specs.MachineView.{machine_of}
use Rattle.fs_shared.specs.Held.{journal_of}
use Rattle.fs_shared.proofs.CallLemmas.{kick_replays, kick_starts}
use Rattle.fs_shared.proofs.state.SharedState.kick.Goals as goal

pub invariant_of-self : goal.invariant_of-self
invariant_of-self g c =
    let s = c.self.inside in
    let new = c.kick_into.new in (
      kick_replays g.F.FileSystemBase.may s.start (machine_of s.machine) (machine_of new.machine) (journal_of s.journal.items)
          (journal_of new.journal.items) c.args.queue c.kick_into.result
          c.self.invariant.0 c.kick_into.ensures.kick,
      c.kick_into.ensures.total c.self.invariant.1,
    )

pub returns-clause-kick : goal.returns-clause-kick
returns-clause-kick g c =
    let s = c.self.inside in
    let new = c.kick_into.new in
    rw (← c.self.view_is) (
    kick_starts g.F.FileSystemBase.may s.start (machine_of s.machine) (machine_of new.machine) (journal_of s.journal.items)
    (journal_of new.journal.items)
    c.args.queue c.kick_into.result c.kick_into.ensures.kick
    )

pub returns-clause-replays : goal.returns-clause-replays
returns-clause-replays g c =
    let s = c.self.inside in
    let new = c.kick_into.new in
    kick_replays g.F.FileSystemBase.may s.start (machine_of s.machine) (machine_of new.machine) (journal_of s.journal.items)
    (journal_of new.journal.items) c.args.queue c.kick_into.result
    c.self.invariant.0 c.kick_into.ensures.kick
