use Rattle.std.proofs.Common.{drop}
use Rattle.fs_device.specs.MachineView.{machine_of}
use Rattle.fs_shared.specs.Held.{fixed_of, journal_of, start_of}
use Rattle.fs_shared.specs.Replay.{forget}
use Rattle.law_callers.proofs.Results.{if_ok}
use Rattle.law_callers.proofs.shared.audit_last.Goals as goal

pub returns : goal.returns
returns g c = if_ok c.into_parts.result _ _ (λ p replays first.
    let journal = journal_of p.journal.items in
    let end = forget (machine_of p.machine) in
    let halves = c.law_journal_pages.ensures.split (start_of p.start (fixed_of (machine_of p.machine))) end first journal replays in
    (halves.0, halves.1, halves.2, c.law_journal_pages.ensures.pages halves.0 end (drop first journal) halves.2))
    c.into_parts.ensures.replays
