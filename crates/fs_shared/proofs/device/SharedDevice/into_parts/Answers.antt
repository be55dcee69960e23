use Rattle.std.proofs.Common.{◌≡◌, ℕ, Bool, true, length, ap, sym, ◌∙◌, arith}
use Rattle.std.specs.Prelude.{◌==◌}
use Rattle.std.proofs.lemmas.Bool.Decides.{nat_tests}
use Rattle.std.proofs.lemmas.List.{length-map}
use Rattle.fs_device.specs.MachineView.{machine_of}
use Rattle.fs_shared.specs.Held.{Held, entry_of, fixed_of, journal_of, start_of}
use Rattle.fs_shared.specs.Replay.{forget}
use Rattle.fs_shared.proofs.Differing.{journals_tell_pages}
use Rattle.fs_shared.proofs.device.SharedDevice.into_parts.Goals as goal

-- what a test says
equal_of : (b : Bool) (m n : ℕ) → b ≡ (m == n) → b ≡ true → m ≡ n
equal_of b m n is holds = grind (arith, nat_tests)

pub returns-then-is_counted-clause-count : goal.returns-then-is_counted-clause-count
returns-then-is_counted-clause-count g c =
    let items = c.open.result.journal.items in
    let held = c.into_inner-state.result in
    equal_of c.is_counted.result c.args.share.count (length held.journal) c.is_counted.ensures.count c.if-is_counted.true
    ∙ sym (ap (λ (h : Held g.row.F.Denot). length h.journal) c.is_counted.ensures.state)
    ∙ sym (ap length c.open.ensures.journal)
    ∙ length-map items entry_of

pub returns-then-is_counted-clause-pages : goal.returns-then-is_counted-clause-pages
returns-then-is_counted-clause-pages g c =
    let p = c.open.result in
    journals_tell_pages (start_of p.start (fixed_of (machine_of p.machine))) (forget (machine_of p.machine)) (journal_of p.journal.items)
    c.open.ensures.replays
