use Rattle.std.proofs.Common.{refl, ap, sym, ◌∙◌}
use Rattle.fuse_in.specs.Records.{batch_forget_in}
use Rattle.server_meanings.specs.Grammar.{ended, given, forgets_asked}
use Rattle.server_requests.specs.Reading.{and_then}
use Rattle.server_requests.proofs.PlaceLemmas.{record_front}
use Rattle.server_meanings.proofs.ForgetLemmas.{batch_short, forgets_long}
use Rattle.server_meanings.proofs.meanings_apart.forgets_meaning.Goals as goal

pub returns-else-request-gt-MAX_FORGETS-clause-reads : goal.returns-else-request-gt-MAX_FORGETS-clause-reads
returns-else-request-gt-MAX_FORGETS-clause-reads g c = λ h options room.
    let at = given h options room in (
      sym (ap (λ r. ended h.unique (and_then r (λ x. forgets_asked x.0.count at x.1))) c.in-Ok.ensures.reads),
      c.if-request-gt-MAX_FORGETS.false,
    )

pub returns-then-request-gt-MAX_FORGETS-clause-reads : goal.returns-then-request-gt-MAX_FORGETS-clause-reads
returns-then-request-gt-MAX_FORGETS-clause-reads g c = λ h options room.
    let at = given h options room in
    sym (ap (λ r. ended h.unique (and_then r (λ x. forgets_asked x.0.count at x.1))) c.in-Ok.ensures.reads)
    ∙ forgets_long _ at _ c.if-request-gt-MAX_FORGETS.true

pub returns-in-Err-clause-reads : goal.returns-in-Err-clause-reads
returns-in-Err-clause-reads g c = λ h options room.
    (batch_short (given h options room) _ _ c.in-Err.ensures.reads, rw c.in-Err.ensures.fault refl)

pub returns-else-request-gt-MAX_FORGETS-clause-places : goal.returns-else-request-gt-MAX_FORGETS-clause-places
returns-else-request-gt-MAX_FORGETS-clause-places g c = record_front batch_forget_in _ _ _ c.in-Ok.ensures.reads
