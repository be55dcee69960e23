use Rattle.std.proofs.Common.{refl, ap, subst, ◌∙◌}
use Rattle.server_meanings.specs.Grammar.{Meaning, ended, given, started}
use Rattle.server_meanings.specs.RowMeanings.{InitIsRead}
use Rattle.server_requests.specs.Fronts.{flags2_of}
use Rattle.server_requests.specs.Reading.{and_then}
use Rattle.server_meanings.proofs.Rows.{init_short, init_short_later}
use Rattle.server_meanings.proofs.meanings_apart.init_meaning.Goals as goal

pub returns-in-Ok-flags2 : goal.returns-in-Ok-flags2
returns-in-Ok-flags2 g c = λ h options room.
    let at = given h options room in
    subst (λ (m : Meaning). InitIsRead h c.started.result m)
    (ap (λ r. ended h.unique (and_then r (λ y. started at c.in-Ok.request y.0 y.1))) c.in-Ok-flags2.ensures.reads
    ∙ ap (λ r. ended h.unique (and_then r (λ x. and_then (flags2_of x.0 x.1) (λ y. started at x.0 y.0 y.1)))) c.in-Ok.ensures.reads)
    (c.started.ensures at _)

pub returns-in-Ok : goal.returns-in-Ok
returns-in-Ok g c = λ h options room. (
  init_short_later (given h options room) _ _ _ _ c.in-Ok.ensures.reads c.in-Err-flags2.ensures.reads,
  rw c.in-Err-flags2.ensures.fault refl,
)

pub returns : goal.returns
returns g c = λ h options room. (init_short (given h options room) _ _ c.in-Err.ensures.reads, rw c.in-Err.ensures.fault refl)
