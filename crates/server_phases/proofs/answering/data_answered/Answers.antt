use Rattle.std.proofs.Common.{List, ℕ, [], ◌∷◌, None, sym, ap, ◌∙◌}
use Rattle.server_meanings.specs.Serving.{ServedMessage}
use Rattle.server_phases.proofs.Suiting.{data_fits, data_long}
use Rattle.server_phases.proofs.answering.data_answered.Goals as goal

pub returns-in-true : goal.returns-in-true
returns-in-true c = λ options call bytes e.
    data_fits c.args.room c.args.unique options call bytes c.args.len e (sym c.has_room.ensures ∙ c.in-true.is)
    ∙ ap (λ (r : List ℕ). let s : ServedMessage = record { calls = call ∷ []; options = options; reply = r; fault = None } in s)
    (sym (c.data_front.ensures bytes e))

pub returns-in-false : goal.returns-in-false
returns-in-false c =
    λ options call bytes e. data_long c.args.room c.args.unique options call bytes c.args.len e (sym c.has_room.ensures ∙ c.in-false.is)
