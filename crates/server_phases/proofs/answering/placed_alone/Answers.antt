use Rattle.std.proofs.Common.{List, length, [], ◌∷◌, refl, sym, ap, ◌∙◌}
use Rattle.std.specs.Prelude.{nat_lt}
use Rattle.fuse_fs.specs.Calls.{FileCall}
use Rattle.server_meanings.specs.Serving.{replied}
use Rattle.server_phases.proofs.Suiting.{none_back}
use Rattle.server_phases.proofs.answering.placed_alone.Goals as goal

pub returns : goal.returns
returns c = λ options call.
    sym (ap (λ (l : List FileCall). replied c.args.room (call ∷ l) options c.args.front)
    (none_back (nat_lt c.args.room (length c.args.front)) [] refl))
    ∙ c.placed.ensures options call
