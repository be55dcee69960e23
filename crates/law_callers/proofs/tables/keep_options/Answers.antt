use Rattle.std.proofs.Common.{◌∷◌, refl}
use Rattle.fuse_fs.specs.Calls.{Destroy, Forget}
use Rattle.server_meanings.specs.Examples.{nobody}
use Rattle.server_meanings.specs.Grammar.{Asks, One}
use Rattle.law_callers.proofs.tables.keep_options.Goals as goal

pub returns-clause-forget : goal.returns-clause-forget
returns-clause-forget c page_size asked now room unique a answers =
    ((c.law_options.ensures page_size asked now room (Asks (One unique (Forget nobody 5 3))) (a ∷ answers)).0 refl).0

pub returns-clause-destroy : goal.returns-clause-destroy
returns-clause-destroy c page_size asked now room unique a answers =
    (c.law_options.ensures page_size asked now room (Asks (One unique Destroy)) (a ∷ answers)).1 refl
