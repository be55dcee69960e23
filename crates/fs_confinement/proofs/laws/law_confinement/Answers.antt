use Rattle.fs_confinement.proofs.RunLemmas.{run_follows}
use Rattle.fs_confinement.proofs.laws.law_confinement.Goals as goal

pub returns : goal.returns
returns g c a b after events all_turns ran few same agree =
    run_follows g.F.FileSystemBase.may a b after events all_turns ran few same agree
