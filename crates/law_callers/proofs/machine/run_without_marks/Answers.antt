use Rattle.std.proofs.Common.{[], ◌∷◌}
use Rattle.law_callers.specs.Worked.{machine, read_and_harvest, unmarked_bytes, written}
use Rattle.law_callers.proofs.Steps.{reads_and_harvests, same_but_marks}
use Rattle.law_callers.proofs.machine.run_without_marks.Goals as goal

pub returns : goal.returns
returns g c files =
    c.law_marks.ensures (machine written files) (machine unmarked_bytes files) (machine unmarked_bytes files) read_and_harvest
    ([] ∷ [] ∷ []) (same_but_marks files) (reads_and_harvests g.F.FileSystemBase.may files)
