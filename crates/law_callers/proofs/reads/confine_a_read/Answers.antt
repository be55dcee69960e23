use Rattle.std.proofs.Common.{[], ◌∷◌, refl}
use Rattle.law_callers.specs.Worked.{machine, one_read, tiny}
use Rattle.law_callers.proofs.TinyRun.{agree, reads, same_but_bytes}
use Rattle.law_callers.proofs.reads.confine_a_read.Goals as goal

pub returns : goal.returns
returns g c files =
    let may = g.F.FileSystemBase.may in
    let ran = reads may files in (
      ran,
      c.law_confinement.ensures (machine (tiny 7) files) (machine (tiny 9) files) (machine (tiny 7) files) one_read ([] ∷ []) ran refl
          (same_but_bytes files) (agree may files ran),
    )
