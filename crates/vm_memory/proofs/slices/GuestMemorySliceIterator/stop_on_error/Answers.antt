use Rattle.vm_memory.specs.declared.slices.SlicesBeforeError.{SlicesBeforeError}
use Rattle.vm_memory.proofs.JoinedLemmas.{windows_of_drained}
use Rattle.vm_memory.proofs.slices.GuestMemorySliceIterator.stop_on_error.Goals as goal

pub returns-in-None-clause-joined : goal.returns-in-None-clause-joined
returns-in-None-clause-joined g c windows drained =
    windows_of_drained (λ (s : SlicesBeforeError g.row.Self.Denot). g.Self.GuestMemorySliceIterator.slices s.slices)
    (record { slices = c.args.self }) windows drained
