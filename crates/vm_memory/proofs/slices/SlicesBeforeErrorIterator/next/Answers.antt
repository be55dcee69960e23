use Rattle.vm_memory.proofs.SliceLemmas.{ends_at_end, ends_at_error}
use Rattle.vm_memory.proofs.slices.SlicesBeforeErrorIterator.next.Goals as goal

pub returns-in-Some-Err-clause-steps : goal.returns-in-Some-Err-clause-steps
returns-in-Some-Err-clause-steps g c =
    ends_at_error _ _ c.in-Some-Err.field-0 c.in-Some-Err.field-0-0 c.in-Some-Err.field-0-is
    (g.met.I.GuestMemorySliceIterator.by_address c.args.self.now.slices _ c.next.new.self c.in-Some-Err.ensures.steps)

pub returns-in-None-clause-steps : goal.returns-in-None-clause-steps
returns-in-None-clause-steps g c =
    ends_at_end _ _ (g.met.I.GuestMemorySliceIterator.by_address c.args.self.now.slices _ c.next.new.self c.in-None.ensures.steps)
