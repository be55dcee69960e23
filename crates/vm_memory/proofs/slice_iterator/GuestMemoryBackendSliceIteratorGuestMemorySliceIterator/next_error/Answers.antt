use Rattle.std.proofs.Common.{arith, sym}
use Rattle.vm_memory.proofs.SliceLemmas.{error_missing, error_there, no_error_left}
use Rattle.vm_memory.proofs.slice_iterator.GuestMemoryBackendSliceIteratorGuestMemorySliceIterator.next_error.Goals as goal

pub returns-then-self-eq0 : goal.returns-then-self-eq0
returns-then-self-eq0 g c = rw (← c.self.view_is) (no_error_left _ c.self.inside.addr c.self.inside.count (omega arith))

pub returns-in-Some : goal.returns-in-Some
returns-in-Some g c = rw (← c.self.view_is) (error_missing _ c.self.inside.addr c.self.inside.count c.in-Some.field-0.len _ (omega arith)
    c.in-Some.ensures.some.0 c.in-Some.ensures.some.3)

pub returns-in-None : goal.returns-in-None
returns-in-None g c = rw (← c.self.view_is)
    (sym (error_there _ c.self.inside.addr c.self.inside.count (omega arith) (omega arith) (c.window_at.ensures.none c.in-None.is)))
