use Rattle.fs_queue.proofs.TakeLemmas.{range_added, range_grown}
use Rattle.fs_queue.proofs.take.extend_range.Goals as goal

pub returns-then-range-descriptor-clause-found : goal.returns-then-range-descriptor-clause-found
returns-then-range-descriptor-clause-found g c rest = rw (← c.descriptor.view_is) (range_grown _ _ _ _ _ rest _ c.if-range-descriptor.true)

pub returns-clause-found : goal.returns-clause-found
returns-clause-found g c rest = rw (← c.descriptor.view_is) (range_added _ _ _ _ _ _ c.in_ok-found.ensures.found)
