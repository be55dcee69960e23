use Rattle.std.proofs.Common.{rules}
use Rattle.vm_atomic_bitmaps.proofs.PageRuns.{zero_bits}
use Rattle.vm_atomic_bitmaps.proofs.atomic_bitmap.AtomicBitmap.get_and_reset.Goals as goal

pub take_all-requires-clause-clear : goal.take_all-requires-clause-clear
take_all-requires-clause-clear c = zero_bits c.deref_mut.result.now c.words.result (search rules)
