use Rattle.std.proofs.Common.{ℕ, ◌<◌}
use Rattle.vm_memory_core.specs.Host.{lengths}
use Rattle.vm_memory.proofs.LayoutLemmas.{region_of, HasBlock}
use Rattle.vm_memory.proofs.held.GuestRegionCollectionHeldIn.is_held.Given as goal

abbrev pub invariant-loop-at : goal.invariant-loop-at
invariant-loop-at g l = (k : ℕ) → k < l.at → HasBlock (lengths (g.H.HostBlocks.host l.h)) (region_of l.self k)
