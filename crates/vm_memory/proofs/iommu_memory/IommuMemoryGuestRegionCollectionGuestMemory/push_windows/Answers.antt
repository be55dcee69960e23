use Rattle.std.proofs.Common.{ℕ, subst}
use Rattle.vm_memory.specs.Memory.{circular, table_in}
use Rattle.vm_memory.specs.Slices.{AddsLongest}
use Rattle.vm_memory.specs.Translated.{translated_left}
use Rattle.vm_memory.proofs.iommu_memory.IommuMemoryGuestRegionCollectionGuestMemory.push_windows.Goals as goal

pub returns-then-not-self-clause-found : goal.returns-then-not-self-clause-found
returns-then-not-self-clause-found g c = rw c.if-not-self.true c.push_windows.ensures.found

pub returns-then-not-self-clause-longest : goal.returns-then-not-self-clause-longest
returns-then-not-self-clause-longest g c = rw c.if-not-self.true c.push_windows.ensures.longest

pub returns-in-Ok-clause-longest : goal.returns-in-Ok-clause-longest
returns-in-Ok-clause-longest g c =
    rw c.if-not-self.false
    (subst (λ (t : ℕ). AddsLongest (translated_left c.args.self.now.backend (table_in (g.H.HostBlocks.host c.args.h.now) t))
    (circular c.args.addr.0 c.args.count) c.args.windows.now.items c.push_io.new.windows.items)
    c.table-table.ensures c.push_io.ensures.longest)
