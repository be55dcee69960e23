use Rattle.std.proofs.Common.{arith}
use Rattle.vm_memory.proofs.LayoutLemmas.{start_at-get}
use Rattle.vm_memory.proofs.ChangeLemmas.{on_le, on_gt}
use Rattle.vm_memory.proofs.collection.GuestRegionCollection.begins_by.Goals as goal

pub returns-clause-by : goal.returns-clause-by
returns-clause-by g c =
    let begins = start_at-get c.args.self.now c.args.at _ c.region.ensures in
    on_le c.start_addr.result.0 c.args.addr _ (λ h. (omega arith, omega arith))

pub returns-clause-above : goal.returns-clause-above
returns-clause-above g c =
    let begins = start_at-get c.args.self.now c.args.at _ c.region.ensures in
    on_gt c.start_addr.result.0 c.args.addr _ (λ h within. omega arith)
