use Rattle.std.proofs.Common.{◌-◌, arith}
use Rattle.vm_memory.proofs.ChangeLemmas.{end_at-get, on_le, on_gt}
use Rattle.vm_memory.proofs.collection.GuestRegionCollection.ends_past.Goals as goal

pub returns-clause-past : goal.returns-clause-past
returns-clause-past g c =
    let ends = end_at-get c.args.self.now (c.args.at - 1) _ c.region.ensures in
    on_le c.args.addr c.last_addr.result.0 _ (λ h. (omega arith, omega arith))

pub returns-clause-before : goal.returns-clause-before
returns-clause-before g c =
    let ends = end_at-get c.args.self.now (c.args.at - 1) _ c.region.ensures in
    on_gt c.args.addr c.last_addr.result.0 _ (λ h some. omega arith)
