use Rattle.vm_iotlb.proofs.Canonical.{canonical}
use Rattle.vm_iotlb.proofs.iotlb.Iotlb.law_canonical.Goals as goal

pub returns : goal.returns
returns c = canonical c.args.self.now c.args.other.now (rw c.self.view_is at c.self.invariant.1) (rw c.other.view_is at c.other.invariant.1)
