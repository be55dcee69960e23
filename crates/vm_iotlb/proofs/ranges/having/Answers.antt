use Rattle.std.proofs.Common.{arith}
use Rattle.vm_iotlb.proofs.MapLemmas.{has_none}
use Rattle.vm_iotlb.proofs.ranges.having.Goals as goal

pub returns-in-Some-2 : goal.returns-in-Some-2
returns-in-Some-2 c =
    has_none c.args.ranges.now.entries c.args.addr c.in-Some.range.now c.requires.keyed c.requires.ranges c.in-Some.ensures (omega arith)
