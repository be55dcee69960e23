use Rattle.std.proofs.Common.{◌-◌, arith}
use Rattle.vm_iotlb.proofs.MapLemmas.{reaches_none}
use Rattle.vm_iotlb.proofs.ranges.reaching_from.Goals as goal

pub returns-in-Some-2 : goal.returns-in-Some-2
returns-in-Some-2 c = reaches_none c.args.ranges.now.entries (c.args.addr - 1) c.args.addr c.in-Some.range.now c.requires.keyed
    c.requires.ranges (omega arith) c.in-Some.ensures (omega arith)
