use Rattle.std.proofs.Common.{arith}
use Rattle.vm_iotlb.proofs.MapLemmas.{divides_some, divides_ended, divides_none}
use Rattle.vm_iotlb.proofs.ranges.key_from.Goals as goal

pub returns-in_default : goal.returns-in_default
returns-in_default c = divides_none c.args.ranges.now.entries c.args.addr c.requires.keyed c.requires.ranges c.in_default.ensures

pub returns-then-range-addr : goal.returns-then-range-addr
returns-then-range-addr c = divides_ended c.args.ranges.now.entries c.args.addr c.in-Some.range.now c.requires.keyed c.requires.ranges
    c.in-Some.ensures (omega arith)

pub returns : goal.returns
returns c = divides_some c.args.ranges.now.entries c.args.addr c.in-Some.range.now c.requires.keyed c.requires.ranges c.in-Some.ensures
    (omega arith)
