use Rattle.std.proofs.Common.{◌-◌, arith}
use Rattle.vm_memory.proofs.Places.{start_below, end_above}
use Rattle.fs_regions.proofs.Reaching.{lies_in_one}
use Rattle.fs_regions.proofs.regions.GuestRegions.place_at.Goals as goal

pub overflow_sub-offset : goal.overflow_sub-offset
overflow_sub-offset c =
    let low = start_below c.args.self.now c.args.addr _ c.in-Some.ensures.found in
    omega arith

pub overflow_sub-len : goal.overflow_sub-len
overflow_sub-len c =
    let high = end_above c.args.self.now c.args.addr _ c.in-Some.ensures.found in
    omega arith

pub returns-then-len-offset : goal.returns-then-len-offset
returns-then-len-offset c =
    lies_in_one c.args.self.now c.args.addr c.args.len c.start_addr.result.0 c.len.result _ c.in-Some.region.now
    c.find.ensures.layout c.in-Some.ensures.found c.start_addr.ensures.start c.len.ensures.len c.requires (omega arith)
    (omega (arith, c.if-len-offset.true)) c.place_of.ensures
