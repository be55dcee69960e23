use Rattle.std.proofs.Common.{◌-◌, arith}
use Rattle.std.proofs.lemmas.Bool.{leb-true}
use Rattle.vm_memory.proofs.Places.{start_below, end_above}
use Rattle.fs_regions.proofs.Reaching.{reaches_in_one}
use Rattle.fs_regions.proofs.regions.GuestRegions.has_in_one.Goals as goal

pub overflow_sub-result : goal.overflow_sub-result
overflow_sub-result c =
    let low = start_below c.args.self.now c.args.addr _ c.in-Some.ensures.found in
    omega arith

pub overflow_sub-result-in-Some : goal.overflow_sub-result-in-Some
overflow_sub-result-in-Some c =
    let high = end_above c.args.self.now c.args.addr _ c.in-Some.ensures.found in
    omega arith

pub returns-in-Some : goal.returns-in-Some
returns-in-Some c = λ within fits access.
    let low = start_below c.args.self.now c.args.addr _ c.in-Some.ensures.found in
    let high = end_above c.args.self.now c.args.addr _ c.in-Some.ensures.found in
    let most = leb-true c.args.len (c.len.result - (c.args.addr - c.start_addr.result.0)) within in
    let start = c.start_addr.ensures.start in
    let len = c.len.ensures.len in
    reaches_in_one c.args.self.now access c.args.addr c.args.len c.in-Some.region.now c.in-Some.ensures.layout c.in-Some.ensures.found
    (omega (arith, most, low, high, start, len)) fits
