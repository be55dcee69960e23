use Rattle.std.proofs.Common.{◌-◌, arith, ap, ◌∙◌, sym}
use Rattle.vm_memory.specs.Regions.{window_in}
use Rattle.vm_memory.proofs.Places.{start_below, end_above, region_at-None, window_found, window_longest, window_refused}
use Rattle.fs_regions.proofs.regions.GuestRegions.window_at.Goals as goal

pub overflow_sub-offset : goal.overflow_sub-offset
overflow_sub-offset c =
    let low = start_below c.args.self.now c.args.addr _ c.in-Some.ensures.found in
    omega arith

pub overflow_sub-len : goal.overflow_sub-len
overflow_sub-len c =
    let high = end_above c.args.self.now c.args.addr _ c.in-Some.ensures.found in
    omega arith

pub returns-in-Ok-clause-some : goal.returns-in-Ok-clause-some
returns-in-Ok-clause-some c =
    window_found c.args.self.now c.args.addr c.args.most c.start_addr.result.0 c.len.result _ c.in-Ok.window
    c.find.ensures.layout c.in-Some.ensures.found
    c.start_addr.ensures.start c.len.ensures.len c.requires (omega arith)
    (c.in-Ok.ensures ∙ ap (λ n. window_in c.in-Some.region.now (c.args.addr - c.start_addr.result.0) n) c.min-len.ensures)

pub returns-in-Ok-clause-longest : goal.returns-in-Ok-clause-longest
returns-in-Ok-clause-longest c =
    window_longest c.args.self.now c.args.addr c.args.most c.start_addr.result.0 c.len.result _ c.in-Ok.window c.in-Some.ensures.found
    c.start_addr.ensures.start
    c.len.ensures.len (c.in-Ok.ensures
    ∙ ap (λ n. window_in c.in-Some.region.now (c.args.addr - c.start_addr.result.0) n) c.min-len.ensures)

pub returns-in-Err-clause-none : goal.returns-in-Err-clause-none
returns-in-Err-clause-none c = λ none.
    absurd (window_refused c.args.self.now c.args.addr c.args.most c.start_addr.result.0 c.len.result _ c.in-Err.field-0
    c.in-Some.ensures.found
    c.start_addr.ensures.start c.len.ensures.len
    (c.in-Err.ensures ∙ ap (λ n. window_in c.in-Some.region.now (c.args.addr - c.start_addr.result.0) n) c.min-len.ensures))

pub returns-in-None-clause-none : goal.returns-in-None-clause-none
returns-in-None-clause-none c =
    λ none. region_at-None c.args.self.now c.args.addr (sym c.in-None.ensures.found)
