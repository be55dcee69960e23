use Rattle.std.proofs.Common.{◌-◌, arith, ap, ◌∙◌, sym}
use Rattle.vm_memory.specs.Regions.{window_in}
use Rattle.vm_memory.proofs.Places.{start_below, end_above, region_at-None, window_found, window_held, window_longest, window_refused}
use Rattle.vm_memory.proofs.slice_iterator.window_at.Goals as goal

pub overflow_sub-offset : goal.overflow_sub-offset
overflow_sub-offset g c =
    let low = start_below (g.M.GuestMemoryBackend.layout c.args.memory.now) c.args.addr _ c.in-Some.ensures.found in
    omega arith

pub overflow_sub-len : goal.overflow_sub-len
overflow_sub-len g c =
    let high = end_above (g.M.GuestMemoryBackend.layout c.args.memory.now) c.args.addr _ c.in-Some.ensures.found in
    omega arith

pub returns-in-Ok-clause-some : goal.returns-in-Ok-clause-some
returns-in-Ok-clause-some g c =
    window_found (g.M.GuestMemoryBackend.layout c.args.memory.now) c.args.addr c.args.most c.start_addr.result.0 c.len.result _
    c.in-Ok.window c.find_region.ensures.layout c.in-Some.ensures.found
    c.start_addr.ensures.start c.len.ensures.len c.requires (omega arith)
    (c.in-Ok.ensures ∙ ap (λ n. window_in (g.M.R.GuestMemoryRegion.region c.in-Some.region.now) (c.args.addr - c.start_addr.result.0) n)
    c.min-len.ensures)

pub returns-in-Ok-clause-longest : goal.returns-in-Ok-clause-longest
returns-in-Ok-clause-longest g c =
    window_longest (g.M.GuestMemoryBackend.layout c.args.memory.now) c.args.addr c.args.most c.start_addr.result.0 c.len.result _
    c.in-Ok.window c.in-Some.ensures.found c.start_addr.ensures.start
    c.len.ensures.len (c.in-Ok.ensures
    ∙ ap (λ n. window_in (g.M.R.GuestMemoryRegion.region c.in-Some.region.now) (c.args.addr - c.start_addr.result.0) n) c.min-len.ensures)

pub returns-in-Ok-clause-held : goal.returns-in-Ok-clause-held
returns-in-Ok-clause-held g c lengths held =
    window_held lengths (g.M.GuestMemoryBackend.layout c.args.memory.now) c.args.addr c.args.most c.start_addr.result.0 c.len.result _
    c.in-Ok.window c.in-Some.ensures.found
    c.start_addr.ensures.start c.len.ensures.len
    (c.in-Ok.ensures ∙ ap (λ n. window_in (g.M.R.GuestMemoryRegion.region c.in-Some.region.now) (c.args.addr - c.start_addr.result.0) n)
    c.min-len.ensures) held

pub returns-in-Err-clause-none : goal.returns-in-Err-clause-none
returns-in-Err-clause-none g c = λ none.
    absurd (window_refused (g.M.GuestMemoryBackend.layout c.args.memory.now) c.args.addr c.args.most c.start_addr.result.0 c.len.result _
    c.in-Err.field-0 c.in-Some.ensures.found
    c.start_addr.ensures.start c.len.ensures.len
    (c.in-Err.ensures ∙ ap (λ n. window_in (g.M.R.GuestMemoryRegion.region c.in-Some.region.now) (c.args.addr - c.start_addr.result.0) n)
    c.min-len.ensures))

pub returns-in-None-clause-none : goal.returns-in-None-clause-none
returns-in-None-clause-none g c =
    λ none. region_at-None (g.M.GuestMemoryBackend.layout c.args.memory.now) c.args.addr (sym c.in-None.ensures.found)
