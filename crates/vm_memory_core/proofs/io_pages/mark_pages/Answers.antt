use Rattle.std.proofs.Common.{◌≡◌, ◌+◌, ◌-◌, Bool, List, get_or, set, ap, sym, ◌∙◌, arith}
use Rattle.vm_bitmaps.specs.Pages.{marked_range}
use Rattle.vm_memory_core.proofs.Stores.{changed_at-id, changed_at-past, changed_at-set, marked_range-past}
use Rattle.vm_memory_core.proofs.io_pages.mark_pages.Goals as goal

pub returns-in-Some : goal.returns-in-Some
returns-in-Some g c =
    let l = c.args.sets.now in
    let i = c.args.marks.set in
    let old = c.index-sets-marks.result in
    let address : 0 + c.in-Some.address ≡ c.args.marks.base + (c.args.offset - c.args.marks.from) = omega (arith, c.in-Some.ensures) in
    ap (λ (m : List Bool). set l i m) (c.mark_dirty.ensures.marks ∙ ap (λ a. marked_range 4096 (get_or l i old) a c.args.count) address)
    ∙ sym (changed_at-set l i _ old)

pub returns-in_default : goal.returns-in_default
returns-in_default g c =
    sym (changed_at-id c.args.sets.now c.args.marks.set _ (λ m. marked_range-past c.args.count m _ (omega (arith, c.in_default.ensures))))

pub returns-else-marks-sets : goal.returns-else-marks-sets
returns-else-marks-sets g c = sym (changed_at-past c.args.sets.now c.args.marks.set _ (omega arith))
