use Rattle.std.proofs.Common.{◌≡◌, ap, sym, ◌∙◌, subst, arith}
use Rattle.vm_bitmaps.specs.Words.{page_bit}
use Rattle.vm_atomic_bitmaps.specs.declared.counts.Tally.{Tally}
use Rattle.vm_atomic_bitmaps.specs.declared.counts.PageCounts.{PageCounts}
use Rattle.vm_atomic_bitmaps.specs.Counts.{tally_of, both_passes, both_of, IsWhole}
use Rattle.vm_atomic_bitmaps.specs.Steps.{Settles}
use Rattle.vm_atomic_bitmaps.specs.Passes.{Pass}
use Rattle.vm_atomic_bitmaps.proofs.PassTotals.{at_each}
use Rattle.worked_callers.proofs.TwoPasses.{halves_whole}
use Rattle.worked_callers.proofs.marks.settle.Goals as goal

pub returns-in-Ok : goal.returns-in-Ok
returns-in-Ok c p l =
    let a = c.args.first.counts in
    let b = c.args.second.counts in
    let both : c.join_pass.new.pass.counts ≡ both_passes a b = ap (λ (q : Pass). q.counts) c.join_pass.ensures.pass in
    let whole : IsWhole c.join_pass.new.pass.counts = subst IsWhole (sym both) (halves_whole a b c.requires.halves.0 c.requires.halves.1) in
    let long = c.requires.first.1 in
    let long' = c.join_pass.ensures.own.1 in
    let page : tally_of c.join_pass.new.pass.counts.pages p ≡ both_of (tally_of a.pages p) (tally_of b.pages p) =
    ap (λ (v : PageCounts). tally_of v.pages p) both ∙ at_each (λ k t. both_of t (tally_of b.pages k)) a.pages p (omega arith) in
    subst (λ (t : Tally). Settles t (page_bit c.in-Ok.left.items p)) page (c.in-Ok.ensures.whole whole p (omega arith))
