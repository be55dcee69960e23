use Rattle.std.proofs.Common.{sym, subst, ap, ◌∙◌, eqb, arith}
use Rattle.vm_bitmaps.specs.Pages.{IsNextMarked, mark_of}
use Rattle.vm_bitmaps.specs.Summary.{IsNextSet}
use Rattle.vm_bitmaps.proofs.PageMarks.{mark_of-marks_of}
use Rattle.vm_bitmaps.proofs.SummaryLemmas.{next_marked_is}
use Rattle.vm_bitmaps.proofs.page_bitmap.PageBitmap.next_marked.Goals as goal

pub returns-then-from-self : goal.returns-then-from-self
returns-then-from-self c p low =
    ap (λ b. mark_of b.marks p) (sym c.self.view_is) ∙ mark_of-marks_of c.self.inside.len c.self.inside.words.items p c.self.invariant.2 ∙
    ap (λ b. eqb b 1) (c.self.invariant.2.rest p (omega arith))

pub returns : goal.returns
returns c =
    subst (λ b. IsNextMarked b.marks c.args.from c.next_page.result) c.self.view_is
    (next_marked_is c.self.inside.len c.self.inside.words.items c.args.from c.next_page.result c.self.invariant.2
    (subst (λ l. IsNextSet l c.args.from c.next_page.result) c.deref.ensures.value c.next_page.ensures))
