use Rattle.std.proofs.Common.{sym, ap, ◌∙◌, arith, false}
use Rattle.std.proofs.lemmas.Bool.{le-ltb}
use Rattle.std.proofs.lemmas.List.{get_or_past}
use Rattle.std.proofs.lemmas.Option.{unwrap_or-slice_get}
use Rattle.vm_bitmaps.specs.Pages.{mark_of}
use Rattle.vm_bitmaps.proofs.PageMarks.{mark_of-marks_of, bit_read, length-marks_of}
use Rattle.vm_bitmaps.proofs.page_bitmap.PageBitmap.is_bit_set.Goals as goal

pub returns-then-index-self : goal.returns-then-index-self
returns-then-index-self c =
    let count = c.self.invariant.2.count in
    bit_read c.self.inside.words.items c.args.index c.index.result.now (omega arith) c.index.ensures ∙
    sym (mark_of-marks_of c.self.inside.len c.self.inside.words.items c.args.index c.self.invariant.2) ∙
    ap (λ b. mark_of b.marks c.args.index) c.self.view_is

pub returns-else-index-self : goal.returns-else-index-self
returns-else-index-self c =
    let m = c.self.inside in
    let count = length-marks_of m.len m.words.items in
    le-ltb c.args.index m.len c.if-index-self.false ∙
    sym (unwrap_or-slice_get _ c.args.index false ∙ get_or_past _ c.args.index false (omega arith)) ∙
    ap (λ b. mark_of b.marks c.args.index) c.self.view_is
