use Rattle.std.proofs.Common.{length, sym, ap, ◌∙◌}
use Rattle.vm_bitmaps.proofs.PageMarks.{length-marks_of}
use Rattle.vm_bitmaps.proofs.page_bitmap.PageBitmap.len.Goals as goal

pub returns-clause-marks : goal.returns-clause-marks
returns-clause-marks c =
    sym (length-marks_of c.self.inside.len c.self.inside.words.items) ∙ ap (λ b. length b.marks) c.self.view_is
