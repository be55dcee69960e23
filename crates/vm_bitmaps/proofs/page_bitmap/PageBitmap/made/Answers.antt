use Rattle.vm_bitmaps.proofs.PageMarks.{clean_zeros, marks_of-zeros}
use Rattle.vm_bitmaps.proofs.SummaryLemmas.{zeros_summary}
use Rattle.vm_bitmaps.proofs.page_bitmap.PageBitmap.made.Goals as goal

pub invariant_of-result : goal.invariant_of-result
invariant_of-result c = rw (c.in_ok-zeros.ensures, c.in_ok-zeros-2.ensures)
    (c.requires, c.div_ceil-len.ensures, clean_zeros _ _ c.div_ceil-count.ensures, zeros_summary _ _ c.div_ceil.ensures)

pub returns : goal.returns
returns c = rw (c.in_ok-zeros.ensures, marks_of-zeros, c.div_ceil-len.ensures)
