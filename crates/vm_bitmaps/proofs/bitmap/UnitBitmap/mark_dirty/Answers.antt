use Rattle.vm_bitmaps.proofs.Marks.{marked_none}
use Rattle.vm_bitmaps.proofs.bitmap.UnitBitmap.mark_dirty.Goals as goal

pub returns-clause-marks : goal.returns-clause-marks
returns-clause-marks c = marked_none c.args._len 4096 _
