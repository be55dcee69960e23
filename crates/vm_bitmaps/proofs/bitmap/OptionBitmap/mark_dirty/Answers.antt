use Rattle.vm_bitmaps.proofs.Marks.{marked_none}
use Rattle.vm_bitmaps.proofs.bitmap.OptionBitmap.mark_dirty.Goals as goal

pub returns-in_default-clause-marks : goal.returns-in_default-clause-marks
returns-in_default-clause-marks g c = rw c.in_default.is (marked_none c.args.len 4096 _)
