use Rattle.std.proofs.Common.{arith, refl}
use Rattle.vm_bitmaps.proofs.Marks.{marked_past}
use Rattle.vm_bitmaps.proofs.offset_bitmap.BaseSliceBitmap.mark_dirty.Goals as goal

pub returns-in_default-clause-marks : goal.returns-in_default-clause-marks
returns-in_default-clause-marks g c =
    marked_past c.args.len _ _ _ (omega (arith, c.in_default.ensures))

pub returns-in_default-clause-preserved : goal.returns-in_default-clause-preserved
returns-in_default-clause-preserved g c = (refl, g.met.B.Bitmap.keeps_same c.args.self.now.inner)
