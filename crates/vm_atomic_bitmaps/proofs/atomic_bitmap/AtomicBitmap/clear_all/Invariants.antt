use Rattle.std.proofs.Common.{◌≡◌, ◌-◌, ◌*◌, ◌≤◌}
use Rattle.std.specs.Int.{div_ceil}
use Rattle.vm_atomic_bitmaps.specs.Passes.{counting, ChangesRun, ByClearing}
use Rattle.vm_atomic_bitmaps.proofs.atomic_bitmap.AtomicBitmap.clear_all.Given as goal

abbrev pub invariant-loop-i : goal.invariant-loop-i
invariant-loop-i l =
    (l.i ≤ div_ceil l.self.len 64) × (l.pass ≡ counting l.initial.pass l.pass.counts.pages)
    × ChangesRun (ByClearing l.initial.pass.counts) l.initial.pass.counts.pages l.pass.counts.pages 0 (64 * l.i)

abbrev pub decreases-loop-i : goal.decreases-loop-i
decreases-loop-i l = div_ceil l.self.len 64 - l.i
