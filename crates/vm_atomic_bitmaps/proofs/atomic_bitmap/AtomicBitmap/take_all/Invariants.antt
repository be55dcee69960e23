use Rattle.std.proofs.Common.{◌≡◌, ℕ, ◌-◌, ◌*◌, ◌<◌, ◌≤◌, length}
use Rattle.std.specs.Int.{div_ceil}
use Rattle.vm_bitmaps.specs.Words.{page_bit}
use Rattle.vm_atomic_bitmaps.specs.Counts.{tally_of, IsWhole}
use Rattle.vm_atomic_bitmaps.specs.Steps.{Settles}
use Rattle.vm_atomic_bitmaps.specs.Passes.{counting, ChangesRun, ByGathering}
use Rattle.vm_atomic_bitmaps.proofs.atomic_bitmap.AtomicBitmap.take_all.Given as goal

abbrev pub invariant-loop-i : goal.invariant-loop-i
invariant-loop-i l =
    (length l.words ≡ div_ceil l.self.len 64) × (l.i ≤ length l.words) × (l.pass ≡ counting l.initial.pass l.pass.counts.pages)
    × ChangesRun (ByGathering l.words) l.initial.pass.counts.pages l.pass.counts.pages 0 (64 * l.i)
    × ((p : ℕ) → l.self.len ≤ p → page_bit l.words p ≡ 0)
    × (IsWhole l.initial.pass.counts → (p : ℕ) → p < length l.initial.pass.counts.pages → p < 64 * l.i →
    Settles (tally_of l.initial.pass.counts.pages p) (page_bit l.words p))

abbrev pub decreases-loop-i : goal.decreases-loop-i
decreases-loop-i l = length l.words - l.i
