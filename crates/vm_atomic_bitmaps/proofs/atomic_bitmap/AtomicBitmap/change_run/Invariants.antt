use Rattle.std.proofs.Common.{◌≡◌, ◌+◌, ◌-◌, ◌*◌, ◌≤◌, ◌/◌, min}
use Rattle.vm_atomic_bitmaps.specs.Passes.{counting, ChangesRun, ByChange}
use Rattle.vm_atomic_bitmaps.proofs.atomic_bitmap.AtomicBitmap.change_run.Given as goal

abbrev pub invariant-loop-word : goal.invariant-loop-word
invariant-loop-word l =
    (l.first / 64 ≤ l.word) × (l.word ≤ l.last / 64 + 1) × (l.pass ≡ counting l.initial.pass l.pass.counts.pages)
    × ChangesRun (ByChange l.change l.initial.pass.counts) l.initial.pass.counts.pages l.pass.counts.pages l.first
    (min (l.last + 1) (64 * l.word))

abbrev pub decreases-loop-word : goal.decreases-loop-word
decreases-loop-word l = l.last / 64 + 1 - l.word
