use Rattle.std.proofs.Common.{◌≡◌, ℕ, ◌*◌, ◌<◌, ◌≤◌}
use Rattle.vm_bitmaps.specs.Words.{page_bit}
use Rattle.vm_bitmaps.proofs.summary.next_set.Given as goal

abbrev pub invariant-loop-word : goal.invariant-loop-word
invariant-loop-word l = (p : ℕ) → l.from ≤ p → p < 64 * l.word → page_bit l.words p ≡ 0
