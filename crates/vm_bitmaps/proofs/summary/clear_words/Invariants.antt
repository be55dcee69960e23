use Rattle.std.proofs.Common.{◌≡◌, ℕ, ◌-◌, ◌<◌, ◌≤◌, length, get_or}
use Rattle.vm_bitmaps.proofs.summary.clear_words.Given as goal

abbrev pub invariant-loop-word : goal.invariant-loop-word
invariant-loop-word l = record {
  count : length l.words ≡ length l.initial.words;
  done : (j : ℕ) → j < l.from → get_or l.words j 0 ≡ 0;
  left : (j : ℕ) → l.from ≤ j → get_or l.words j 0 ≡ get_or l.initial.words j 0;
}

abbrev pub decreases-loop-word : goal.decreases-loop-word
decreases-loop-word l = length l.initial.words - l.from
