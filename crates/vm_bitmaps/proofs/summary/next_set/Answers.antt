use Rattle.std.proofs.Common.{◌*◌, inl, inr, arith}
use Rattle.std.proofs.lemmas.Bool.{cases_lt}
use Rattle.vm_bitmaps.proofs.SummaryLemmas.{past_words}
use Rattle.vm_bitmaps.proofs.summary.next_set.Goals as goal

pub returns-then-from-words : goal.returns-then-from-words
returns-then-from-words c p low = past_words c.args.words.now p (omega arith)

pub returns : goal.returns
returns c p low = elim (cases_lt p (64 * c.loop-word.word)) [
  | inl l ↦ c.loop-word.invariant p low l
  | inr g ↦ past_words c.args.words.now p (omega arith)
]
