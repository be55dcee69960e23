use Rattle.vm_bitmaps.proofs.Words.{whole_words, all_ones, all_zeros}
use Rattle.vm_bitmaps.proofs.page_words.write_whole_words.Goals as goal
use Rattle.vm_bitmaps.proofs.page_words.write_whole_words.Goals.{then-mark, else-mark}

pub returns : goal.returns
returns c = elim c.if-mark.branch [
  | then-mark w ↦ rw (c.fill_words.ensures, w.fill_words-is, w.if-mark.true)
      (whole_words c.args.words.now c.args.from c.args.to _ _ c.requires.ordered c.requires.within all_ones)
  | else-mark w ↦ rw (c.fill_words.ensures, w.fill_words-is, w.if-mark.false)
      (whole_words c.args.words.now c.args.from c.args.to _ _ c.requires.ordered c.requires.within all_zeros)
]
