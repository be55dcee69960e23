use Rattle.vm_bitmaps.proofs.Words.{mask_is}
use Rattle.vm_bitmaps.proofs.page_words.mask.Goals as goal

pub returns : goal.returns
returns c = mask_is c.args.from c.args.to c.requires.ordered c.requires.within
