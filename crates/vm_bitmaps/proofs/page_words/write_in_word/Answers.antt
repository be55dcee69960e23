use Rattle.vm_bitmaps.proofs.Words.{one_word}
use Rattle.vm_bitmaps.proofs.page_words.write_in_word.Goals as goal

pub returns : goal.returns
returns c =
    one_word c.args.words.now c.args.index c.args.from c.args.to c.written.result c.args.mark c.requires.inside c.requires.ordered
    c.requires.within c.written.ensures
