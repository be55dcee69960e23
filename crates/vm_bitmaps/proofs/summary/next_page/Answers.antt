use Rattle.std.proofs.Common.{rules, ℕ, ◌^◌, ◌<◌, get_or, arith}
use Rattle.vm_bitmaps.proofs.SummaryLemmas.{past_words, next_none, next_some}
use Rattle.vm_bitmaps.proofs.summary.next_page.Goals as goal

pub returns-then-from-words : goal.returns-then-from-words
returns-then-from-words c p low = past_words c.args.words.now p (omega arith)

pub returns-in_default-next_set : goal.returns-in_default-next_set
returns-in_default-next_set c =
    next_none c.args.words.now c.args.summary.now c.args.from c.requires.summary c.in_default.ensures c.in_default-next_set.ensures

pub returns : goal.returns
returns c =
    let fits : (w : ℕ) → get_or c.args.words.now w 0 < 2 ^ 64 = search rules in
    next_some c.args.words.now c.args.summary.now c.args.from c.in-Some-next_set.word c.first_in_word-2.result fits c.requires.summary
    c.in_default.ensures
    c.in-Some-next_set.ensures c.first_in_word-2.ensures
