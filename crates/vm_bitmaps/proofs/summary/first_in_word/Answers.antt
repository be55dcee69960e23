use Rattle.std.proofs.Common.{rules, ℕ, ◌+◌, ◌/◌, ◌^◌, ◌<◌, ◌%◌, get_or, refl, arith}
use Rattle.vm_bitmaps.proofs.SummaryLemmas.{rest_none, rest_some, rest_below}
use Rattle.vm_bitmaps.proofs.summary.first_in_word.Goals as goal

pub overflow_add-result : goal.overflow_add-result
overflow_add-result c =
    let fits : (w : ℕ) → get_or c.args.words.now w 0 < 2 ^ 64 = search rules in
    let below : c.args.from % 64 + c.lowest_bit.result < 64 =
    rest_below c.args.words.now c.args.from _ c.lowest_bit.result (fits (c.args.from / 64)) refl c.lowest_bit.ensures.set in
    omega (arith, below, c.ranges.from.fits)

pub returns-then-rest-eq0 : goal.returns-then-rest-eq0
returns-then-rest-eq0 c = rest_none c.args.words.now c.args.from _ refl c.if-rest-eq0.true

pub returns-else-rest-eq0 : goal.returns-else-rest-eq0
returns-else-rest-eq0 c =
    let fits : (w : ℕ) → get_or c.args.words.now w 0 < 2 ^ 64 = search rules in
    rest_some c.args.words.now c.args.from _ c.lowest_bit.result (fits (c.args.from / 64)) refl c.lowest_bit.ensures.set
    c.lowest_bit.ensures.lowest
