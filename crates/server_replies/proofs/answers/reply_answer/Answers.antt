use Rattle.std.proofs.Common.{Ok, length, arith, sym, ap, ◌∙◌}
use Rattle.server_replies.specs.WholeReplies.{whole_or_none, bytes_of_answer}
use Rattle.server_replies.proofs.ReplyLemmas.{failure_bytes, answer_long}
use Rattle.server_replies.proofs.answers.reply_answer.Goals as goal

pub returns-then-data-gt-MOST_DATA_LEN-clause-sent : goal.returns-then-data-gt-MOST_DATA_LEN-clause-sent
returns-then-data-gt-MOST_DATA_LEN-clause-sent g c =
    let answer = g.A.GoodAnswer.said (Ok c.in-Ok.good) in
    let len = ap length c.parts-front.ensures.data in
    sym (answer_long c.args.w.now.free g.A.GoodAnswer.silent c.args.unique answer c.requires.room
    (omega (arith, len, c.if-data-gt-MOST_DATA_LEN.true)))
    ∙ ap (λ a. whole_or_none c.args.w.now.free (bytes_of_answer g.A.GoodAnswer.silent c.args.unique (g.A.GoodAnswer.said a)))
    (sym c.in-Ok.is)

pub returns-in-Err-clause-sent : goal.returns-in-Err-clause-sent
returns-in-Err-clause-sent g c =
    let failed = ap g.A.GoodAnswer.said c.in-Err.is ∙ g.A.GoodAnswer.fails c.in-Err.error in
    c.reply_error.ensures.sent
    ∙ ap (whole_or_none c.args.w.now.free) (sym (failure_bytes g.A.GoodAnswer.silent c.args.unique c.in-Err.error _ failed))
