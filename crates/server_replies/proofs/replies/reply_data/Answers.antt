use Rattle.std.proofs.Common.{refl}
use Rattle.server_replies.proofs.ReplyLemmas.{data_put}
use Rattle.server_replies.proofs.replies.reply_data.Goals as goal

pub returns-in-Ok-clause-reply : goal.returns-in-Ok-clause-reply
returns-in-Ok-clause-reply c =
    rw c.in-Ok.is (data_put _ _ c.in-Ok.n _ _ _ c.header_bytes.ensures c.put_front.ensures.written refl
    (c.requires.count c.in-Ok.n c.in-Ok.is))
