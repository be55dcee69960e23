use Rattle.std.proofs.Common.{◌≡◌, ◌∙◌, ap, arith, length, sym}
use Rattle.vm_values.specs.Fields.{spelled}
use Rattle.server_replies.proofs.ReplyLemmas.{record_put}
use Rattle.server_replies.proofs.fronts.put_reply.Goals as goal

pub returns : goal.returns
returns g c =
    let size : length (spelled (g.T.ByteValued.fields c.args.body.now)) ≡ g.T.ByteValued.SIZE =
    ap length (sym c.put_bytes-2.ensures.bytes) ∙ omega arith in
    record_put _ _ _ _ _ c.put_bytes.ensures.bytes c.put_bytes-2.ensures.bytes (omega (arith, size))
