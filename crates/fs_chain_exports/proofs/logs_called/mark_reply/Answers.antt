use Rattle.fs_chain_c.proofs.CalledLogs.{marks_reply}
use Rattle.fs_chain_exports.proofs.logs_called.mark_reply.Goals as goal

pub returns : goal.returns
returns c =
    record {
      marks =
          marks_reply c.law_log.ensures.room c.args.chain.now.held.value c.pk_reply_ranges.new.chain.held.value c.args.from c.args.len
          c.args.ranges.now c.pk_reply_ranges.new.ranges c.pk_reply_ranges.result c.pk_reply_ranges.ensures;
      fills = c.pk_reply_ranges.ensures;
    }
