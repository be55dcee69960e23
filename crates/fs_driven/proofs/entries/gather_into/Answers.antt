use Rattle.fs_driven.proofs.Gathers.{gathered}
use Rattle.fs_driven.proofs.entries.gather_into.Goals as goal

pub returns : goal.returns
returns c =
    let all = c.bring_all-added in
    let ended = c.end_after-ended in
    record {
      step = gathered c.args.handle.now all.new.handle ended.new.handle c.args.queue.now c.args.ticket c.args.list.now
          all.new.list c.args.entries c.args.names c.args.failure all.result.0 all.result.1 ended.result all.ensures.all
          ended.ensures.ends;
    }
