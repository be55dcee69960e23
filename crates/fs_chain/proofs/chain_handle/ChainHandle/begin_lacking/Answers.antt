use Rattle.fs_chain.proofs.PoppingAhead.{pops_lacking}
use Rattle.fs_chain.proofs.chain_handle.ChainHandle.begin_lacking.Goals as goal

pub returns : goal.returns
returns c =
    record {
      pops = λ ahead. pops_lacking c.args.self.now c.begin_without_events-walked.new.self c.clear_part.new.self c.args.queue.now
          c.begin_without_events-walked.new.queue ahead c.begin_without_events-walked.result c.args.error c.requires.free c.requires.room
          c.requires.proceeds c.requires.events c.begin_without_events-walked.ensures.lacks c.clear_part.ensures.cleared
          c.clear_part.ensures.apart;
    }
