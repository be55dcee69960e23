use Rattle.fs_chain.proofs.PoppingAhead.{pops_stopped}
use Rattle.fs_chain.proofs.chain_handle.ChainHandle.begin_course_ahead.Goals as goal

pub returns-in-Some : goal.returns-in-Some
returns-in-Some c =
    record {
      pops = pops_stopped c.args.self.now c.clear_part.new.self c.args.queue.now _ _ c.requires.free c.requires.room c.in-Some.is
          c.clear_part.ensures.stays c.clear_part.ensures.cleared;
    }

pub returns-in-Some-event_fault : goal.returns-in-Some-event_fault
returns-in-Some-event_fault c = record { pops = c.begin_lacking.ensures.pops _ }
