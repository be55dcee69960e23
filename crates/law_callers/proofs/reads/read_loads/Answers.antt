use Rattle.fs_queue.specs.Chain.{IsChain}
use Rattle.fs_queue.specs.Taking.{offer}
use Rattle.plain_machine.specs.Examples.{queue, with_one_request}
use Rattle.law_callers.specs.Worked.{two_descriptors, unknown_loads}
use Rattle.law_callers.proofs.Steps.{chain_is_found_exactly, entries_are}
use Rattle.law_callers.proofs.reads.read_loads.Goals as goal

pub returns-clause-walk : goal.returns-clause-walk
returns-clause-walk c =
    c.law_reads_are_loads.ensures.walks with_one_request queue 0 unknown_loads.entries (IsChain two_descriptors) entries_are
    chain_is_found_exactly

pub returns-clause-offers : goal.returns-clause-offers
returns-clause-offers c m h =
    c.law_reads_are_loads.ensures.offers m 0x101000 queue h.index h.entry h.entries h.request (offer m 0x101000 queue) h.are h.offered
