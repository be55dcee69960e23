use Rattle.std.proofs.Common.{[], refl}
use Rattle.fs_queue.specs.Chain.{IsChain}
use Rattle.plain_machine.specs.Examples.{queue}
use Rattle.law_callers.specs.Worked.{two_descriptors, unknown_loads, visit_at}
use Rattle.law_callers.proofs.Steps.{chain_is_found_exactly}
use Rattle.law_callers.proofs.walks.load_anything.Goals as goal

pub returns-clause-few : goal.returns-clause-few
returns-clause-few c came = c.law_any_loads.ensures.few queue 0 came

pub returns-clause-end : goal.returns-clause-end
returns-clause-end c came more = c.law_any_loads.ensures.end queue 0 came more

pub returns-clause-read : goal.returns-clause-read
returns-clause-read c = c.law_any_loads.ensures.read queue 0 unknown_loads.entries (IsChain two_descriptors)
    (c.law_loads.ensures.rest queue 0 unknown_loads.entries [] (IsChain two_descriptors) chain_is_found_exactly)

pub returns-clause-once : goal.returns-clause-once
returns-clause-once c = c.law_any_loads.ensures.once queue 0 unknown_loads.entries (IsChain two_descriptors)
    (c.law_loads.ensures.rest queue 0 unknown_loads.entries [] (IsChain two_descriptors) chain_is_found_exactly)

pub returns-clause-apart : goal.returns-clause-apart
returns-clause-apart c i j before behind = c.law_any_loads.ensures.apart (visit_at i) (visit_at j) refl before behind
