use Rattle.plain_machine.specs.Examples.{queue, with_one_request}
use Rattle.law_callers.proofs.walks.bound_a_walk.Goals as goal

pub returns : goal.returns
returns c n more = c.law_walks_end.ensures with_one_request queue 0 n more
