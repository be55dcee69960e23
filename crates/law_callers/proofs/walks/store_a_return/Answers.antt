use Rattle.plain_machine.specs.Examples.{queue}
use Rattle.law_callers.proofs.walks.store_a_return.Goals as goal

pub returns : goal.returns
returns c room reply = c.law_returns.ensures queue 0 room reply
