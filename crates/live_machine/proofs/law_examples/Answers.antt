use Rattle.live_machine.proofs.InitBesideRun.{init_beside}
use Rattle.live_machine.proofs.OverlapRun.{overlap}
use Rattle.live_machine.proofs.RewrittenRun.{rewritten}
use Rattle.live_machine.proofs.law_examples.Goals as goal

pub returns-clause-overlap : goal.returns-clause-overlap
returns-clause-overlap g c = overlap _

pub returns-clause-rewritten : goal.returns-clause-rewritten
returns-clause-rewritten g c = rewritten _

pub returns-clause-init : goal.returns-clause-init
returns-clause-init g c = init_beside _
