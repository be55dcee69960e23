use Rattle.std.proofs.Common.{[]}
use Rattle.live_machine.proofs.SeveralRuns.{by_event, keeps_order, once, one_at_a_time, used_in_order}
use Rattle.live_machine.proofs.law_queues.Goals as goal

pub returns-clause-once : goal.returns-clause-once
returns-clause-once c = λ w w' chains' es run. once w w' [] chains' es run

pub returns-clause-used : goal.returns-clause-used
returns-clause-used c = used_in_order

pub returns-clause-one : goal.returns-clause-one
returns-clause-one c = λ w w' chains' es same serial run. one_at_a_time w w' [] chains' es same serial run

pub returns-clause-order : goal.returns-clause-order
returns-clause-order c = keeps_order

pub returns-clause-event : goal.returns-clause-event
returns-clause-event c = by_event
