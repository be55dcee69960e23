use Rattle.fs_queue.specs.Taking.{offer}
use Rattle.fs_queue.proofs.queue.Queue.take.Goals as goal

pub returns-then-self-clause-takes : goal.returns-then-self-clause-takes
unfolding offer
returns-then-self-clause-takes g c = rw (← c.self.view_is, c.if-self.true)
