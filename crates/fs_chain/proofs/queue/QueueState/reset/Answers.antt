use Rattle.std.proofs.Common.{refl}
use Rattle.fs_chain.proofs.HoldsAround.{resets}
use Rattle.fs_chain.proofs.queue.QueueState.reset.Goals as goal

pub returns-clause-step : goal.returns-clause-step
returns-clause-step c = resets c.args.self.now _ c.args.layout c.args.position refl c.ranges.position.fits
