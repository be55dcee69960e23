use Rattle.fs_chain.proofs.HoldsAround.{sets_memory}
use Rattle.fs_chain.proofs.chain_handle.ChainHandle.set_memory.Goals as goal

pub returns-in-Free-clause-step : goal.returns-in-Free-clause-step
returns-in-Free-clause-step c =
    sets_memory c.args.self.now c.take_memory.new.self c.args.regions c.args.limit c.take_memory.result c.in-Free.is
    c.take_memory.ensures.set
