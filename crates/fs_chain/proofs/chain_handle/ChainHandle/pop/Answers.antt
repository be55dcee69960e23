use Rattle.fs_chain.proofs.Ending.{ends_soon}
use Rattle.fs_chain.proofs.chain_handle.ChainHandle.pop.Goals as goal

pub returns-clause-few : goal.returns-clause-few
returns-clause-few c =
    ends_soon c.args.self.now c.walk_whole.new.self c.args.queue.now c.walk_whole.new.queue c.args.loaded.now c.walk_whole.result
    c.walk_whole.ensures.proceeds
