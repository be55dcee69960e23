use Rattle.std.proofs.Common.{rules}
use Rattle.fs_chain.proofs.LoadLemmas.{walks_apart}
use Rattle.fs_chain.proofs.chain_handle.ChainHandle.walk_joined.Goals as goal

pub returns-in-Ok-clause-walks : goal.returns-in-Ok-clause-walks
returns-in-Ok-clause-walks c =
    walks_apart c.args.self.now c.take_part-part.new.self c.walk_load.new.self c.keep_part.new.self c.args.queue.now c.walk_load.new.queue
    c.in-Ok.walked
    c.deref.result.now c.args.self.now.part.items c.take_part-part.ensures.apart c.keep_part.ensures.apart (search rules)
    c.in-Ok.ensures.walks
