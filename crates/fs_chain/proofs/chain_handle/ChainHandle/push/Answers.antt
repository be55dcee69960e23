use Rattle.std.proofs.Common.{refl}
use Rattle.fs_chain.proofs.HoldsPushed.{pushes_from}
use Rattle.fs_chain.proofs.chain_handle.ChainHandle.push.Goals as goal

pub returns-in-Ok-clause-step : goal.returns-in-Ok-clause-step
returns-in-Ok-clause-step c =
    let e = c.in-Ok.ensures in
    pushes_from c.args.self.now _ c.args.queue.now c.args.front.now c.stores_of.new.front c.in-Ok.stores c.in-Replied.out
    c.in-Replied.reply c.in-Replied.is e.ok e.ring refl e.stores e.front
