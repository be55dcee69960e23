use Rattle.std.proofs.Common.{Ok}
use Rattle.fs_queue.specs.Windows.{HoldsChain}
use Rattle.fs_device.proofs.ServeLemmas.{served_chain}
use Rattle.fs_device.proofs.answer_by_copy.serve.Goals as goal

pub returns-in-Some-clause-exchange : goal.returns-in-Some-clause-exchange
returns-in-Some-clause-exchange g c m q fetched taken read =
    let held : HoldsChain m fetched (Ok c.in-Ok.field-0.now) = rw (← c.in-Ok.ensures) taken.chain in
    let exchanged = rw (c.of_slice.ensures.left, c.deref.ensures.value, c.requires, c.in-Ok.ensures) at c.in-Some.ensures.answered.0 in (
      exchanged.0,
      served_chain g.F.FileSystemBase.may _ _ _ m fetched c.in-Ok.field-0.now c.args.taken.now.head c.head-head.result _ _ _ exchanged.0
          held
          c.head-head.ensures read exchanged.1,
    )
