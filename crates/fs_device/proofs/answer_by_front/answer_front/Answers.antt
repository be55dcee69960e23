use Rattle.fs_device.proofs.ReadingLemmas.{answers_chain}
use Rattle.fs_device.proofs.answer_by_front.answer_front.Goals as goal

pub returns-in-Some-clause-exchange : goal.returns-in-Some-clause-exchange
returns-in-Some-clause-exchange g c m q fetched host taken =
    answers_chain g.F.FileSystemBase.may c.args.server.now c.answer_chain.new.server m (g.H.HostBlocks.host c.args.host.now)
    (g.H.HostBlocks.host c.answer_chain.new.host) q fetched c.args.taken.now
    c.in-Ok.chain.now c.in-Some.answered host taken c.in-Ok.ensures c.in-Some.ensures.some
