use Rattle.fs_queue.proofs.TakeLemmas.{holds_fetched, room_within}
use Rattle.fs_queue.proofs.take.hold_chain.Goals as goal

pub returns-then-branch-clause-fetched : goal.returns-then-branch-clause-fetched
returns-then-branch-clause-fetched g c =
    holds_fetched (g.M.GuestMemory.memory c.args.mem.now (g.H.HostBlocks.host c.args.host.now)) c.args.limit c.args.descriptors.now
    c.args.head c.fill_chain.new.chain
    (rw c.if-branch.true at c.in_ok-fill_chain.ensures.filled) (c.in_ok-fill_chain.ensures.windows c.if-branch.true)

pub returns-then-branch-clause-short : goal.returns-then-branch-clause-short
returns-then-branch-clause-short g c =
    room_within (g.M.GuestMemory.memory c.args.mem.now (g.H.HostBlocks.host c.args.host.now)) c.args.limit c.args.descriptors.now
    c.args.head c.fill_chain.new.chain
    (rw c.if-branch.true at c.in_ok-fill_chain.ensures.filled) (c.in_ok-fill_chain.ensures.windows c.if-branch.true)
