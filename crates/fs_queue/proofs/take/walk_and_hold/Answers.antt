use Rattle.std.proofs.Common.{Err, refl, subst, sym}
use Rattle.fs_queue.specs.Chain.{Found}
use Rattle.fs_queue.specs.Windows.{HoldsFound, HoldsWindows, unless_faulty}
use Rattle.fs_queue.proofs.take.walk_and_hold.Goals as goal

pub returns-in-Ok-Faulty-clause-fetched : goal.returns-in-Ok-Faulty-clause-fetched
returns-in-Ok-Faulty-clause-fetched g c =
    subst (λ (f : Found). HoldsFound (g.M.GuestMemory.memory c.args.mem.now (g.H.HostBlocks.host c.args.host.now)) c.args.limit f
    (Err c.in-Ok-Faulty.fault))
    (rw c.in-Ok-Faulty.field-0-is at c.in-Ok-Faulty.ensures.chain) refl

pub returns-in-Ok-Stopped-clause-refused : goal.returns-in-Ok-Stopped-clause-refused
returns-in-Ok-Stopped-clause-refused g c = sym (rw c.in-Ok-Stopped.field-0-is at c.in-Ok-Stopped.ensures.chain)

pub returns-in-Ok-clause-fetched : goal.returns-in-Ok-clause-fetched
returns-in-Ok-clause-fetched g c =
    subst (λ (f : Found). HoldsFound (g.M.GuestMemory.memory c.args.mem.now (g.H.HostBlocks.host c.args.host.now)) c.args.limit f
    (unless_faulty c.in-Ok.fault c.hold_chain.new.chain))
    (rw c.in-Ok-Chain.field-0-is at c.in-Ok-Chain.ensures.chain) (rw c.deref.ensures at c.in-Ok.ensures.fetched)

pub returns-in-Ok-clause-windows : goal.returns-in-Ok-clause-windows
returns-in-Ok-clause-windows g c =
    subst (λ (f : Found). HoldsWindows (g.M.GuestMemory.memory c.args.mem.now (g.H.HostBlocks.host c.args.host.now)) c.args.head
    (unless_faulty c.in-Ok.fault c.hold_chain.new.chain) f)
    (rw c.in-Ok-Chain.field-0-is at c.in-Ok-Chain.ensures.chain) (rw c.deref.ensures at c.in-Ok.ensures.windows)
