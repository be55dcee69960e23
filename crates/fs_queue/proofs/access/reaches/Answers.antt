use Rattle.std.proofs.Common.{◌∙◌}
use Rattle.vm_memory.proofs.RangeLemmas.{reach-from}
use Rattle.fs_queue.proofs.ReadLemmas.{unreached}
use Rattle.fs_queue.proofs.access.reaches.Goals as goal

pub returns-in-Ok : goal.returns-in-Ok
returns-in-Ok g c =
    c.in-Ok.ensures ∙ reach-from (g.M.GuestMemory.memory c.args.mem.now (g.H.HostBlocks.host c.args.host.now)) c.args.access c.args.addr
    c.args.len c.requires.fits

pub returns-in-Err : goal.returns-in-Err
returns-in-Err g c =
    unreached (g.M.GuestMemory.memory c.args.mem.now (g.H.HostBlocks.host c.args.host.now)) c.args.access c.args.addr c.args.len
    c.requires.fits c.in-Err.ensures
