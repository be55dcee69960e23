use Rattle.std.proofs.Common.{◌∙◌, length}
use Rattle.vm_iotlb.specs.declared.permissions.Permissions.TheVariants.{Read}
use Rattle.vm_memory.proofs.RangeLemmas.{reach-from}
use Rattle.fs_queue.proofs.ReadLemmas.{have_read, unreached}
use Rattle.fs_queue.proofs.access.read.Goals as goal

pub returns-in-Ok-clause-found : goal.returns-in-Ok-clause-found
returns-in-Ok-clause-found g c =
    c.in-Ok.ensures.found ∙ reach-from (g.M.GuestMemory.memory c.args.mem.now (g.H.HostBlocks.host c.args.host.now)) Read c.args.addr
    (length c.args.buffer.now) c.requires.fits

pub returns-in-Ok-clause-bytes : goal.returns-in-Ok-clause-bytes
returns-in-Ok-clause-bytes g c =
    have_read (g.M.GuestMemory.memory c.args.mem.now (g.H.HostBlocks.host c.args.host.now)) c.args.addr (length c.args.buffer.now) _ _
    c.requires.fits c.in-Ok.ensures.bytes

pub returns-in-Err-clause-found : goal.returns-in-Err-clause-found
returns-in-Err-clause-found g c =
    unreached (g.M.GuestMemory.memory c.args.mem.now (g.H.HostBlocks.host c.args.host.now)) Read c.args.addr (length c.args.buffer.now)
    c.requires.fits c.in-Err.ensures.found
