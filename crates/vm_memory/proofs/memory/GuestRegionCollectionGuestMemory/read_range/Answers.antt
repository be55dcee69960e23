use Rattle.std.proofs.Common.{ap, eqb, refl, length, ◌∙◌}
use Rattle.vm_memory.specs.Layout.{place}
use Rattle.vm_memory.specs.Memory.{memory_of}
use Rattle.vm_memory.proofs.RangeLemmas.{count_located, read_whole}
use Rattle.vm_memory.proofs.memory.GuestRegionCollectionGuestMemory.read_range.Goals as goal

pub returns-clause-found : goal.returns-clause-found
returns-clause-found g c =
    ap (λ k. eqb k (length c.args.buffer.now)) c.read_some-completed.ensures.count
    ∙ count_located (place c.args.self.now) c.args.addr.0 (length c.args.buffer.now)

pub returns-clause-bytes : goal.returns-clause-bytes
returns-clause-bytes g c all =
    read_whole (memory_of (g.H.HostBlocks.host c.args.h.now) c.args.self.now) c.args.addr.0 (length c.args.buffer.now)
    c.read_some-completed.result c.args.buffer.now
    c.read_some-completed.new.buffer refl all
    c.read_some-completed.ensures.bytes
