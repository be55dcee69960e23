use Rattle.vm_memory.proofs.BytesLemmas.{reads_some}
use Rattle.vm_memory.proofs.bytes.GuestRegionCollectionBytesGuestAddress.read.Goals as goal

pub returns : goal.returns
returns g c = reads_some c.args.self.now c.args.h.now c.args.addr c.args.buf.now c.read_some-completed.new.buffer
    c.read_some-completed.result c.some_of.result c.read_some-completed.ensures.count
    c.read_some-completed.ensures.bytes c.some_of.ensures
