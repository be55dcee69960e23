use Rattle.vm_memory.proofs.BytesLemmas.{reads_all}
use Rattle.vm_memory.proofs.bytes.GuestRegionCollectionBytesGuestAddress.read_slice.Goals as goal

pub returns : goal.returns
returns g c = reads_all c.args.self.now c.args.h.now c.args.addr c.args.buf.now c.read_slice.new.buffer c.read_slice.result
    c.read_slice.ensures.bytes c.read_slice.ensures.result
