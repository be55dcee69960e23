use Rattle.vm_memory.proofs.BytesLemmas.{writes_all}
use Rattle.vm_memory.proofs.bytes.GuestRegionCollectionBytesGuestAddress.write_slice.Goals as goal

pub returns-clause-written : goal.returns-clause-written
returns-clause-written g c = writes_all c.args.self.now c.args.h.now c.write_slice.new.host c.args.addr c.args.buf.now c.write_slice.result
    c.write_slice.ensures.stored c.write_slice.ensures.result
