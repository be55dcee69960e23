use Rattle.vm_memory.proofs.BytesLemmas.{writes_some}
use Rattle.vm_memory.proofs.bytes.GuestRegionCollectionBytesGuestAddress.write.Goals as goal

pub returns-clause-written : goal.returns-clause-written
returns-clause-written g c = writes_some c.args.self.now c.args.h.now c.write_some-completed.new.host c.args.addr c.args.buf.now
    c.write_some-completed.result c.some_of.result
    c.write_some-completed.ensures.count c.write_some-completed.ensures.stored c.some_of.ensures
