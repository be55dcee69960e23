use Rattle.server_requests.proofs.RecordLemmas.{read_front, read_short}
use Rattle.server_requests.proofs.records.read_record.Goals as goal

pub returns-in-Ok-clause-reads : goal.returns-in-Ok-clause-reads
returns-in-Ok-clause-reads g c =
    let ok = c.in-Ok.ensures.ok in
    read_front g.T.InRecord.shape g.T.ByteValued.fields _ g.met.T.InRecord.of_shape c.in-Ok.record _ _ ok.0 ok.1

pub returns-in-Err-clause-reads : goal.returns-in-Err-clause-reads
returns-in-Err-clause-reads g c =
    read_short g.T.InRecord.shape g.T.ByteValued.fields _ g.met.T.InRecord.of_shape _ c.in-Err.ensures.err.1
