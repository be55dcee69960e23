use Rattle.server_requests.proofs.NameLemmas.{with_both, with_few, with_short}
use Rattle.server_requests.proofs.PlaceLemmas.{behind_record}
use Rattle.server_requests.proofs.source.record_and_bytes.Goals as goal

pub returns-in-Ok-counted-clause-reads : goal.returns-in-Ok-counted-clause-reads
returns-in-Ok-counted-clause-reads g c =
    with_both g.T.InRecord.shape g.T.ByteValued.SIZE _ _ _ _ c.in-Ok.record c.in-Ok.ensures.reads
    (rw c.SIZE.ensures at c.in-Ok-counted.ensures.bytes)

pub returns-in-Ok-clause-fault : goal.returns-in-Ok-clause-fault
returns-in-Ok-clause-fault g c = λ other.
    with_few g.T.InRecord.shape g.T.ByteValued.SIZE _ _ _ c.in-Ok.record _ c.in-Ok.ensures.reads
    (rw c.SIZE.ensures at (c.in-Err-counted.ensures.fault other))

pub returns-clause-fault : goal.returns-clause-fault
returns-clause-fault g c = λ other. with_short g.T.InRecord.shape g.T.ByteValued.SIZE _ _ _ c.in-Err.ensures.reads

pub returns-in-Ok-clause-in_place : goal.returns-in-Ok-clause-in_place
returns-in-Ok-clause-in_place g c = λ whole.
    (rw c.SIZE.ensures at c.in-Err-counted.ensures.in_place) (rw c.in-Ok.ensures.segments whole)

pub returns-in-Ok-counted-clause-places : goal.returns-in-Ok-counted-clause-places
returns-in-Ok-counted-clause-places g c =
    behind_record g.T.InRecord.shape g.T.ByteValued.SIZE (g.met.T.InRecord.of_shape).2 _ _ c.in-Ok.record _ c.in-Ok.ensures.reads
    (rw c.SIZE.ensures at c.in-Ok-counted.ensures.places)
