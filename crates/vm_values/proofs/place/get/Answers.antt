use Rattle.std.proofs.Common.{arith, ◌+◌, ◌-◌}
use Rattle.vm_values.proofs.Places.{get_at, whole}
use Rattle.vm_values.proofs.place.get.Goals as goal

pub returns-clause-bytes : goal.returns-clause-bytes
returns-clause-bytes g c =
    get_at c.args.at.now (c.args.at.now + c.SIZE.result - c.args.at.now) c.SIZE-2.result c.args.bytes.now
    (g.T.ByteValued.fields c.get_bytes-value.result)
    (omega arith) (omega arith) c.get_bytes-value.ensures.bytes

pub returns-clause-whole : goal.returns-clause-whole
returns-clause-whole g c = whole _ _ _ (returns-clause-bytes g c)
