use Rattle.std.proofs.Common.{arith, ◌+◌, ◌-◌}
use Rattle.std.proofs.lemmas.Slice.{drop-put_mid}
use Rattle.vm_values.proofs.Places.{put_at, whole}
use Rattle.vm_values.proofs.place.put.Goals as goal

pub returns-clause-bytes : goal.returns-clause-bytes
returns-clause-bytes g c =
    put_at c.args.at.now (c.args.at.now + c.SIZE.result - c.args.at.now) c.SIZE-2.result c.args.out.now c.put_bytes.new.out
    (g.T.ByteValued.fields c.args.value.now)
    (omega (arith, c.put_bytes.auto.out)) (omega arith) c.put_bytes.ensures.bytes

pub returns-clause-whole : goal.returns-clause-whole
returns-clause-whole g c = whole _ _ _ (returns-clause-bytes g c)

pub returns-clause-behind : goal.returns-clause-behind
returns-clause-behind g c =
    drop-put_mid c.args.at.now (c.args.at.now + c.SIZE.result - c.args.at.now) c.args.out.now c.put_bytes.new.out
    (c.args.at.now + c.SIZE-2.result)
    (omega arith) (omega arith) (omega (arith, c.put_bytes.auto.out))
