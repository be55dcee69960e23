use Rattle.vm_values.specs.Fields.{field_bytes}
use Rattle.vm_values.proofs.Places.{read_16}
use Rattle.vm_values.proofs.byte_valued.U128ByteValued.get_bytes.Goals as goal

pub returns-clause-bytes : goal.returns-clause-bytes
unfolding field_bytes
returns-clause-bytes c =
    read_16 c.args.bytes.now c.get_bytes-low.result c.get_bytes-high.result c.requires c.get_bytes-low.type_inv c.get_bytes-high.type_inv
    c.get_bytes-low.ensures.bytes c.get_bytes-high.ensures.bytes
