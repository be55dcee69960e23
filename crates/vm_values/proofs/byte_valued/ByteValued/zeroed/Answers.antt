use Rattle.std.proofs.Common.{sym, ◌∙◌, ap, arith, replicate}
use Rattle.std.proofs.lemmas.List.{take-replicate}
use Rattle.vm_values.proofs.byte_valued.ByteValued.zeroed.Goals as goal

pub returns : goal.returns
returns g c = sym c.get_bytes.ensures.bytes ∙ take-replicate c.SIZE.result 256 0 (omega (arith, g.met.Self.ByteValued.lawful.2))
    ∙ ap (λ n. replicate n 0) c.SIZE.ensures
