use Rattle.std.proofs.Common.{rules, refl, arith, ◌≡◌, ◌+◌, ◌-◌}
use Rattle.std.proofs.Math.Nat.{add-mul}
use Rattle.vm_memory_core.proofs.ValueLemmas.{read_more, fits_more, fits_none}
use Rattle.vm_memory_core.proofs.copy.get_values.Goals as goal

pub loop-k-init : goal.loop-k-init
loop-k-init g c = record { place = search rules; read = refl; fits = fits_none g.T.ByteValued.fields }

pub loop-k-preserved : goal.loop-k-preserved
loop-k-preserved g c =
    let next = add-mul c.loop-k.k 1 g.T.ByteValued.SIZE in
    let one : c.loop-k.at + c.SIZE.result - c.loop-k.at ≡ c.SIZE-at.result = omega arith in
    record {
      place = omega arith;
      read = read_more g.T.ByteValued.fields c.loop-k.out c.loop-k.k c.get_bytes.result c.args.bytes.now c.loop-k.at c.SIZE-at.result _
          (omega arith) one c.loop-k.invariant.read c.get_bytes.ensures.bytes;
      fits = fits_more g.T.ByteValued.fields c.loop-k.out c.loop-k.k c.get_bytes.result (omega arith) c.loop-k.invariant.fits
          c.get_bytes.ensures.fits;
    }
