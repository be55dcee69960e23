use Rattle.std.proofs.Common.{arith, rules, ap, sym, ◌∙◌, ◌++◌, ◌^◌, take}
use Rattle.std.proofs.lemmas.List.{take_all, append-nil}
use Rattle.std.proofs.lemmas.List.{length-replicate}
use Rattle.std.specs.Int.{w32}
use Rattle.vm_values.specs.Fields.{array, d, field_bytes, Fits}
use Rattle.vm_values.proofs.Places.{more_array_set, below_set, whole}
use Rattle.vm_values.proofs.place.get_array.Goals as goal

pub loop-k-init : goal.loop-k-init
unfolding field_bytes
loop-k-init g c = record {
  place = omega arith;
  bytes = sym (append-nil _);
  length = search (rules, length-replicate);
  fits = λ j h. absurd (omega (arith, h));
}

pub loop-k-preserved : goal.loop-k-preserved
unfolding Fits
loop-k-preserved g c = record {
  place = omega arith;
  bytes = c.get.ensures.bytes ∙ ap (λ s. s ++ field_bytes (d c.get.result)) c.loop-k.invariant.bytes
      ∙ more_array_set g.row.N c.loop-k.k c.loop-k.values
      (take c.args.at.now c.args.bytes.now) c.get.result (omega arith);
  length = search rules;
  fits = below_set c.loop-k.k c.loop-k.values c.get.result (2 ^ 32) (omega arith) c.loop-k.invariant.fits c.get.ensures.fits.0;
}

pub returns-clause-bytes : goal.returns-clause-bytes
returns-clause-bytes g c = c.loop-k.invariant.bytes
    ∙ ap (λ s. take c.args.at.now c.args.bytes.now ++ field_bytes (array w32 g.row.N s)) (take_all c.loop-k.k c.loop-k.values (omega arith))

pub returns-clause-whole : goal.returns-clause-whole
returns-clause-whole g c = whole _ _ _ (returns-clause-bytes g c)

pub returns-clause-fits : goal.returns-clause-fits
unfolding Fits
returns-clause-fits g c = ((c.loop-k.invariant.length, λ k h. c.loop-k.invariant.fits k (omega (arith, h))), tt)
