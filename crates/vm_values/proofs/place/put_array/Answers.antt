use Rattle.std.proofs.Common.{arith, refl, ap, sym, ◌∙◌, ◌++◌, ◌<◌, ◌^◌, take, slice_index}
use Rattle.std.proofs.lemmas.List.{take_all, append-nil}
use borrow.Author.Count.{below_more}
use Rattle.std.specs.Int.{w32}
use Rattle.vm_values.specs.Fields.{array, d, field_bytes, Fits}
use Rattle.vm_values.proofs.Places.{more_array, behind_both, whole}
use Rattle.vm_values.proofs.place.put_array.Goals as goal

pub loop-k-init : goal.loop-k-init
unfolding field_bytes
loop-k-init g c = record { place = omega arith; bytes = sym (append-nil _); behind = refl; fits = λ j h. absurd (omega (arith, h)) }

pub loop-k-preserved : goal.loop-k-preserved
unfolding Fits
loop-k-preserved g c = record {
  place = omega arith;
  bytes = c.put.ensures.bytes ∙ ap (λ s. s ++ field_bytes (d (slice_index c.args.values.now c.loop-k.k))) c.loop-k.invariant.bytes
      ∙ more_array g.row.N c.loop-k.k c.args.values.now
      (take c.args.at.now c.args.out.now) (omega arith);
  behind = behind_both c.loop-k.at c.put.new.at c.put.new.out c.loop-k.out c.args.out.now (omega (arith, c.put.ensures.place))
      c.put.ensures.behind c.loop-k.invariant.behind;
  fits = below_more (λ j. slice_index c.args.values.now j < 2 ^ 32) c.loop-k.k c.loop-k.invariant.fits c.put.ensures.fits.0;
}

pub returns-clause-bytes : goal.returns-clause-bytes
returns-clause-bytes g c = c.loop-k.invariant.bytes
    ∙ ap (λ s. take c.args.at.now c.args.out.now ++ field_bytes (array w32 g.row.N s)) (take_all c.loop-k.k c.args.values.now (omega arith))

pub returns-clause-whole : goal.returns-clause-whole
returns-clause-whole g c = whole _ _ _ (returns-clause-bytes g c)

pub returns-clause-fits : goal.returns-clause-fits
unfolding Fits
returns-clause-fits g c = ((c.told-values, λ k h. c.loop-k.invariant.fits k (omega (arith, h))), tt)
