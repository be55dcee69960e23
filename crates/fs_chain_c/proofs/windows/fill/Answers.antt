use Rattle.std.proofs.Common.{◌∷◌, ◌++◌, ◌∙◌, [], length-append, refl, arith, rules}
use Rattle.fs_chain_c.proofs.WindowLemmas.{covered_more, put_next, stretches_next}
use Rattle.fs_chain_c.proofs.windows.fill.Goals as goal

pub loop-k-init : goal.loop-k-init
loop-k-init c = record {
  found = [];
  count = refl;
  fits = omega arith;
  put = refl;
  are = tt;
  left = omega arith;
  at = omega arith;
  passed = search rules;
}

pub loop-k-preserved : goal.loop-k-preserved
loop-k-preserved c =
    let inv = c.loop-k.invariant in
    let s = c.in-Some.stretch in
    let more = covered_more inv.found s in record {
      found = inv.found ++ s ∷ [];
      count = length-append inv.found (s ∷ []) ∙ omega (arith, inv.count);
      fits = search rules;
      put = put_next inv.found c.args.windows.now c.loop-k.windows c.loop-k.k s inv.count inv.put (search rules);
      are = stretches_next c.args.handle.now c.args.write_only c.args.from _ inv.found s c.loop-k.at c.loop-k.left inv.are inv.at inv.left
          c.in-Some.ensures.some;
      left = omega (arith, more, inv.left, c.in-Some.ensures.low);
      at = omega (arith, more, inv.at);
      passed = search rules;
    }
