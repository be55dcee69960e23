use Rattle.std.proofs.Common.{◌∷◌, ◌++◌, ◌∙◌, [], length-append, refl, arith, rules}
use Rattle.fs_chain_c.proofs.RangeLemmas.{bytes_more, put_next, ranges_next}
use Rattle.fs_chain_c.proofs.ranges.fill_ranges.Goals as goal

pub loop-k-init : goal.loop-k-init
loop-k-init c = record { found = []; count = refl; fits = omega arith; put = refl; are = tt; left = omega arith; at = omega arith }

pub loop-k-preserved : goal.loop-k-preserved
loop-k-preserved c =
    let inv = c.loop-k.invariant in
    let s = c.in-Some.range in
    let more = bytes_more inv.found s in record {
      found = inv.found ++ s ∷ [];
      count = length-append inv.found (s ∷ []) ∙ omega (arith, inv.count);
      fits = search rules;
      put = put_next inv.found c.args.ranges.now c.loop-k.ranges c.loop-k.k s inv.count inv.put (search rules);
      are = ranges_next c.args.handle.now c.args.from _ inv.found s c.loop-k.at c.loop-k.left inv.are inv.at inv.left
          c.in-Some.ensures.some;
      left = omega (arith, more, inv.left, c.in-Some.ensures.low);
      at = omega (arith, more, inv.at);
    }
