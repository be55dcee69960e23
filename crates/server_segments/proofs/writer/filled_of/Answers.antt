use Rattle.std.proofs.Common.{arith, refl}
use Rattle.server_segments.proofs.Placing.{filled_more}
use Rattle.server_segments.proofs.writer.filled_of.Goals as goal

pub loop-size-preserved : goal.loop-size-preserved
loop-size-preserved c =
    let l = c.loop-size in
    record {
      items = filled_more c.args.lengths.now l.segments.items c.push_filled.new.segments.items l.size-index _ c.push_filled.ensures.items
          l.invariant.items c.loop-size-test.true refl;
      few = omega (arith, c.push_filled.ensures.len, l.invariant.few);
      room = omega (arith, c.push_filled.ensures.capacity, l.invariant.room);
    }
