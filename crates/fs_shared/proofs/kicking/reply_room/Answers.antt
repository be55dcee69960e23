use Rattle.std.proofs.Common.{arith}
use Rattle.fs_shared.proofs.kicking.reply_room.Goals as goal

pub returns : goal.returns
returns g c =
    let runs = c.in_ok-runs.runs in record {
      request = c.in_ok-from_slice.ensures.items;
      reply = c.in_ok-reply_buffer.ensures.empty;
      reply_fits = c.in_ok-reply_buffer.ensures.fits;
      runs = c.in_ok-runs.ensures;
      pages = c.in_ok-with_capacity.ensures.items;
      pages_fit = omega (arith, c.in_ok-most.ensures, c.in_ok-with_capacity.ensures.capacity);
      copy = c.in_ok-with_capacity-2.ensures.items;
      copy_fits = omega (arith, c.in_ok-most.ensures, c.in_ok-with_capacity-2.ensures.capacity);
    }
