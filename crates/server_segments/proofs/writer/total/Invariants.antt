use Rattle.std.proofs.Common.{◌≡◌, sum, take}
use Rattle.server_segments.proofs.writer.total.Given as goal

abbrev pub invariant-loop-length : goal.invariant-loop-length
invariant-loop-length l = l.total ≡ sum (take l.length-index l.lengths)
