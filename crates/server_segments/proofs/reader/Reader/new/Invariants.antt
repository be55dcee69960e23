use Rattle.std.proofs.Common.{◌≡◌, length, take}
use Rattle.server_segments.specs.Segments.{joined}
use Rattle.server_segments.proofs.reader.Reader.new.Given as goal

abbrev pub invariant-loop-segment : goal.invariant-loop-segment
invariant-loop-segment l = l.total ≡ length (joined (take l.segment-index l.segment-items))
