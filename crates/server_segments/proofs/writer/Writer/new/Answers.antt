use Rattle.std.proofs.Common.{sum, sym, ap, ◌∙◌}
use Rattle.fuse_fs.specs.Lengths.{filled}
use Rattle.fuse_fs.proofs.Lengths.{sum-filled, filled-filled}
use Rattle.server_segments.proofs.writer.Writer.new.Goals as goal

pub over-requires-clause-sum : goal.over-requires-clause-sum
over-requires-clause-sum c = ap sum c.in_ok-segments.ensures.ok ∙ sum-filled c.args.lengths.now ∙ sym c.in-Some.ensures.some

pub over-requires-clause-filled : goal.over-requires-clause-filled
over-requires-clause-filled c = ap filled c.in_ok-segments.ensures.ok ∙ filled-filled c.args.lengths.now ∙ sym c.in_ok-segments.ensures.ok
