use Rattle.std.proofs.Common.{refl}
use Rattle.server_segments.proofs.Cutting.{too_much}
use Rattle.server_segments.proofs.reader.Reader.new.Goals as goal

pub returns-in_default-clause-err : goal.returns-in_default-clause-err
returns-in_default-clause-err c =
    (refl, too_much _ _ _ _ _ _ c.deref-segment-items.ensures.value c.loop-segment-test.true c.loop-segment.invariant c.in_default.ensures)
