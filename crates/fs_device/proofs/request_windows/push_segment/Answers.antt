use Rattle.std.proofs.Common.{◌∙◌, ap}
use Rattle.server_segments.specs.Segments.{joined}
use Rattle.server_segments.proofs.Cutting.{joined_more}
use Rattle.fs_device.proofs.request_windows.push_segment.Goals as goal

pub returns-clause-joined : goal.returns-clause-joined
returns-clause-joined c = ap joined (rw c.unwrap.ensures at c.push.ensures.items) ∙ joined_more c.args.segments.now.items c.args.segment
