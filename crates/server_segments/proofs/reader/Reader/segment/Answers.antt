use Rattle.std.proofs.Common.{◌∷◌, length, sym, ap, ◌∙◌}
use Rattle.fuse_fs.specs.Lengths.{past}
use Rattle.server_segments.specs.Segments.{segment_lengths}
use Rattle.server_segments.specs.ReaderAndWriterView.{ReaderView}
use Rattle.fuse_fs.proofs.Lengths.{past_zero}
use Rattle.server_segments.proofs.reader.Reader.segment.Goals as goal

pub returns-clause-all : goal.returns-clause-all
returns-clause-all c =
    let i = c.self.inside in
    let v = ap (λ (r : ReaderView). r.segments) c.self.view_is in
    ap (past 0) (sym v) ∙ past_zero (length i.first.now ∷ segment_lengths i.later.items) ∙ v
