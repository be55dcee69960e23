use Rattle.std.proofs.Common.{◌∷◌, length, sum, sym, ap, ◌∙◌}
use Rattle.fuse_fs.specs.Lengths.{filled}
use Rattle.server_segments.specs.Segments.{segment_lengths}
use Rattle.server_segments.specs.ReaderAndWriterView.{ReaderView}
use Rattle.server_segments.proofs.Cutting.{sum_all}
use Rattle.fuse_fs.proofs.Lengths.{filled-filled}
use Rattle.server_segments.proofs.reader.Reader.available_bytes.Goals as goal

pub returns-clause-segments : goal.returns-clause-segments
returns-clause-segments c =
    let i = c.self.inside in
    let v = ap (λ (r : ReaderView). r.segments) c.self.view_is in (
      ap sum (sym v) ∙ sum_all i.first.now i.later.items ∙ ap (λ (r : ReaderView). length r.left) c.self.view_is,
      ap filled (sym v) ∙ filled-filled (length i.first.now ∷ segment_lengths i.later.items) ∙ v,
    )
