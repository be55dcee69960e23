use Rattle.server_segments.proofs.Fillings.{rooms_more}
use Rattle.server_segments.proofs.file_reads.WriterSegmentBuffer.read_once.Goals as goal

pub returns : goal.returns
returns g c =
    let e = c.read_from_file_at.ensures in
    let o = e.once in
    (o.0, (o.1, e.segments, e.rejoin, e.spare), o.2, rooms_more c.args.self.now c.read_from_file_at.new.self o.0 o.1 e.segments, o.3)
