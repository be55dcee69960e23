use Rattle.std.proofs.Common.{length}
use Rattle.fuse_fs.proofs.Lengths.{filled-past}
use Rattle.server_segments.proofs.Fillings.{all_free}
use Rattle.server_segments.proofs.file_reads.WriterSegmentBuffer.free_bytes.Goals as goal

pub returns-clause-all : goal.returns-clause-all
returns-clause-all c = all_free c.args.self.now c.available_bytes.ensures.segments.0

pub returns-clause-some : goal.returns-clause-some
returns-clause-some c = filled-past (length c.args.self.now.written) c.args.self.now.segments c.available_bytes.ensures.segments.1
