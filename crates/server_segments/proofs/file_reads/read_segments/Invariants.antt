use Rattle.std.proofs.Common.{◌-◌, ℕ, List, []}
use Rattle.fuse_fs.proofs.SegmentReads.{Offered, SoFar}
use Rattle.server_segments.proofs.Fillings.{filling}
use Rattle.server_segments.proofs.file_reads.read_segments.Given as goal

abbrev pub invariant-loop-done : goal.invariant-loop-done
invariant-loop-done g l =
    let room = g.B.SegmentBuffer.room in
    let rooms = g.B.SegmentBuffer.rooms in
    let before = filling [] (room l.fn.buffer) (rooms l.fn.buffer) in
    record {
      offered : Offered before l.count l.most;
      put :
          (got : List ℕ) × g.B.SegmentBuffer.Puts l.fn.buffer got l.buffer
          × SoFar g.F.PositionedFile.read_gives l.initial.file before l.most l.off l.done
          (filling got (room l.buffer) (rooms l.buffer)) l.file;
    }

abbrev pub decreases-loop-done : goal.decreases-loop-done
decreases-loop-done g l = l.most - l.done
