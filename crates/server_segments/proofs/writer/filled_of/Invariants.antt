use Rattle.std.proofs.Common.{◌≡◌, ◌≤◌, length, take}
use Rattle.smallvec.specs.SmallVec.{small_vec_len}
use Rattle.fuse_fs.specs.Lengths.{filled}
use Rattle.server_segments.proofs.writer.filled_of.Given as goal

abbrev pub invariant-loop-size : goal.invariant-loop-size
invariant-loop-size l = record {
  items : l.segments.items ≡ filled (take l.size-index l.lengths);
  few : small_vec_len l.segments ≤ l.size-index;
  room : length l.lengths ≤ l.segments.capacity;
}
