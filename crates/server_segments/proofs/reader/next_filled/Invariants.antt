use Rattle.std.proofs.Common.{deque_len, ◌≡◌, ◌∷◌, length}
use Rattle.fuse_fs.specs.Lengths.{filled}
use Rattle.server_segments.specs.Segments.{all_of, segment_lengths}
use Rattle.server_segments.proofs.reader.next_filled.Given as goal

abbrev pub invariant-loop-later : goal.invariant-loop-later
invariant-loop-later l = record {
  all : all_of l.current l.later.items ≡ all_of l.initial.current l.initial.later.items;
  segments : filled (length l.current ∷ segment_lengths l.later.items)
      ≡ filled (length l.initial.current ∷ segment_lengths l.initial.later.items);
}

abbrev pub decreases-loop-later : goal.decreases-loop-later
decreases-loop-later l = deque_len l.later
