use Rattle.std.proofs.Common.{deque_len, deque_capacity, ◌≡◌, ◌+◌, ◌<◌, ◌≤◌, [], ◌∷◌, ◌++◌, length}
use Rattle.fuse_fs.specs.Lengths.{filled, past, up_to}
use Rattle.server_segments.specs.Segments.{joined, all_of, segment_lengths}
use Rattle.server_segments.proofs.reader.take_front.Given as goal

abbrev pub invariant-loop-part : goal.invariant-loop-part
invariant-loop-part l = record {
  all : joined l.front.items ++ all_of l.rest l.queue.items ≡ joined l.initial.queue.items;
  len : length (joined l.front.items) + l.part ≡ l.offset;
  rest : 0 < l.part → l.rest ≡ [];
  before : filled (segment_lengths l.front.items) ++ up_to l.part (filled (segment_lengths l.queue.items))
      ≡ up_to l.offset (filled (segment_lengths l.initial.queue.items));
  behind : past l.part (filled (length l.rest ∷ segment_lengths l.queue.items))
      ≡ past l.offset (filled (segment_lengths l.initial.queue.items));
  room : deque_len l.front + deque_len l.queue ≤ deque_capacity l.front;
}

abbrev pub decreases-loop-part : goal.decreases-loop-part
decreases-loop-part l = deque_len l.queue
