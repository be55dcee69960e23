use Rattle.std.proofs.Common.{◌≡◌, ◌-◌, ◌≤◌, length}
use Rattle.server_segments.specs.SegmentPlaces.{bytes_before}
use Rattle.server_segments.proofs.writer.behind.Given as goal

abbrev pub invariant-loop-segment : goal.invariant-loop-segment
invariant-loop-segment l = record {
  there : l.segment ≤ length l.segments;
  after : l.initial.segment ≤ l.segment;
  reached : bytes_before l.segments l.segment l.used ≡ bytes_before l.segments l.initial.segment l.initial.used;
}

abbrev pub decreases-loop-segment : goal.decreases-loop-segment
decreases-loop-segment l = length l.segments - l.segment
