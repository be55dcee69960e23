use Rattle.std.proofs.Common.{◌≡◌, ◌+◌, ◌-◌, ◌≤◌, ◌++◌, take, drop}
use Rattle.fuse_fs.specs.Lengths.{past}
use Rattle.server_segments.proofs.reader.Reader.fill.Given as goal

abbrev pub invariant-loop-done : goal.invariant-loop-done
invariant-loop-done l = record {
  within : l.done ≤ l.count;
  bytes : l.buf ≡ take l.done l.initial.self.left ++ drop l.done l.initial.buf;
  left : l.self.left ≡ drop l.done l.initial.self.left;
  segments : l.self.segments ≡ past l.done l.initial.self.segments;
  read : l.self.read ≡ l.initial.self.read + l.done;
}

abbrev pub decreases-loop-done : goal.decreases-loop-done
decreases-loop-done l = l.count - l.done
