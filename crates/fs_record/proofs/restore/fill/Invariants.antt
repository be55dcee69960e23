-- What was read so far stands at the front.
use Rattle.std.proofs.Common.{◌≡◌, ◌≤◌, ◌-◌, length, take}
use Rattle.std.specs.Io.KnownBytes.{Consumes}
use Rattle.fs_record.proofs.restore.fill.Given as goal

abbrev pub invariant-loop-at : goal.invariant-loop-at
invariant-loop-at g l = record {
  within : l.at ≤ length l.buf;
  read : Consumes (g.S.RecordSource.left l.initial.source) (g.S.RecordSource.left l.source) (take l.at l.buf);
  failed : g.S.RecordSource.failed l.source ≡ g.S.RecordSource.failed l.initial.source;
}

abbrev pub decreases-loop-at : goal.decreases-loop-at
decreases-loop-at g l = length l.initial.buf - l.at
