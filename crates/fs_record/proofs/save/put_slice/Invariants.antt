-- What was put so far, in front of what is left, is all of it.
use Rattle.std.proofs.Common.{◌≡◌, ℕ, List, ◌++◌, length}
use Rattle.std.specs.Io.KnownBytes.{Appends}
use Rattle.fs_record.proofs.save.put_slice.Given as goal

abbrev pub invariant-loop-rest : goal.invariant-loop-rest
invariant-loop-rest g l = record {
  put : (part : List ℕ) × (l.bytes ≡ part ++ l.rest) × Appends (g.S.RecordSink.sent l.initial.sink) (g.S.RecordSink.sent l.sink) part;
  failed : g.S.RecordSink.failed l.sink ≡ g.S.RecordSink.failed l.initial.sink;
}

abbrev pub decreases-loop-rest : goal.decreases-loop-rest
decreases-loop-rest g l = length l.rest
