-- What was read so far is a front with the queues so far.
use Rattle.std.proofs.Common.{◌≡◌, ◌≤◌, ℕ, List, length, vec_capacity}
use Rattle.std.specs.Io.KnownBytes.{Consumes}
use Rattle.fs_record.specs.Restoring.{IsRecordFront, versioned}
use Rattle.fs_record.proofs.restore.restore_record.Given as goal

abbrev pub invariant-loop-index : goal.invariant-loop-index
invariant-loop-index g l = record {
  read : (taken : List ℕ) × Consumes (g.S.RecordSource.left l.fn.source) (g.S.RecordSource.left l.source) taken
      × IsRecordFront taken (versioned l.head.version l.fn.page_size l.fn.limit) l.head.options.0 l.head.count l.queues.items;
  failed : g.S.RecordSource.failed l.source ≡ g.S.RecordSource.failed l.fn.source;
  so_far : length l.queues.items ≡ l.index;
  within : l.index ≤ l.head.count;
  room : l.head.count ≤ vec_capacity l.queues;
}
