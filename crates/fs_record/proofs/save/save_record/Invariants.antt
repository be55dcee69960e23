-- What went out, in front of the queues that are left and the limit, is the record.
use Rattle.std.proofs.Common.{◌≡◌, ℕ, List, ◌++◌, take, drop}
use Rattle.std.specs.Prelude.{All}
use Rattle.std.specs.List.{flat_map}
use Rattle.std.specs.Io.KnownBytes.{Appends}
use Rattle.fs_record.specs.Record.{Second, IsSavedQueue, queue_bytes, end_bytes, record_bytes}
use Rattle.fs_record.proofs.save.save_record.Given as goal

abbrev pub invariant-loop-queue : goal.invariant-loop-queue
invariant-loop-queue g l = record {
  put : (part : List ℕ) × (record_bytes (Second l.fn.page_size l.fn.limit) l.fn.options.0 l.queues
      ≡ part ++ (flat_map queue_bytes (drop l.queue-index l.queues) ++ end_bytes (Second l.fn.page_size l.fn.limit)))
      × Appends (g.S.RecordSink.sent l.fn.sink) (g.S.RecordSink.sent l.sink) part;
  failed : g.S.RecordSink.failed l.sink ≡ g.S.RecordSink.failed l.fn.sink;
  lawful : All IsSavedQueue (take l.queue-index l.queues);
}
