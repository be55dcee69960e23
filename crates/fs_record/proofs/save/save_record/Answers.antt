use Rattle.std.proofs.Common.{List, rules, sym, ap, ◌∙◌, ◌≡◌, ◌+◌, ◌<◌, [], ◌++◌, length, drop, take_all, subst, append_assoc}
use Rattle.std.proofs.lemmas.List.{drop_all}
use Rattle.std.specs.Prelude.{All}
use Rattle.std.specs.List.{flat_map}
use Rattle.std.proofs.KnownBytes.{Appends-nil}
use Rattle.vm_values.specs.Fields.{spelled}
use Rattle.fs_queue.specs.Queue.{Queue}
use Rattle.fs_record.specs.Fields.{head_fields, queue_fields}
use Rattle.fs_record.specs.Record.{Second, IsSavedQueue, head_of, queue_bytes, end_bytes, record_bytes}
use Rattle.fs_record.specs.declared.fields.SavedQueue.{SavedQueue}
use Rattle.fs_record.proofs.StreamLemmas.{part_leaves, leaves_less, leaves_last, on_ok}
use Rattle.fs_record.proofs.QueueLemmas.{next_queue, more_lawful, put_queue}
use Rattle.fs_record.proofs.save.save_record.Goals as goal

pub returns-in_err-put_value-clause-leaves : goal.returns-in_err-put_value-clause-leaves
returns-in_err-put_value-clause-leaves g c =
    let queues = c.args.queues.now in
    let same : c.bits.result ≡ c.args.options.0 = Prim.search rules in
    let stopped = c.in_err-put_value.ensures in
    let v = Second c.args.page_size c.args.limit in
    let head = spelled (head_fields (head_of v c.args.options.0 (length queues))) in
    let cut : head ≡ stopped.0 ++ stopped.1 = ap (λ o. spelled (head_fields (head_of v o (length queues)))) (sym same) ∙ stopped.2 in
    let part = part_leaves (record_bytes v c.args.options.0 queues) [] head (flat_map queue_bytes queues ++ end_bytes v) stopped.0
    stopped.1 _ _ _
    (append_assoc head (flat_map queue_bytes queues) (end_bytes v)) cut stopped.3 (Appends-nil _) stopped.4 in
    leaves_less _ _ _ _ _ c.from_residual.result c.from_residual.ensures.0 part stopped.5

pub returns-in_err-put_value-2-clause-leaves : goal.returns-in_err-put_value-2-clause-leaves
returns-in_err-put_value-2-clause-leaves g c =
    let queues = c.args.queues.now in
    let i = c.loop-queue.queue-index in
    let before = c.loop-queue.invariant.put in
    let stopped = c.in_err-put_value-2.ensures in
    let next = next_queue queues i c.queue-item.result c.loop-queue-test.true c.queue-item.is in
    let one : queue_bytes c.queue-item.result ≡ stopped.0 ++ stopped.1 =
    ap (λ (s : SavedQueue). spelled (queue_fields s)) (sym c.saved.ensures.value) ∙ stopped.2 in
    let v = Second c.args.page_size c.args.limit in
    let later = flat_map queue_bytes (drop (i + 1) queues) in
    let part = part_leaves (record_bytes v c.args.options.0 queues) before.0 (queue_bytes c.queue-item.result) (later ++ end_bytes v)
    stopped.0 stopped.1 _ _ _
    (before.1 ∙ ap (λ l. before.0 ++ (l ++ end_bytes v)) next
    ∙ ap (λ l. before.0 ++ l) (append_assoc (queue_bytes c.queue-item.result) later (end_bytes v))) one stopped.3 before.2 stopped.4 in
    leaves_less _ _ _ _ _ c.from_residual-in_err-put_value-2.result c.from_residual-in_err-put_value-2.ensures.0 part stopped.5

pub loop-queue-preserved : goal.loop-queue-preserved
loop-queue-preserved g c =
    let before = c.loop-queue.invariant.put in
    let within : c.loop-queue.queue-index < length c.args.queues.now = c.loop-queue-test.true in
    let next = next_queue c.args.queues.now c.loop-queue.queue-index c.queue-item.result within c.queue-item.is in
    let outcome = c.in_ok-put_value-2.ensures in
    let v = Second c.args.page_size c.args.limit in
    let later = flat_map queue_bytes (drop (c.loop-queue.queue-index + 1) c.args.queues.now) in
    let one : flat_map queue_bytes (drop c.loop-queue.queue-index c.args.queues.now) ++ end_bytes v
    ≡ spelled (queue_fields c.saved.result) ++ (later ++ end_bytes v) =
    ap (λ l. l ++ end_bytes v) next
    ∙ ap (λ (s : SavedQueue). (spelled (queue_fields s) ++ later) ++ end_bytes v) (sym c.saved.ensures.value)
    ∙ append_assoc (spelled (queue_fields c.saved.result)) later (end_bytes v) in
    record {
      put = put_queue _ before.0 _ _ _ _ _ _ before.1 one before.2 outcome.0;
      failed = outcome.1 ∙ c.loop-queue.invariant.failed;
      lawful = more_lawful c.args.queues.now c.loop-queue.queue-index c.queue-item.result within c.queue-item.is
          c.loop-queue.invariant.lawful c.saved.ensures.queue;
    }

pub returns-clause-leaves : goal.returns-clause-leaves
returns-clause-leaves g c =
    let queues = c.args.queues.now in
    let v = Second c.args.page_size c.args.limit in
    let before = c.loop-queue.invariant.put in
    let none : drop c.loop-queue.queue-index queues ≡ [] = drop_all c.loop-queue.queue-index queues c.loop-queue-test.false in
    let whole : record_bytes v c.args.options.0 queues ≡ before.0 ++ end_bytes v =
    before.1 ∙ ap (λ (qs : List Queue). before.0 ++ (flat_map queue_bytes qs ++ end_bytes v)) none in
    leaves_last (record_bytes v c.args.options.0 queues) before.0 (end_bytes v) _ _ _ _ _ _ c.put_value-2.result whole before.2
    c.loop-queue.invariant.failed (rw c.from.ensures at c.put_value-2.ensures)

pub returns-clause-savable : goal.returns-clause-savable
returns-clause-savable g c =
    on_ok c.put_value-2.result (
      c.requires.known,
      c.requires.some,
      c.requires.few,
      subst (All IsSavedQueue) (take_all c.loop-queue.queue-index c.args.queues.now c.loop-queue-test.false) c.loop-queue.invariant.lawful,
    )
