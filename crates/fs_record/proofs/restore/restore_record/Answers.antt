use Rattle.std.proofs.Common.{rules, arith, ◌≡◌, ◌<◌, [], ◌∷◌, ◌++◌, length}
use Rattle.std.proofs.KnownBytes.{Consumes-trans}
use Rattle.fs_record.specs.Record.{end_bytes, queue_bytes}
use Rattle.fs_record.specs.Restoring.{versioned}
use Rattle.fs_record.proofs.QueueLemmas.{end_refuses, front_more, proceeds_with, leaves_too, queue_refuses, whole_record, with_limit}
use Rattle.fs_record.proofs.restore.restore_record.Goals as goal

pub returns-in-Err-clause-err : goal.returns-in-Err-clause-err
returns-in-Err-clause-err g c =
    let before = c.loop-index.invariant.read in
    let stopped = c.in-Err.ensures.err in
    let head = c.in_ok-head.head in (
      before.0 ++ stopped.0,
      Consumes-trans _ _ _ before.0 stopped.0 before.1 stopped.1,
      queue_refuses before.0 stopped.0 c.args.page_size c.args.limit (versioned head.version c.args.page_size c.args.limit) head.options.0
          head.count c.loop-index.index c.loop-index.queues.items c.in-Err.error
          (proceeds_with head.version c.args.page_size c.args.limit) before.2 c.loop-index.invariant.so_far c.loop-index-test.true
          stopped.2,
      leaves_too c.in-Err.error _ _ _ _ c.loop-index.invariant.failed stopped.3,
    )

pub loop-index-preserved : goal.loop-index-preserved
loop-index-preserved g c =
    let before = c.loop-index.invariant.read in
    let q = c.in-Ok-read_queue.queue in
    let got = c.in-Ok-read_queue.ensures.ok in
    let pushed : c.push.new.self.items ≡ c.loop-index.queues.items ++ q ∷ [] = rw c.unwrap.ensures at c.push.ensures.items in
    let head = c.in_ok-head.head in
    let short : length c.loop-index.queues.items < head.count = omega (arith, c.loop-index.invariant.so_far, c.loop-index-test.true) in
    record {
      read = (
        before.0 ++ queue_bytes q,
        Consumes-trans _ _ _ before.0 (queue_bytes q) before.1 got.0,
        rw pushed (front_more before.0 (versioned head.version c.args.page_size c.args.limit) head.options.0 head.count
            c.loop-index.queues.items q before.2 short got.1),
      );
      failed = Prim.search rules;
      so_far = Prim.search rules;
      within = omega (arith, c.loop-index-test.true);
      room = Prim.search rules;
    }

pub returns-in_err-head-clause-err : goal.returns-in_err-head-clause-err
returns-in_err-head-clause-err g c =
    let refused = c.in_err-head.ensures.err c.args.limit in
    Prim.search (rules, refused)

pub returns-in_default-clause-err : goal.returns-in_default-clause-err
returns-in_default-clause-err g c =
    let head = c.in_ok-head.head in
    let read = c.in_ok-head.ensures.ok in (
      read.0,
      read.1,
      (
        versioned head.version c.args.page_size c.args.limit,
        head.options.0,
        head.count,
        proceeds_with head.version c.args.page_size c.args.limit,
        with_limit head.version read.0 c.args.page_size c.args.limit head.options.0 head.count [] read.2,
        Prim.search rules,
      ),
      read.3,
    )

pub returns-in-Ok-read_end-clause-ok : goal.returns-in-Ok-read_end-clause-ok
returns-in-Ok-read_end-clause-ok g c =
    let before = c.loop-index.invariant.read in
    let head = c.in_ok-head.head in
    let end = end_bytes (versioned head.version 0 c.args.limit) in
    let all : length c.loop-index.queues.items ≡ head.count =
    omega (arith, c.loop-index.invariant.so_far, c.loop-index.invariant.within, c.loop-index-test.false) in
    let read = c.in-Ok-read_end.ensures.ok in (
      before.0 ++ end,
      Consumes-trans _ _ _ before.0 end before.1 read.0,
      whole_record before.0 head.version c.args.page_size c.args.limit head.options.0 head.count c.loop-index.queues.items
          (omega (arith, c.ranges.page_size.fits)) (omega (arith, c.ranges.limit.fits)) before.2 all,
      Prim.search rules,
    )

pub returns-in-Err-read_end-clause-err : goal.returns-in-Err-read_end-clause-err
returns-in-Err-read_end-clause-err g c =
    let before = c.loop-index.invariant.read in
    let head = c.in_ok-head.head in
    let all : length c.loop-index.queues.items ≡ head.count =
    omega (arith, c.loop-index.invariant.so_far, c.loop-index.invariant.within, c.loop-index-test.false) in
    let stopped = c.in-Err-read_end.ensures.err in (
      before.0 ++ stopped.0,
      Consumes-trans _ _ _ before.0 stopped.0 before.1 stopped.1,
      end_refuses before.0 stopped.0 head.version c.args.page_size c.args.limit head.options.0 head.count c.loop-index.queues.items
          c.in-Err-read_end.error before.2 all stopped.2,
      leaves_too c.in-Err-read_end.error _ _ _ _ c.loop-index.invariant.failed stopped.3,
    )
