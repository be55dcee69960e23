use Rattle.std.proofs.Common.{rules, arith, get_or}
use Rattle.std.proofs.lemmas.List.{get_or_default, take_all}
use Rattle.std.proofs.lemmas.List.Elements.{All-more}
use Rattle.fs_chain_c.specs.Queues.{IsQueue}
use Rattle.fs_chain_c.specs.Records.{HasNoneOut}
use Rattle.fs_chain_c.proofs.RecordLemmas.{first_refused, no_numbers}
use Rattle.fs_chain_c.proofs.record.queues_refusal.Goals as goal

pub returns-in-Some-clause-refused : goal.returns-in-Some-clause-refused
returns-in-Some-clause-refused c =
    let at = get_or c.args.queues.now c.loop-queue.queue-index no_numbers in
    first_refused c.args.queues.now c.loop-queue.queue-index at c.in-Some.why c.loop-queue-test.true
    (get_or_default c.args.queues.now c.loop-queue.queue-index no_numbers at c.loop-queue-test.true) c.loop-queue.invariant.0
    c.loop-queue.invariant.1 (search rules)

pub loop-queue-preserved : goal.loop-queue-preserved
loop-queue-preserved c =
    let qs = c.args.queues.now in
    let i = c.loop-queue.queue-index in (
      All-more IsQueue qs i no_numbers c.loop-queue-test.true c.loop-queue.invariant.0 (search rules),
      All-more HasNoneOut qs i no_numbers c.loop-queue-test.true c.loop-queue.invariant.1 (search rules),
    )

pub returns-clause-are : goal.returns-clause-are
returns-clause-are c _ =
    rw (take_all c.loop-queue.queue-index c.args.queues.now (omega (arith, c.loop-queue-test.false))) at c.loop-queue.invariant.0

pub returns-clause-none_out : goal.returns-clause-none_out
returns-clause-none_out c _ =
    rw (take_all c.loop-queue.queue-index c.args.queues.now (omega (arith, c.loop-queue-test.false))) at c.loop-queue.invariant.1
