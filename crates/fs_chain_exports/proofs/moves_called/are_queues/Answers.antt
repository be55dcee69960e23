use Rattle.std.proofs.Common.{arith, rules}
use Rattle.std.proofs.lemmas.List.{take_all}
use Rattle.std.proofs.lemmas.List.Elements.{All-more}
use Rattle.fs_chain_c.specs.Moving.{HasItsWidths, HasState}
use Rattle.fs_chain_c.proofs.RecordLemmas.{no_numbers}
use Rattle.fs_chain_exports.proofs.moves_called.are_queues.Goals as goal

pub loop-queue-preserved : goal.loop-queue-preserved
loop-queue-preserved c =
    let qs = c.args.queues.now in
    let i = c.loop-queue.queue-index in (
      All-more HasState qs i no_numbers c.loop-queue-test.true c.loop-queue.invariant.0
          (c.in-Some._state, c.in-Some.ensures.checked),
      All-more HasItsWidths qs i no_numbers c.loop-queue-test.true c.loop-queue.invariant.1 (search rules),
    )

pub returns-clause-are : goal.returns-clause-are
returns-clause-are c _ =
    rw (take_all c.loop-queue.queue-index c.args.queues.now (omega (arith, c.loop-queue-test.false))) at c.loop-queue.invariant.0

pub returns-clause-fit : goal.returns-clause-fit
returns-clause-fit c _ =
    rw (take_all c.loop-queue.queue-index c.args.queues.now (omega (arith, c.loop-queue-test.false))) at c.loop-queue.invariant.1
