use Rattle.std.proofs.Common.{arith, rules}
use Rattle.std.proofs.lemmas.Grind.{common_steps}
use Rattle.std.proofs.lemmas.List.Elements.{All-more}
use Rattle.fs_chain_c.specs.Queues.{IsQueue}
use Rattle.fs_chain_c.specs.Records.{HasNoneOut}
use Rattle.fs_chain_c.proofs.RecordLemmas.{no_numbers}
use Rattle.fs_chain_c.proofs.record.queues_of.Goals as goal

pub loop-queue-preserved : goal.loop-queue-preserved
loop-queue-preserved c =
    let qs = c.args.queues.now in
    let i = c.loop-queue.queue-index in (
      grind (arith, common_steps),
      search rules,
      All-more IsQueue qs i no_numbers c.loop-queue-test.true c.loop-queue.invariant.2 (search rules),
      All-more HasNoneOut qs i no_numbers c.loop-queue-test.true c.loop-queue.invariant.3 (search rules),
    )
