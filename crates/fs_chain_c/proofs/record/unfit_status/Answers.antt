use Rattle.std.proofs.Common.{arith, rules}
use Rattle.fs_chain_c.proofs.QueueLemmas.{all_fit, next_fits, none_fits, one_unfit}
use Rattle.fs_chain_c.proofs.record.unfit_status.Goals as goal

pub loop-k-init : goal.loop-k-init
loop-k-init c = (omega arith, none_fits c.args.queues.now c.args.restored.now)

pub returns-then-is_none-clause-unfit : goal.returns-then-is_none-clause-unfit
returns-then-is_none-clause-unfit c =
    let few = c.requires in
    let there = c.loop-k-test.true in
    one_unfit c.args.queues.now c.args.restored.now c.loop-k.k _ c.numbers_over-over.result c.index-restored-k.result c.refusal.result
    (omega (arith, few, there)) there c.index-restored-k.is c.numbers_over-over.ensures (search rules) (search rules) c.loop-k.invariant.1

pub loop-k-preserved : goal.loop-k-preserved
loop-k-preserved c =
    let few = c.requires in
    let there = c.loop-k-test.true in (
      omega (arith, there),
      next_fits c.args.queues.now c.args.restored.now c.loop-k.k _ c.numbers_over-over.result c.index-restored-k.result
          (omega (arith, few, there)) there c.index-restored-k.is c.numbers_over-over.ensures (search rules) c.loop-k.invariant.1,
    )

pub returns-clause-fit : goal.returns-clause-fit
returns-clause-fit c _ =
    all_fit c.args.queues.now c.args.restored.now c.loop-k.k (omega (arith, c.loop-k-test.false)) c.loop-k.invariant.1
