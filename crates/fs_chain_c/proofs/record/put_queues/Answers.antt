use Rattle.std.proofs.Common.{arith, rules}
use Rattle.fs_chain_c.proofs.QueueLemmas.{over_next}
use Rattle.fs_chain_c.proofs.record.put_queues.Goals as goal

pub loop-k-preserved : goal.loop-k-preserved
loop-k-preserved c =
    let inv = c.loop-k.invariant in
    let fits = inv.fits in
    let test = c.loop-k-test.true in
    let few = c.requires in record {
      few = search rules;
      fits = search rules;
      are = over_next c.args.queues.now c.loop-k.queues c.args.restored.now c.loop-k.k _ c.numbers_over.result c.index-restored-k.result
          inv.are (omega (arith, fits, test, few)) test
          c.index-restored-k.is c.numbers_over.ensures;
    }
