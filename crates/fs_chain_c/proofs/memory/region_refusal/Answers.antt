use Rattle.std.proofs.Common.{rules, arith, get_or}
use Rattle.std.proofs.lemmas.List.{get_or_default, take_all}
use Rattle.std.proofs.lemmas.List.Elements.{All-more}
use Rattle.fs_chain_c.specs.Memory.{IsRegion}
use Rattle.fs_chain_c.specs.declared.memory.FsRegion.{FsRegion}
use Rattle.fs_chain_c.proofs.MemoryLemmas.{no_region, nowhere}
use Rattle.fs_chain_c.proofs.memory.region_refusal.Goals as goal

pub returns-then-is_none-clause-others : goal.returns-then-is_none-clause-others
returns-then-is_none-clause-others c =
    let at = get_or c.args.regions.now c.loop-region.region-index nowhere in
    no_region c.args.regions.now c.loop-region.region-index at c.region_status.result c.loop-region-test.true
    (get_or_default c.args.regions.now c.loop-region.region-index nowhere at c.loop-region-test.true) c.loop-region.invariant
    (search rules) (search rules)

pub loop-region-preserved : goal.loop-region-preserved
loop-region-preserved c =
    All-more IsRegion c.args.regions.now c.loop-region.region-index nowhere c.loop-region-test.true c.loop-region.invariant (search rules)

pub returns-clause-are : goal.returns-clause-are
returns-clause-are c _ =
    rw (take_all c.loop-region.region-index c.args.regions.now (omega (arith, c.loop-region-test.false))) at c.loop-region.invariant
