use Rattle.std.proofs.Common.{◌∙◌, arith, map}
use Rattle.std.proofs.lemmas.List.{length-map}
use Rattle.vm_memory.proofs.LayoutLemmas.{fault_end}
use Rattle.fs_chain_c.specs.Memory.{region_of}
use Rattle.fs_chain_c.proofs.MemoryLemmas.{at_fault, no_fault}
use Rattle.fs_chain_c.proofs.memory.stand_apart.Goals as goal

pub returns-then-regions-at-clause-fault : goal.returns-then-regions-at-clause-fault
returns-then-regions-at-clause-fault c =
    λ no. at_fault c.args.regions.now c.requires.are c.loop-at.at c.loop-at.auto.at c.loop-at-test.true c.if-regions-at.true
    c.loop-at.invariant

pub loop-at-preserved : goal.loop-at-preserved
loop-at-preserved c =
    no_fault c.args.regions.now c.requires.are c.loop-at.at c.loop-at.auto.at c.loop-at-test.true c.if-regions-at.false c.loop-at.invariant

pub returns-clause-apart : goal.returns-clause-apart
returns-clause-apart c =
    let size = length-map c.args.regions.now region_of in
    λ yes. c.loop-at.invariant ∙ fault_end (map region_of c.args.regions.now) c.loop-at.at (omega arith)
