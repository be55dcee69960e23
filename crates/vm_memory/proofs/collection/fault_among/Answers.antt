use Rattle.std.proofs.Common.{List, map, ◌-◌, ◌∙◌, sym, arith}
use Rattle.std.proofs.lemmas.List.{length-map}
use Rattle.vm_memory.specs.Layout.{Region}
use Rattle.vm_memory.proofs.LayoutLemmas.{region_of-map, fault_pair, fault_end, lawful_more, faultless}
use Rattle.vm_memory.proofs.collection.fault_among.Goals as goal

pub returns-in-Some-clause-fault : goal.returns-in-Some-clause-fault
returns-in-Some-clause-fault g c =
    let all : List Region = map g.R.GuestMemoryRegion.region c.args.regions.now in
    let size = length-map c.args.regions.now g.R.GuestMemoryRegion.region in
    let front = region_of-map g.R.GuestMemoryRegion.region c.args.regions.now (c.loop-at.at - 1) c.index-regions-at.result (omega arith)
    c.index-regions-at.is in
    let back = region_of-map g.R.GuestMemoryRegion.region c.args.regions.now c.loop-at.at c.index-regions-at-in-loop-at.result (omega arith)
    c.index-regions-at-in-loop-at.is in
    sym (c.loop-at.invariant.fault ∙ fault_pair all c.loop-at.at _ _ _ (omega arith) front back c.in-Some.ensures.fault)

pub loop-at-preserved : goal.loop-at-preserved
loop-at-preserved g c =
    let all : List Region = map g.R.GuestMemoryRegion.region c.args.regions.now in
    let size = length-map c.args.regions.now g.R.GuestMemoryRegion.region in
    let front = region_of-map g.R.GuestMemoryRegion.region c.args.regions.now (c.loop-at.at - 1) c.index-regions-at.result (omega arith)
    c.index-regions-at.is in
    let back = region_of-map g.R.GuestMemoryRegion.region c.args.regions.now c.loop-at.at c.index-regions-at-in-loop-at.result (omega arith)
    c.index-regions-at-in-loop-at.is in
    record {
      fault = c.loop-at.invariant.fault ∙ fault_pair all c.loop-at.at _ _ _ (omega arith) front back c.in-None.ensures.fault;
      lawful = lawful_more all c.loop-at.at _ c.loop-at.invariant.lawful back c.in-None.ensures.lawful;
    }

pub returns-clause-fault : goal.returns-clause-fault
returns-clause-fault g c =
    let all : List Region = map g.R.GuestMemoryRegion.region c.args.regions.now in
    let size = length-map c.args.regions.now g.R.GuestMemoryRegion.region in
    sym (c.loop-at.invariant.fault ∙ fault_end all c.loop-at.at (omega arith))

pub returns-clause-layout : goal.returns-clause-layout
returns-clause-layout g c = λ none.
    let all : List Region = map g.R.GuestMemoryRegion.region c.args.regions.now in
    let size = length-map c.args.regions.now g.R.GuestMemoryRegion.region in
    faultless all (λ k within. c.loop-at.invariant.lawful k (omega arith))
    (c.loop-at.invariant.fault ∙ fault_end all c.loop-at.at (omega arith))
