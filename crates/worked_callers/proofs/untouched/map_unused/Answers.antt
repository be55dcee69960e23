use Rattle.vm_iotlb.specs.Ranges.{table_held}
use Rattle.vm_iotlb.specs.Table.{mapped}
use Rattle.worked_callers.proofs.StaysAlike.{stays_alike}
use Rattle.worked_callers.proofs.untouched.map_unused.Goals as goal

pub returns : goal.returns
returns c =
    let old = table_held c.args.table.now in
    let new = table_held c.set_mapping.new.self in
    let iova = c.args.iova.0 in
    let target = c.args.target.0 in
    let n = c.args.len in
    let access = c.args.access in
    let ds = c.args.handle.now.descriptors.items in
    let unused = c.uses.ensures.unused c.if-uses.false c.requires.out in
    let done = c.in_ok-set_mapping.ensures in
    record {
      unused = λ not. unused;
      mapped = λ is. done;
      used = λ is. absurd (cc);
      stays = λ is.
          stays_alike old (mapped iova target n access old) new ds done.2
          (c.law_others_stay.ensures iova n target access old ds unused).1;
    }

pub returns-in_err-set_mapping-clause-unused : goal.returns-in_err-set_mapping-clause-unused
returns-in_err-set_mapping-clause-unused c not = c.uses.ensures.unused c.if-uses.false c.requires.out
