use Rattle.vm_iotlb.specs.declared.permissions.Permissions.TheVariants.{Read}
use Rattle.vm_iotlb.specs.Ranges.{table_held}
use Rattle.vm_iotlb.specs.Table.{unmapped}
use Rattle.worked_callers.proofs.StaysAlike.{stays_alike}
use Rattle.worked_callers.proofs.untouched.unmap_unused.Goals as goal

pub returns : goal.returns
returns c =
    let old = table_held c.args.table.now in
    let new = table_held c.invalidate_mapping.new.self in
    let iova = c.args.iova.0 in
    let n = c.args.len in
    let ds = c.args.handle.now.descriptors.items in
    let unused = c.uses.ensures.unused c.if-uses.false c.requires.out in
    let done = c.in_ok-invalidate_mapping.ensures in
    record {
      unused = λ not. unused;
      removed = λ is. done;
      used = λ is. absurd (cc);
      stays = λ is. stays_alike old (unmapped iova n old) new ds done.1 (c.law_others_stay.ensures iova n 0 Read old ds unused).0;
    }

pub returns-in_err-invalidate_mapping-clause-unused : goal.returns-in_err-invalidate_mapping-clause-unused
returns-in_err-invalidate_mapping-clause-unused c not = c.uses.ensures.unused c.if-uses.false c.requires.out
