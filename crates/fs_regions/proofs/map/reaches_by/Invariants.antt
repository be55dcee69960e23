use Rattle.std.proofs.Common.{◌≡◌, ◌≤◌, ◌-◌}
use Rattle.std.specs.Prelude.{is_some}
use Rattle.std.specs.List.{list_all}
use Rattle.vm_iotlb.specs.Ranges.{table_held}
use Rattle.vm_memory.specs.Memory.{addresses}
use Rattle.vm_memory.specs.Translated.{translated}
use Rattle.fs_regions.proofs.map.reaches_by.Given as goal

abbrev pub invariant-pieces : goal.invariant-pieces
invariant-pieces l = record {
  order : l.next ≤ l.end;
  same : list_all (λ a. is_some (translated l.regions (table_held l.table) 0 l.access a)) (addresses l.addr l.len)
      ≡ list_all (λ a. is_some (translated l.regions (table_held l.table) 0 l.access a)) (addresses l.next (l.end - l.next));
}

abbrev pub decreases-pieces : goal.decreases-pieces
decreases-pieces l = l.end - l.next
