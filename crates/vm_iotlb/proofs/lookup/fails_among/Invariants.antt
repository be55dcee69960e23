use Rattle.std.proofs.Common.{◌≡◌, ◌≤◌, ◌-◌, ◌++◌}
use Rattle.std.specs.Map.{values_of}
use Rattle.vm_iotlb.specs.Table.{Table}
use Rattle.vm_iotlb.specs.Ranges.{Agree, AreRanges, EndsAbove}
use Rattle.vm_iotlb.specs.AddressRuns.{missing, lacking}
use Rattle.vm_iotlb.proofs.lookup.fails_among.Given as goal

abbrev pub invariant-loop-range : goal.invariant-loop-range
invariant-loop-range l = record {
  order : l.iova ≤ l.next;
  most : l.next ≤ l.end;
  first : EndsAbove l.next (values_of l.range-iterator);
  ranges : AreRanges (values_of l.range-iterator);
  rest : (table : Table) → Agree table (values_of l.fn.ranges) l.iova l.end → Agree table (values_of l.range-iterator) l.next l.end;
  misses : (table : Table) → Agree table (values_of l.fn.ranges) l.iova l.end →
      l.misses.items ++ missing table l.next (l.end - l.next) ≡ missing table l.iova (l.end - l.iova);
  access : (table : Table) → Agree table (values_of l.fn.ranges) l.iova l.end →
      l.access_fails.items ++ lacking table l.access l.next (l.end - l.next) ≡ lacking table l.access l.iova (l.end - l.iova);
}
