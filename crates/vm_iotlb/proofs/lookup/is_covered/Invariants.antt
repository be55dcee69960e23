use Rattle.std.proofs.Common.{◌≡◌, ◌≤◌, ◌-◌}
use Rattle.std.specs.Map.{values_of}
use Rattle.vm_iotlb.specs.Table.{Table}
use Rattle.vm_iotlb.specs.Ranges.{Agree, AreRanges, EndsAbove}
use Rattle.vm_iotlb.specs.AddressRuns.{may_all}
use Rattle.vm_iotlb.proofs.lookup.is_covered.Given as goal

abbrev pub invariant-loop-range : goal.invariant-loop-range
invariant-loop-range l = record {
  order : l.iova ≤ l.next;
  most : l.next ≤ l.end;
  first : EndsAbove l.next (values_of l.range-iterator);
  ranges : AreRanges (values_of l.range-iterator);
  rest : (table : Table) → Agree table (values_of l.fn.ranges) l.iova l.end → Agree table (values_of l.range-iterator) l.next l.end;
  all : (table : Table) → Agree table (values_of l.fn.ranges) l.iova l.end →
      may_all table l.access l.iova (l.end - l.iova) ≡ may_all table l.access l.next (l.end - l.next);
}
