use Rattle.std.proofs.Common.{◌≡◌, true, length, take}
use Rattle.std.specs.List.{list_all}
use Rattle.vm_memory.specs.Layout.{regions_of}
use Rattle.vm_memory.specs.Making.{is_good, grown_by, regions_from}
use Rattle.vm_memory.proofs.guest_memory.regions_over.Given as goal

abbrev pub invariant-loop-range : goal.invariant-loop-range
invariant-loop-range g l = record {
  good : list_all is_good (take l.range-index l.ranges) ≡ true;
  host : l.host ≡ grown_by g.B.NewBitmap.count l.initial.host (take l.range-index l.ranges);
  made : regions_of (λ r. r) l.regions.items ≡ regions_from (length l.initial.host.blocks) (take l.range-index l.ranges);
}
