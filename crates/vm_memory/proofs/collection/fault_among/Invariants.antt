use Rattle.std.proofs.Common.{◌≡◌, ℕ, ◌<◌, map}
use Rattle.vm_memory.specs.Layout.{IsLawful}
use Rattle.vm_memory.specs.Collecting.{fault_of}
use Rattle.vm_memory.proofs.LayoutLemmas.{fault_from, region_of}
use Rattle.vm_memory.proofs.collection.fault_among.Given as goal

abbrev pub invariant-loop-at : goal.invariant-loop-at
invariant-loop-at g l = record {
  fault : fault_of (map g.R.GuestMemoryRegion.region l.regions) ≡ fault_from (map g.R.GuestMemoryRegion.region l.regions) l.at;
  lawful : (k : ℕ) → k < l.at → IsLawful (region_of (map g.R.GuestMemoryRegion.region l.regions) k);
}
