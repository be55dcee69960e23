use Rattle.std.proofs.Common.{◌≡◌, take}
use Rattle.vm_memory.specs.Layout.{regions_of}
use Rattle.vm_memory.proofs.collection.GuestRegionCollection.copied.Given as goal

abbrev pub invariant-loop-region : goal.invariant-loop-region
invariant-loop-region g l =
    regions_of g.R.GuestMemoryRegion.region l.all.items ≡ take l.region-index (regions_of g.R.GuestMemoryRegion.region l.region-items)
