use Rattle.std.proofs.Common.{◌≡◌, map}
use Rattle.vm_memory.specs.Layout.{regions_of}
use Rattle.vm_memory.proofs.collection.share.Given as goal

abbrev pub invariant-loop-region : goal.invariant-loop-region
invariant-loop-region g l = regions_of g.R.GuestMemoryRegion.region l.all.items ≡ map g.R.GuestMemoryRegion.region l.yielded
