use Rattle.std.proofs.Common.{◌∙◌}
use Rattle.vm_memory.specs.Layout.{place}
use Rattle.vm_memory.specs.Memory.{circular}
use Rattle.vm_memory.proofs.RangeLemmas.{all_located}
use Rattle.vm_memory.proofs.memory.GuestRegionCollectionGuestMemory.check_range.Goals as goal

pub returns : goal.returns
returns g c = c.has_range.ensures ∙ all_located (circular c.args.addr.0 c.args.count) (place c.args.self.now)
