use Rattle.std.proofs.Common.{◌-◌, arith, sym, ◌∙◌}
use Rattle.vm_memory.proofs.LayoutLemmas.{last_is}
use Rattle.vm_memory.proofs.backend.GuestRegionCollectionGuestMemoryBackend.last_addr.Goals as goal

pub returns : goal.returns
returns g c = c.last_addr.ensures.last
    ∙ sym (last_is c.args.self.now (c.count-count.result - 1) _ c.count-count.ensures.layout c.region.ensures (omega arith))
