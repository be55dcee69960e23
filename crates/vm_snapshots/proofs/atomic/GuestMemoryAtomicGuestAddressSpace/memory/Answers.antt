use Rattle.std.proofs.Common.{refl, ap, ◌∙◌}
use Rattle.vm_snapshots.proofs.atomic.GuestMemoryAtomicGuestAddressSpace.memory.Goals as goal

pub returns : goal.returns
returns g c = record {
  lent = (
    c.deref-3.result.now,
    ap g.L.MemoryLaw.allows c.deref-3.ensures ∙ c.deref-2.result.now.was_put,
    (c.deref-3.result, c.f.ensures, refl),
  );
}
