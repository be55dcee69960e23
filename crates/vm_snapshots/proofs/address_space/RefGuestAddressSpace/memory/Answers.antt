use Rattle.std.proofs.Common.{refl}
use Rattle.vm_snapshots.proofs.address_space.RefGuestAddressSpace.memory.Goals as goal

pub returns : goal.returns
returns g c = record { lent = (c.args.self.now.now, refl, (c.args.self.now, c.f.ensures, refl)) }
