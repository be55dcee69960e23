use Rattle.std.proofs.Common.{refl}
use Rattle.plain_machine.specs.Run.{effect}
use Rattle.fs_device.proofs.machine.Machine.image.Goals as goal

pub returns-in-Ok : goal.returns-in-Ok
unfolding effect
returns-in-Ok g c = record { performs = rw (c.in-Ok.ensures.copy, c.in-Ok.ensures.cleared) refl; mem = refl }
