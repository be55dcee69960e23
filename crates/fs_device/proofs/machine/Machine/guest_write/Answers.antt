use Rattle.std.proofs.Common.{◌∙◌, sym, refl}
use Rattle.plain_machine.specs.Run.{effect}
use Rattle.fs_device.proofs.machine.Machine.guest_write.Goals as goal

pub returns-then-not-reaches : goal.returns-then-not-reaches
unfolding effect
returns-then-not-reaches g c = rw (sym c.reaches.ensures ∙ c.if-not-reaches.true) refl

pub returns : goal.returns
unfolding effect
returns g c = rw (sym c.reaches.ensures ∙ c.if-not-reaches.false, c.store.ensures) refl
