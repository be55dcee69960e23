use Rattle.std.proofs.Common.{refl}
use Rattle.plain_machine.specs.Run.{effect}
use Rattle.fs_device.proofs.LayoutLemmas.{all_known, not_known, all_fit, all_apart}
use Rattle.fs_device.proofs.machine.Machine.set_layout.Goals as goal

pub returns-then-not-holds : goal.returns-then-not-holds
unfolding effect
returns-then-not-holds g c =
    rw (not_known c.args.self.now.host c.args.layout (λ held. let no = c.if-not-holds.ensures.held.1 held in absurd (cc))) refl

pub returns : goal.returns
unfolding effect
returns g c =
    rw (
      all_known c.args.self.now.host c.args.layout (c.if-not-holds.ensures.held.0 refl),
      all_fit c.args.layout c.holds.ensures.sound,
      all_apart c.args.layout c.holds.ensures.sound,
      c.set_backend.ensures,
    ) refl
