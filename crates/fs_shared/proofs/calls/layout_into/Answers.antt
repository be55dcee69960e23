use Rattle.std.proofs.Common.{rules, refl}
use Rattle.fs_device.specs.MachineView.{machine_of}
use Rattle.fs_shared.proofs.ActLemmas.{layout_held}
use Rattle.fs_shared.proofs.calls.layout_into.Goals as goal

pub returns-then-is_err-clause-layout : goal.returns-then-is_err-clause-layout
returns-then-is_err-clause-layout g c = λ start. (
  layout_held (machine_of c.args.machine.now) c.args.layout (c.if-not-holds.ensures.held.0 refl) c.holds.ensures.sound,
  Prim.search rules,
)

pub layout_recorded-requires : goal.layout_recorded-requires
layout_recorded-requires g c =
    layout_held (machine_of c.args.machine.now) c.args.layout (c.if-not-holds.ensures.held.0 refl) c.holds.ensures.sound

pub returns-in-Err-clause-layout : goal.returns-in-Err-clause-layout
returns-in-Err-clause-layout g c = λ start. (
  layout_held (machine_of c.args.machine.now) c.args.layout (c.if-not-holds.ensures.held.0 refl) c.holds.ensures.sound,
  Prim.search rules,
)
