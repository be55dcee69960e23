use Rattle.std.proofs.Common.{rules, sym, ◌∙◌}
use Rattle.fs_device.specs.MachineView.{machine_of}
use Rattle.fs_shared.proofs.ActLemmas.{write_would}
use Rattle.fs_shared.proofs.calls.write_into.Goals as goal

pub returns-then-is_err-clause-write : goal.returns-then-is_err-clause-write
returns-then-is_err-clause-write g c = λ start. (
  write_would (machine_of c.args.machine.now) c.args.addr c.args.bytes.now (sym c.reaches.ensures ∙ c.if-not-reaches.false),
  Prim.search rules,
)

pub returns-in-Err-clause-write : goal.returns-in-Err-clause-write
returns-in-Err-clause-write g c = λ start. (
  write_would (machine_of c.args.machine.now) c.args.addr c.args.bytes.now (sym c.reaches.ensures ∙ c.if-not-reaches.false),
  Prim.search rules,
)
