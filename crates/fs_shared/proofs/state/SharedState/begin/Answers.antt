use Rattle.std.proofs.Common.{sym, ◌∙◌}
use Rattle.fs_device.specs.MachineView.{machine_of}
use Rattle.fs_shared.specs.Replay.{forget}
use Rattle.fs_shared.proofs.Appending.{replays_none}
use Rattle.fs_shared.proofs.state.SharedState.begin.Goals as goal

pub invariant_of-result : goal.invariant_of-result
invariant_of-result g c = (
  rw (c.requires.start, c.new.ensures.items) (replays_none (forget (machine_of c.args.machine))),
  c.requires.none ∙ sym c.new.ensures.len,
)
