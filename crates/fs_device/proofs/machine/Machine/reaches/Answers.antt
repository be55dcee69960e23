use Rattle.std.proofs.Common.{◌∙◌, arith}
use Rattle.fs_device.proofs.GuestLemmas.{reach_fits}
use Rattle.fs_device.proofs.machine.Machine.reaches.Goals as goal

pub returns-in-Some : goal.returns-in-Some
returns-in-Some g c =
    rw c.get_backend.ensures at c.has_range.ensures
    ∙ reach_fits c.args.self.now.host c.args.self.now.mem.backend c.args.access c.args.addr c.args.len (omega arith)
