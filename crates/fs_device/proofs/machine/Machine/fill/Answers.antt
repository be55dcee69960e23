use Rattle.std.proofs.Common.{refl, length}
use Rattle.fs_device.proofs.GuestLemmas.{filled}
use Rattle.fs_device.proofs.machine.Machine.fill.Goals as goal

pub returns : goal.returns
returns g c =
    filled c.args.self.now.host c.args.self.now.mem.backend c.args.addr (length c.args.buffer.now) c.args.buffer.now c.read_slice.new.buffer
    refl c.requires
    (rw c.get_backend-layout.ensures at c.read_slice.ensures.bytes)
