use Rattle.std.proofs.Common.{subst}
use Rattle.fs_shared.specs.Held.{Held}
use Rattle.fs_shared.specs.Laws.{HoldsReplay}
use Rattle.fs_shared.proofs.device.SharedDevice.guest_read.Goals as goal

pub returns : goal.returns
returns g c = record {
  does = (
    c.deref_mut.result.now,
    c.guest_read.ensures.read,
    subst (λ (h : Held g.row.F.Denot). HoldsReplay h) c.guest_read.ensures.same c.guest_read.ensures.replays,
  );
}
