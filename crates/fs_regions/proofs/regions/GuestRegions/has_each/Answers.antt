use Rattle.fs_regions.proofs.Reaching.{reaches_by}
use Rattle.fs_regions.proofs.regions.GuestRegions.has_each.Goals as goal

pub returns : goal.returns
returns c = λ access.
    reaches_by c.args.self.now access c.args.addr c.args.len c.has_range.result c.requires (rw c.self.view_is at c.has_range.ensures)
