use Rattle.std.proofs.Common.{◌∙◌, sym}
use Rattle.fs_regions.proofs.Reaching.{first_has}
use Rattle.fs_regions.proofs.regions.GuestRegions.find.Goals as goal

pub returns-then-has-clause-found : goal.returns-then-has-clause-found
returns-then-has-clause-found c =
    let begins = rw c.in-Some.is at c.self.invariant.1 in
    rw (← c.self.view_is)
    (first_has c.self.inside.regions begins.0 c.in-Some.first c.args.addr begins.1 (sym c.has.ensures ∙ c.if-has.true))
