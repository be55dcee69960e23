use Rattle.std.proofs.Common.{arith}
use Rattle.fs_regions.proofs.entries.EntriesWalk.address.Goals as goal

pub returns-clause-fits : goal.returns-clause-fits
returns-clause-fits c =
    let ends = c.args.self.now.walk.ends in
    let inside = c.args.self.now.inside in
    let at = c.address.ensures.address in
    omega (arith, ends, inside, at)
