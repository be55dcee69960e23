use Rattle.std.proofs.Common.{refl, inr}
use Rattle.fs_chain_c.proofs.missing.use_of.Goals as goal

pub returns-else-uses : goal.returns-else-uses
returns-else-uses c = inr (refl, c.uses.ensures.unused c.if-uses.false)
