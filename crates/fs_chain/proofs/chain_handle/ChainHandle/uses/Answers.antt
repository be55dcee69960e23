use Rattle.std.proofs.Common.{rules}
use Rattle.fs_chain.proofs.chain_handle.ChainHandle.uses.Goals as goal

pub returns-clause-used : goal.returns-clause-used
returns-clause-used c = λ yes. let used = rw c.deref.ensures at c.uses.ensures.used in (search rules, used yes)

pub returns-clause-unused : goal.returns-clause-unused
returns-clause-unused c = λ yes out. let unused = rw c.deref.ensures at c.uses.ensures.unused in unused yes
