use Rattle.std.proofs.Common.{rules, inr}
use Rattle.fs_chain_c.proofs.pushing.push_handle.Goals as goal

pub returns-in-Some : goal.returns-in-Some
returns-in-Some c = inr (search rules, c.in-Some.checked, search rules, search rules)
