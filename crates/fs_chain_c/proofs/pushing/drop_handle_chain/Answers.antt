use Rattle.std.proofs.Common.{rules, inl, inr}
use Rattle.fs_chain_c.proofs.pushing.drop_handle_chain.Goals as goal

pub returns-in-Some : goal.returns-in-Some
returns-in-Some c = inr (inr (search rules, search rules, c.in-Some.checked, search rules, search rules))

pub returns-in-None : goal.returns-in-None
returns-in-None c = inr (inl (search rules, search rules, search rules))
