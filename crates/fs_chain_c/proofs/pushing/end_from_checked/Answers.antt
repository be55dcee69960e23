use Rattle.std.proofs.Common.{rules, refl, inl, inr}
use Rattle.fs_chain_c.proofs.pushing.end_from_checked.Goals as goal

pub returns-in-Ok : goal.returns-in-Ok
returns-in-Ok c = inl (search rules, refl, search rules, search rules, search rules)

pub returns-in-Err : goal.returns-in-Err
returns-in-Err c = inr (c.in-Err.error, search rules, refl, search rules)
