use Rattle.std.proofs.Common.{rules, inr}
use Rattle.fs_chain_c.proofs.setting.set_handle.Goals as goal

pub returns-in-Err : goal.returns-in-Err
returns-in-Err c = inr (c.in-Err.refusal, search rules, c.in-Err.ensures.refused, search rules)
