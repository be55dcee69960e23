use Rattle.std.proofs.Common.{rules, inl, inr}
use Rattle.fs_chain_c.proofs.popping.pop_handle_ahead.Goals as goal

pub returns-in-Ok-clause-pops : goal.returns-in-Ok-clause-pops
returns-in-Ok-clause-pops c =
    inr (
      search rules,
      c.in-Some.checked,
      search rules,
      inl (c.in-Ok.outcome, c.pop_ahead.new.queue, search rules, search rules, search rules),
    )

pub returns-in-Err-clause-pops : goal.returns-in-Err-clause-pops
returns-in-Err-clause-pops c =
    inr (
      search rules,
      c.in-Some.checked,
      search rules,
      inr (c.in-Err.error, search rules, search rules, search rules, search rules, search rules),
    )
