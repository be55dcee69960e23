use Rattle.std.proofs.Common.{rules, refl, inl}
use Rattle.fs_chain_c.proofs.HandleLemmas.{state_refuses}
use Rattle.fs_chain_c.proofs.setting.go_over.Goals as goal

pub returns-then-not-is_lawful-clause-refused : goal.returns-then-not-is_lawful-clause-refused
returns-then-not-is_lawful-clause-refused c = inl (refl, search rules)

pub returns-in-Err-set_memory-clause-refused : goal.returns-in-Err-set_memory-clause-refused
returns-in-Err-set_memory-clause-refused c =
    state_refuses c.args.handle.now c.args.device.now c.args.regions.now _ c.in-Err-set_memory.error (search rules) c.in-Ok.ensures.ok
    (search rules)
