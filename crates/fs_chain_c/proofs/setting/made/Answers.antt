use Rattle.std.proofs.Common.{rules}
use Rattle.fs_chain_c.proofs.HandleLemmas.{proceeds_along}
use Rattle.fs_chain_c.proofs.setting.made.Goals as goal

pub returns-in-Ok-boxed-clause-ok : goal.returns-in-Ok-boxed-clause-ok
returns-in-Ok-boxed-clause-ok c =
    let b = c.new-handle.result in
    let set = c.in-Ok.ensures.set in (
      b,
      search rules,
      proceeds_along b c.args.device.now c.args.regions.now c.set_memory.new.self c.in-Ok-boxed.handle.value (search rules) (
        c.in-Ok.ensures.ok,
        search rules,
        search rules,
        (search rules, search rules),
        set.1,
        set.2,
        set.3,
        set.4,
        set.5,
        set.6,
      ),
    )
