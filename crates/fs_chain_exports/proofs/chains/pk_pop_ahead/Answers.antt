use Rattle.std.proofs.Common.{rules}
use Rattle.fs_chain_c.proofs.HandleLemmas.{on_handle}
use Rattle.fs_chain_exports.proofs.chains.pk_pop_ahead.Goals as goal

pub returns-clause-pops : goal.returns-clause-pops
returns-clause-pops c =
    on_handle _ _ c.args.chain.now.held.value c.of_box.result.held.value
    c.deref_mut.result.now c.pop_handle_ahead-status.new.handle (search rules)
    (search rules) c.pop_handle_ahead-status.ensures.pops
