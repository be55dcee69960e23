use Rattle.std.proofs.Common.{rules}
use Rattle.fs_chain_c.proofs.HandleLemmas.{on_handle}
use Rattle.fs_chain_exports.proofs.chains.pk_pushed.Goals as goal

pub returns : goal.returns
returns c =
    on_handle _ _ c.args.chain.now.held.value c.of_box.result.held.value
    c.deref_mut.result.now c.end_handle_push-returned.new.handle (search rules)
    (search rules) c.end_handle_push-returned.ensures
