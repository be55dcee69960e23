use Rattle.std.proofs.Common.{rules}
use Rattle.fs_chain_c.proofs.HandleLemmas.{sets_memory}
use Rattle.fs_chain_c.proofs.setting.set_memory.Goals as goal

pub returns-in-Some : goal.returns-in-Some
returns-in-Some c =
    sets_memory c.args.device.now c.args.regions.now c.set_handle-status.result c.args.chain.now.held.value
    c.of_box.result.held.value c.deref_mut.result.now c.set_handle-status.new.handle (search rules) (search rules)
    c.set_handle-status.ensures
