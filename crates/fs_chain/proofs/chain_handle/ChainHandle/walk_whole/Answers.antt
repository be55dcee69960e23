use Rattle.std.proofs.Common.{rules, refl, sym}
use Rattle.fs_chain.proofs.LoadLemmas.{due, refuses_a_pop, walks_apart}
use Rattle.fs_chain.proofs.chain_handle.ChainHandle.walk_whole.Goals as goal

pub returns-in-Ok-clause-proceeds : goal.returns-in-Ok-clause-proceeds
returns-in-Ok-clause-proceeds c = (
  due c.args.self.now c.args.loaded.now c.requires.due,
  search rules,
  search rules,
  search rules,
  walks_apart c.args.self.now c.args.self.now c.walk_load.new.self c.clear_part.new.self _ _ _ c.args.loaded.now _ refl
      c.clear_part.ensures.apart (sym c.requires.whole) c.in-Ok.ensures.walks,
)

pub returns-in-Err-clause-error : goal.returns-in-Err-clause-error
returns-in-Err-clause-error c =
    refuses_a_pop c.args.self.now c.args.queue.now c.args.loaded.now c.in-Err.error c.requires.due c.requires.len c.requires.whole
    c.in-Err.ensures.error c.in-Err.ensures.memory
