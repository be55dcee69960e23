use Rattle.std.proofs.Common.{rules, inr, ◌∙◌}
use Rattle.fs_chain.proofs.LoadLemmas.{joined_proceeds}
use Rattle.fs_chain.proofs.chain_handle.ChainHandle.give_part.Goals as goal

pub returns-in-Ok-clause-proceeds : goal.returns-in-Ok-clause-proceeds
returns-in-Ok-clause-proceeds c =
    let stays = c.join_part.ensures.stays in
    let proceeds = joined_proceeds c.args.self.now c.join_part.new.self c.walk_joined.new.self c.args.queue.now c.walk_joined.new.queue
    c.in-Ok.walked c.args.loaded.now c.requires
    c.join_part.ensures.apart stays.3 c.in_default-join_part.ensures.joined c.in-Ok.ensures.ok c.in-Ok.ensures.walks in (
      inr (inr (c.are_wanted.ensures.wanted (search rules))),
      c.in-Ok.ensures.none,
      c.in-Ok.ensures.session ∙ stays.4,
      proceeds.0,
      proceeds.1,
    )
