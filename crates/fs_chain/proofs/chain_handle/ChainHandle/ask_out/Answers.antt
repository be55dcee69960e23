use Rattle.fs_chain.proofs.chain_handle.ChainHandle.ask_out.Goals as goal

pub returns-clause-asker : goal.returns-clause-asker
returns-clause-asker c =
    λ whole long front h more reads. c.keep_front.ensures.asker whole (c.ask_front-asked.ensures.asker whole long front) h more reads

pub returns-clause-places : goal.returns-clause-places
returns-clause-places c =
    c.keep_front.ensures.places c.args.session.options.0 c.args.request.now c.ask_front-asked.ensures.places
