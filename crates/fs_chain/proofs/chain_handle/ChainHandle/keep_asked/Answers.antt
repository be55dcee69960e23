use Rattle.fs_chain.proofs.chain_handle.ChainHandle.keep_asked.Goals as goal

pub returns-in-Call-clause-reports : goal.returns-in-Call-clause-reports
returns-in-Call-clause-reports c =
    λ s m bytes result. c.waiting_state-self.ensures.keeps s m bytes c.in-Call.call (rw c.in-Call.is at result)
