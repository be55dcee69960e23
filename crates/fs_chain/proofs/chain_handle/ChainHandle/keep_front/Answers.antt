use Rattle.fuse_fs.specs.Answers.{context_of}
use Rattle.fs_chain.proofs.chain_handle.ChainHandle.keep_front.Goals as goal

pub returns-in-Decoded-clause-asker : goal.returns-in-Decoded-clause-asker
returns-in-Decoded-clause-asker c =
    λ request has h more reads. c.keep_asked.ensures.asker (context_of h) ((rw c.in-Decoded.is at has) h more reads)

pub returns-in-Decoded-clause-places : goal.returns-in-Decoded-clause-places
returns-in-Decoded-clause-places c =
    λ options request stands. c.keep_asked.ensures.places options request (rw c.in-Decoded.is at stands)
