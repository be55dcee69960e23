use Rattle.server_phases.proofs.Gathered.{ends}
use Rattle.server_phases.proofs.listing.Listing.end.Goals as goal

pub returns-clause-gives : goal.returns-clause-gives
returns-clause-gives c = λ s command list es is holds.
    let reply = c.entries_reply.ensures in
    rw (reply.front, reply.len) (ends s c.args.self command list es is holds)
