use Rattle.fs_chain.proofs.Tickets.{tickets_differ}
use Rattle.fs_chain.proofs.laws.law_tickets.Goals as goal

pub returns : goal.returns
returns c = tickets_differ
