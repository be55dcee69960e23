use Rattle.fs_chain.proofs.Offering.{walks_are_offers}
use Rattle.fs_chain.proofs.laws.law_walks.Goals as goal

pub returns : goal.returns
returns c = walks_are_offers c.law_offers.ensures
