use Rattle.fs_confinement.proofs.ByLoadsLemmas.{walks_read, offers_read}
use Rattle.fs_confinement.proofs.laws.law_reads_are_loads.Goals as goal

pub returns-clause-walks : goal.returns-clause-walks
returns-clause-walks c = walks_read

pub returns-clause-offers : goal.returns-clause-offers
returns-clause-offers c = offers_read
