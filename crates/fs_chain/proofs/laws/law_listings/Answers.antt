use Rattle.fs_chain.proofs.HoldsListed.{begins_listing, gathers_decoded, leaves_out, listing_is_held, looks_up, reads_directory}
use Rattle.fs_chain.proofs.laws.law_listings.Goals as goal

pub returns-clause-begins : goal.returns-clause-begins
returns-clause-begins c = begins_listing

pub returns-clause-decoded : goal.returns-clause-decoded
returns-clause-decoded c = gathers_decoded

pub returns-clause-held : goal.returns-clause-held
returns-clause-held c = listing_is_held

pub returns-clause-reads : goal.returns-clause-reads
returns-clause-reads c = reads_directory

pub returns-clause-looks_up : goal.returns-clause-looks_up
returns-clause-looks_up c = looks_up

pub returns-clause-leaves_out : goal.returns-clause-leaves_out
returns-clause-leaves_out c = leaves_out
