use Rattle.fs_chain.proofs.Held.{asked_is_mapped, held_is_unreplied, loads_are_few, loads_count}
use Rattle.fs_chain.proofs.laws.law_held.Goals as goal

pub returns-clause-few : goal.returns-clause-few
returns-clause-few c = loads_are_few

pub returns-clause-count : goal.returns-clause-count
returns-clause-count c = loads_count

pub returns-clause-mapped : goal.returns-clause-mapped
returns-clause-mapped c = asked_is_mapped

pub returns-clause-unreplied : goal.returns-clause-unreplied
returns-clause-unreplied c = held_is_unreplied
