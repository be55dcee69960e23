use Rattle.std.proofs.Common.{[], ◌∷◌}
use Rattle.fs_queue.specs.Chain.{IsChain}
use Rattle.fs_queue.specs.Loads.{Reads}
use Rattle.fs_queue.specs.Taking.{offer}
use Rattle.plain_machine.specs.Examples.{blank, queue, with_one_request}
use Rattle.law_callers.specs.Worked.{first_load, second_step, two_descriptors, unknown_loads}
use Rattle.law_callers.proofs.Steps.{chain_is_found_exactly, entries_are, entries_in_turn, entry_is, first_is_entry}
use Rattle.law_callers.proofs.Steps.{first_leads, index_is, reach_alike}
use Rattle.law_callers.proofs.walks.load_a_chain.Goals as goal

pub returns-clause-still : goal.returns-clause-still
returns-clause-still c =
    c.law_loads.ensures.still with_one_request queue 0 unknown_loads.entries (IsChain two_descriptors) entries_are
    (c.law_loads.ensures.rest queue 0 unknown_loads.entries [] (IsChain two_descriptors) chain_is_found_exactly)

pub returns-clause-confined : goal.returns-clause-confined
returns-clause-confined c n are =
    c.law_loads.ensures.confined with_one_request n queue 0 unknown_loads.entries (IsChain two_descriptors) entries_are are
    (c.law_loads.ensures.rest queue 0 unknown_loads.entries [] (IsChain two_descriptors) chain_is_found_exactly)

pub returns-clause-in_turn : goal.returns-clause-in_turn
returns-clause-in_turn c =
    c.law_loads.ensures.in_turn (with_one_request ∷ with_one_request ∷ []) queue 0 unknown_loads.entries (IsChain two_descriptors)
    entries_in_turn
    (c.law_loads.ensures.rest queue 0 unknown_loads.entries [] (IsChain two_descriptors) chain_is_found_exactly)

pub returns-clause-rest : goal.returns-clause-rest
returns-clause-rest c more =
    c.law_loads.ensures.rest queue 0 unknown_loads.entries more (IsChain two_descriptors) chain_is_found_exactly

pub returns-clause-cut_off : goal.returns-clause-cut_off
returns-clause-cut_off c =
    c.law_loads.ensures.cut_off with_one_request queue 0 (first_load ∷ []) (Reads second_step) first_is_entry first_leads

pub returns-clause-finds : goal.returns-clause-finds
returns-clause-finds c m = c.law_loads.ensures.finds m queue 0

pub returns-clause-offer : goal.returns-clause-offer
returns-clause-offer c m h o offered =
    c.law_loads.ensures.offer m 0x101000 queue h.index h.entry h.entries h.request o h.are offered

pub returns-clause-offers : goal.returns-clause-offers
returns-clause-offers c m = c.law_loads.ensures.offer_finds m 0x101000 queue

pub returns-clause-ring : goal.returns-clause-ring
returns-clause-ring c = c.law_loads.ensures.ring with_one_request queue unknown_loads.index unknown_loads.entry index_is entry_is

pub returns-clause-places : goal.returns-clause-places
returns-clause-places c index entry request =
    c.law_loads.ensures.places with_one_request blank 0x101000 queue index entry unknown_loads.entries request reach_alike

pub returns-clause-offers_confined : goal.returns-clause-offers_confined
returns-clause-offers_confined c m n h alike are =
    c.law_loads.ensures.offers_confined m n 0x101000 queue h.index h.entry h.entries h.request (offer m 0x101000 queue) alike h.are are
    h.offered
