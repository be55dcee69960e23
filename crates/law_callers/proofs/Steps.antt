-- Steps of the worked machines.
use Rattle.std.proofs.Common.{◌≡◌, [], ◌∷◌, ◌++◌, refl, true}
use Rattle.std.specs.Prelude.{None, Some}
use Rattle.vm_memory.specs.Layout.{place}
use Rattle.vm_memory.specs.Memory.{addresses, stored_all}
use Rattle.fs_queue.specs.Chain.{IsChain, chain, first_visit, found, path, walk}
use Rattle.fs_queue.specs.Loads.{AreEntriesInTurn, AreEntriesOf, IsLoadOf, entry_load, index_load}
use Rattle.fs_queue.specs.Loads.{Reads, ahead_at, ahead_by}
use Rattle.fs_queue.specs.Loads.{chain_exactly, found_exactly}
use Rattle.fs_queue.specs.Paths.{EachFollows, IsPath}
use Rattle.fs_queue.specs.Returning.{advanced}
use Rattle.fs_queue.specs.OfferLoads.{SameReach}
use Rattle.fs_queue.specs.Taking.{IsRequest, offer, request_and_room}
use Rattle.vm_values.specs.Fields as fields
use Rattle.fuse_fs.specs.Calls.{Done, Forget}
use Rattle.server_requests.specs.Reading.{record_parser}
use Rattle.server_replies.specs.WholeReplies.{error_bytes}
use Rattle.server_meanings.specs.Examples.{le16, nobody}
use Rattle.server_meanings.specs.Grammar.{meaning, meant, row}
use Rattle.server_meanings.specs.Serving.{May}
use Rattle.plain_machine.specs.Examples.{blank, queue, request, unknown_exchange, unknown_reply, with_one_request}
use Rattle.plain_machine.specs.Run.{KickRun, Performs, RunReported, effect}
use Rattle.plain_machine.specs.Step.{Exchanged, Step}
use Rattle.plain_machine.specs.StepBy.{StepBy, offered_by}
use Rattle.fs_device.specs.Laws.{OffersChain, joined_request}
use Rattle.fs_device.specs.Marks.{SameButMarks}
use Rattle.law_callers.specs.Worked.{first_load, forget_exchange, forget_kick, forget_turn, forgotten, machine}
use Rattle.law_callers.specs.Worked.{read_and_harvest, replied, second_step, three_descriptors, two_descriptors, unknown_effects}
use Rattle.law_callers.specs.Worked.{unknown_kick, unknown_loads, unknown_offer, unknown_turn, unmarked_bytes}
use Rattle.law_callers.specs.Worked.{with_forget, with_three, written}

pub forget_step : {F : Type 0} (may : May F) (before after : F) → may before (Forget nobody 5 3) Done after
    → Step may (machine with_forget before) 0 forget_turn.calls (Exchanged forget_exchange true) (forgotten before after)
unfolding offer place addresses stored_all path found meaning record_parser meant row
forget_step may before after so = record {
  given = record { calls = Forget nobody 5 3 ∷ []; options = 0; reply = []; fault = None };
  serves = record { gives = refl; asks = refl; run = (after, refl, so, refl) };
  returns = record { exchange = refl; state = refl; reported = refl };
}

pub forget_performed : {F : Type 0} (may : May F) (before after : F) → may before (Forget nobody 5 3) Done after
    → Performs may (machine with_forget before) forget_kick.0 (forget_turn ∷ []) forget_kick.1 (forgotten before after)
unfolding KickRun
forget_performed may before after so = ((forgotten before after, forget_step may before after so, refl), refl)

pub unknown_step : {F : Type 0} (may : May F) (files : F)
    → Step may (machine with_one_request files) 0 [] (Exchanged unknown_exchange true) (replied files)
unfolding offer place addresses stored_all path found meaning record_parser meant error_bytes fields.field_bytes
unknown_step may files = record {
  given = record { calls = []; options = 0; reply = unknown_reply; fault = None };
  serves = record { gives = refl; asks = refl; run = refl };
  returns = record { exchange = refl; state = refl; reported = refl };
}

pub unknown_performed : {F : Type 0} (may : May F) (files : F)
    → Performs may (machine with_one_request files) unknown_kick.0 (unknown_turn ∷ []) unknown_kick.1 (replied files)
unfolding KickRun
unknown_performed may files = ((replied files, unknown_step may files, refl), refl)

-- the same step by its loads, whatever the memory holds by then
pub unknown_offered : {F : Type 0} (files : F)
    → offered_by (machine with_one_request files).memory 0x101000 queue unknown_loads ≡ Some unknown_offer
unfolding place addresses stored_all found_exactly
unknown_offered files = refl

pub unknown_by_loads : {F : Type 0} (may : May F) (files : F)
    → StepBy may (machine with_one_request files) 0 unknown_loads [] (Exchanged unknown_exchange true) unknown_effects
    (record (machine with_one_request files) { queues = advanced queue ∷ [] })
unfolding place addresses stored_all found_exactly meaning record_parser meant error_bytes fields.field_bytes
unknown_by_loads may files = (
  unknown_offer,
  unknown_offered files,
  record {
    given = record { calls = []; options = 0; reply = unknown_reply; fault = None };
    serves = record { gives = refl; asks = refl; run = refl };
    returns = record { exchange = refl; flags = le16 0; flags_len = refl; acts = refl; state = refl; reported = refl };
  },
)

-- a chain of two descriptors, and one of three
pub offers_two : OffersChain with_one_request 0x101000 queue two_descriptors request (addresses 0x2000 16)
unfolding offer place addresses stored_all path found
offers_two = record { head = 0; walked = refl; offered = refl }

pub offers_three : OffersChain with_three 0x101000 queue three_descriptors request (addresses 0x2800 16)
unfolding offer place addresses stored_all path found
offers_three = record { head = 0; walked = refl; offered = refl }

pub joined_two : joined_request with_one_request two_descriptors ≡ request
unfolding place addresses stored_all
joined_two = refl

pub joined_three : joined_request with_three three_descriptors ≡ request
unfolding place addresses stored_all
joined_three = refl

-- the guest's read and the harvest
pub reads_and_harvests : {F : Type 0} (may : May F) (files : F)
    → RunReported may (machine written files) read_and_harvest ([] ∷ [] ∷ []) (machine unmarked_bytes files)
unfolding RunReported effect place addresses stored_all
reads_and_harvests may files = (machine written files, refl, (machine unmarked_bytes files, refl, refl))

pub same_but_marks : {F : Type 0} (files : F) → SameButMarks (machine written files) (machine unmarked_bytes files)
unfolding place addresses stored_all
same_but_marks files = refl

-- the loads of the chain's entries
pub entries_are : AreEntriesOf with_one_request unknown_loads.entries
unfolding place addresses stored_all
entries_are = (refl, (refl, tt))

pub entries_in_turn : AreEntriesInTurn (with_one_request ∷ with_one_request ∷ []) unknown_loads.entries
unfolding place addresses stored_all
entries_in_turn = (refl, (refl, tt))

pub chain_is_found_exactly : chain_exactly unknown_loads.entries queue 0 ≡ Some (IsChain two_descriptors)
unfolding found_exactly place addresses
chain_is_found_exactly = refl

pub chain_is_two : chain with_one_request queue 0 ≡ IsChain two_descriptors
unfolding place addresses stored_all path found
chain_is_two = refl

pub walk_ends : walk with_one_request queue 0 ≡ (first_visit queue 0 ∷ []) ++ second_step ∷ []
unfolding place addresses stored_all path found
walk_ends = refl

pub first_is_path : IsPath with_one_request queue 0 (first_visit queue 0 ∷ [])
unfolding EachFollows
first_is_path = (refl, tt)

pub first_is_entry : AreEntriesOf with_one_request (first_load ∷ [])
unfolding place addresses stored_all
first_is_entry = (refl, tt)

pub first_leads : ahead_by 4 (first_load ∷ []) (ahead_at 4 (first_visit queue 0)) ≡ Some (Reads second_step)
unfolding ahead_by place addresses
first_leads = refl

pub fetches_two : request_and_room with_one_request 0x101000 two_descriptors ≡ IsRequest request (addresses 0x2000 16)
unfolding place addresses stored_all
fetches_two = refl

pub fetches_three : request_and_room with_three 0x101000 three_descriptors ≡ IsRequest request (addresses 0x2800 16)
unfolding place addresses stored_all
fetches_three = refl

pub index_is : IsLoadOf with_one_request 2 (index_load queue unknown_loads.index)
unfolding place addresses stored_all
index_is = refl

pub entry_is : IsLoadOf with_one_request 2 (entry_load queue unknown_loads.entry)
unfolding place addresses stored_all
entry_is = refl

-- of these memories, which differ in bytes, the same addresses are mapped
pub reach_alike : SameReach with_one_request blank queue unknown_loads.entries
unfolding stored_all addresses place
reach_alike = record { element = refl; index = refl; flags = refl; chain = λ head ds is. (refl, refl) }
