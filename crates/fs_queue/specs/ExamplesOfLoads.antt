-- Worked walks by loads that compute: a queue of four descriptors whose table begins at 0.
use Rattle.std.specs.Prelude.{◌≡◌, ◌+◌, ℕ, true, List, [], ◌∷◌, ◌++◌, length, map, Some, None, refl}
use Rattle.vm_memory.specs.Layout.{place}
use Rattle.vm_memory.specs.Memory.{Memory, memory_of, addresses}
use Rattle.fs_queue.specs.declared.fault.ChainFault.TheVariants.{NextOutOfTable, OverLimit}
use Rattle.fs_queue.specs.Queue.{Queue, fresh, with_stop}
use Rattle.fs_queue.specs.NextAvail.{Head, next_avail}
use Rattle.fs_queue.specs.NextAvail as avail
use Rattle.fs_queue.specs.declared.fault.QueueError.TheVariants.{AvailIndexUnreachable, Stopped}
use Rattle.fs_queue.specs.Taking.{Idle, Offers, Refuses, IsRequest, CannotFetch}
use Rattle.fs_queue.specs.OfferLoads.{offer_by}
use Rattle.fs_queue.specs.AnyLoads.{ahead_of_head, joined_by, loads_by, steps_by, visits_by}
use Rattle.fs_queue.specs.Chain.{Visit, first_visit, own_table, IsChain, HasFault, StopsQueue}
use Rattle.fs_queue.specs.Loads.{Load, Reads, Ends, AreEntriesInTurn, ahead_by, found_in_turn, holding}
use Rattle.fs_queue.specs.Loads.{chain_by, found_by, found_exactly, asks_entry, index_load, entry_load}

abbrev queue : Queue
queue = fresh 4 0 0x50 0x60

-- the sixteen bytes of an entry: the address 0x40 + low, the length 4, the flag NEXT or none, and next
abbrev entry : (low flags next : ℕ) → List ℕ
entry low flags next = (0x40 + low) ∷ 0 ∷ 0 ∷ 0 ∷ 0 ∷ 0 ∷ 0 ∷ 0 ∷ 4 ∷ 0 ∷ 0 ∷ 0 ∷ flags ∷ 0 ∷ next ∷ 0 ∷ []

abbrev loaded : (address : ℕ) → List ℕ → Load
loaded a bs = record { address = a; came = Some bs }

-- the walk visits entry 2 twice, and the guest wrote it between the two loads: no memory has this chain
rewritten_meanwhile : chain_by (loaded 0x20 (entry 0 1 2) ∷ loaded 0x20 (entry 8 0 0) ∷ []) queue 2
    ≡ Some (IsChain (record { addr = 0x40; len = 4; flags = 1; next = 2 }
    ∷ record { addr = 0x48; len = 4; flags = 0; next = 0 } ∷ []))
unfolding place addresses found_by
rewritten_meanwhile = refl

-- there is one load too few
one_too_few : chain_by (loaded 0x20 (entry 0 1 3) ∷ []) queue 2 ≡ None
unfolding place addresses found_by
one_too_few = refl

-- a load isn't of the entry that follows
another_entry : chain_by (loaded 0x20 (entry 0 1 3) ∷ loaded 0x10 (entry 8 0 0) ∷ []) queue 2 ≡ None
unfolding place addresses found_by
another_entry = refl

-- an entry past the table isn't loaded
past_the_table : chain_by (loaded 0x20 (entry 0 1 4) ∷ []) queue 2 ≡ Some (HasFault NextOutOfTable)
unfolding place addresses found_by
past_the_table = refl

-- an entry of the queue's own table that isn't mapped stops the queue
without_a_place : chain_by (record { address = 0x20; came = None } ∷ []) queue 2 ≡ Some StopsQueue
unfolding place addresses found_by
without_a_place = refl

-- the index asks for the entry; then the head is available
index_asks : asks_entry (next_avail (holding (index_load queue (Some (1 ∷ 0 ∷ [])) ∷ [])) queue) ≡ true
unfolding place addresses
index_asks = refl

entry_notifies : next_avail (holding (index_load queue (Some (1 ∷ 0 ∷ []))
    ∷ entry_load queue (Some (3 ∷ 0 ∷ []))
    ∷ [])) queue ≡ Head 3
unfolding place addresses
entry_notifies = refl

nothing_waits : next_avail (holding (index_load queue (Some (0 ∷ 0 ∷ [])) ∷ [])) queue ≡ avail.Idle
unfolding place addresses
nothing_waits = refl

-- the third load isn't asked for: the second wasn't mapped, which stops the queue
stops_early : loads_by 4 (Some (entry 0 1 3) ∷ None ∷ Some (entry 8 0 0) ∷ []) (ahead_of_head queue 2)
    ≡ loaded 0x20 (entry 0 1 3) ∷ record { address = 0x30; came = None } ∷ []
unfolding place addresses loads_by
stops_early = refl

-- a chain that never ends makes one load more than the queue's size; the last load is TooLong
proceeds_round : length (loads_by 1 (Some (entry 0 1 0) ∷ Some (entry 0 1 0) ∷ Some (entry 0 1 0) ∷ [])
    (ahead_of_head (fresh 1 0 0x50 0x60) 0)) ≡ 2
unfolding place addresses loads_by
proceeds_round = refl

-- the steps that read an entry
two_visits : map (λ (v : Visit). v.index) (visits_by 4
    (loaded 0x20 (entry 0 1 3) ∷ loaded 0x30 (entry 8 0 0) ∷ []) (ahead_of_head queue 2)) ≡ 2 ∷ 3 ∷ []
unfolding place addresses visits_by
two_visits = refl

-- a memory in which all of the queue's parts and its chains' bytes are mapped
abbrev everywhere : Memory
everywhere =
    memory_of (record { blocks = []; tables = []; io_marks = [] })
    (record { start = 0; size = 0x100; block = 0 } ∷ [])

-- the loads of a chain of one descriptor: entry 2, which has four bytes
abbrev one_entry : List Load
one_entry = loaded 0x20 (entry 0 0 0) ∷ []

-- a request of four bytes is offered as it was loaded
offered : offer_by everywhere 0x1000 queue (Some (1 ∷ 0 ∷ [])) (Some (2 ∷ 0 ∷ [])) one_entry
    (9 ∷ 8 ∷ 7 ∷ 6 ∷ []) ≡ Some (Offers 2 (IsRequest (9 ∷ 8 ∷ 7 ∷ 6 ∷ []) []))
unfolding place addresses found_exactly
offered = refl

-- four bytes are no load of an index
index_too_long : offer_by everywhere 0x1000 queue (Some (1 ∷ 0 ∷ 0 ∷ 0 ∷ [])) (Some (2 ∷ 0 ∷ [])) one_entry
    (9 ∷ 8 ∷ 7 ∷ 6 ∷ []) ≡ None
unfolding place addresses
index_too_long = refl

-- fewer than 16 bytes are no load of a table's entry
entry_too_short : offer_by everywhere 0x1000 queue (Some (1 ∷ 0 ∷ [])) (Some (2 ∷ 0 ∷ []))
    (loaded 0x20 (9 ∷ 8 ∷ 7 ∷ 6 ∷ []) ∷ []) (9 ∷ 8 ∷ 7 ∷ 6 ∷ []) ≡ None
unfolding place addresses found_exactly
entry_too_short = refl

-- the walk asks for no load after its end
one_too_many : offer_by everywhere 0x1000 queue (Some (1 ∷ 0 ∷ [])) (Some (2 ∷ 0 ∷ []))
    (one_entry ++ one_entry) (9 ∷ 8 ∷ 7 ∷ 6 ∷ []) ≡ None
unfolding place addresses found_exactly
one_too_many = refl

-- the walk doesn't ask for the ring's entry if no chain is available
unasked : offer_by everywhere 0x1000 queue (Some (0 ∷ 0 ∷ [])) (Some (2 ∷ 0 ∷ [])) [] [] ≡ None
unfolding place addresses
unasked = refl

idle : offer_by everywhere 0x1000 queue (Some (0 ∷ 0 ∷ [])) None [] [] ≡ Some Idle
unfolding place addresses
idle = refl

-- a request of more than the limit isn't loaded
over_limit : offer_by everywhere 3 queue (Some (1 ∷ 0 ∷ [])) (Some (2 ∷ 0 ∷ [])) one_entry []
    ≡ Some (Offers 2 (CannotFetch OverLimit))
unfolding place addresses found_exactly
over_limit = refl

-- a stopped queue makes no load
stopped : offer_by everywhere 0x1000 (with_stop queue) None None [] [] ≡ Some (Refuses Stopped)
stopped = refl

-- an index that isn't mapped is refused before all else
index_lost : offer_by everywhere 0x1000 queue None None [] [] ≡ Some (Refuses AvailIndexUnreachable)
unfolding place addresses
index_lost = refl

-- the steps of a walk: the last is past the table's end, so it makes no load
steps_past : map (λ (v : Visit). v.index) (steps_by 4
    (loaded 0x20 (entry 0 1 4) ∷ loaded 0x40 (entry 0 0 0) ∷ []) (first_visit queue 2)) ≡ 2 ∷ 4 ∷ []
unfolding place addresses steps_by
steps_past = refl

-- two loads of entry 2, between which the guest wrote it
abbrev first_came : Load
first_came = loaded 0x20 (entry 0 1 2)

abbrev then_came : Load
then_came = loaded 0x20 (entry 8 0 0)

-- each of the two loads read a memory of its own
one_memory_each :
    AreEntriesInTurn (holding (first_came ∷ []) ∷ holding (then_came ∷ []) ∷ []) (first_came ∷ then_came ∷ [])
unfolding place addresses
one_memory_each = (refl, (refl, tt))

-- a walk that reads one memory and then the other finds a chain that no single memory has
walked_in_turn :
    found_in_turn 4 (holding (first_came ∷ []) ∷ holding (then_came ∷ []) ∷ []) (ahead_of_head queue 2)
    ≡ Some (IsChain (record { addr = 0x40; len = 4; flags = 1; next = 2 }
    ∷ record { addr = 0x48; len = 4; flags = 0; next = 0 } ∷ []))
unfolding place addresses found_in_turn
walked_in_turn = refl

-- too few memories have no result
too_few_memories : found_in_turn 4 (holding (first_came ∷ []) ∷ []) (ahead_of_head queue 2) ≡ None
unfolding place addresses found_in_turn
too_few_memories = refl

-- a walk that is cut off after its first load is at entry 3
cut_off : ahead_by 4 (loaded 0x20 (entry 0 1 3) ∷ []) (ahead_of_head queue 2)
    ≡ Some (Reads (record { table = own_table queue; index = 3; earlier = 1 }))
unfolding place addresses ahead_by
cut_off = refl

-- a chain of one descriptor ends after one load
not_cut_off : ahead_by 4 one_entry (ahead_of_head queue 2) ≡ Some (Ends (IsChain []))
unfolding place addresses ahead_by
not_cut_off = refl

-- a load of an entry that the walk doesn't ask for has no result
cut_off_elsewhere :
    ahead_by 4 (loaded 0x20 (entry 0 1 3) ∷ loaded 0x10 (entry 0 1 0) ∷ []) (ahead_of_head queue 2) ≡ None
unfolding place addresses ahead_by
cut_off_elsewhere = refl

-- the descriptors that the loads add to the chain, in their order
two_joined :
    joined_by 4 (steps_by 4 (first_came ∷ then_came ∷ []) (first_visit queue 2)) (first_came ∷ then_came ∷ [])
    ≡ record { addr = 0x40; len = 4; flags = 1; next = 2 }
    ∷ record { addr = 0x48; len = 4; flags = 0; next = 0 } ∷ []
unfolding place addresses steps_by
two_joined = refl

-- a descriptor that refers to an indirect table doesn't join the chain
no_table_joined : joined_by 4 (steps_by 4 (loaded 0x20 (0x40 ∷ 0 ∷ 0 ∷ 0 ∷ 0 ∷ 0 ∷ 0 ∷ 0 ∷ 16 ∷ 0 ∷ 0 ∷ 0 ∷ 4
    ∷ 0 ∷ 0 ∷ 0 ∷ []) ∷ loaded 0x40 (entry 8 0 0) ∷ []) (first_visit queue 2))
    (loaded 0x20 (0x40 ∷ 0 ∷ 0 ∷ 0 ∷ 0 ∷ 0 ∷ 0 ∷ 0 ∷ 16 ∷ 0 ∷ 0 ∷ 0 ∷ 4 ∷ 0 ∷ 0 ∷ 0 ∷ [])
    ∷ loaded 0x40 (entry 8 0 0) ∷ [])
    ≡ record { addr = 0x48; len = 4; flags = 0; next = 0 } ∷ []
unfolding place addresses steps_by
no_table_joined = refl
