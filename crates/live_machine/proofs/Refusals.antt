-- What is refused by loads of a queue that isn't stopped stops it.
use Rattle.std.proofs.Common.{◌≡◌, ℕ, Bool, List, [], ◌∷◌, ◌++◌, Option, Some, None, refl, subst}
use Rattle.std.specs.Prelude.{true, false, if◌then◌else◌, option_map, option_and_then}
use Rattle.vm_memory.specs.Memory.{Memory}
use Rattle.fs_queue.specs.declared.fault.QueueError.{QueueError}
use Rattle.fs_queue.specs.declared.fault.QueueError.TheVariants as stop
use Rattle.fs_queue.specs.Queue.{Queue}
use Rattle.fs_queue.specs.NextAvail as avail
use Rattle.fs_queue.specs.NextAvail.{NextAvail, next_avail}
use Rattle.fs_queue.specs.Chain.{Found, IsChain, HasFault, StopsQueue}
use Rattle.fs_queue.specs.Loads.{Load, holding, index_load, entry_load, chain_exactly}
use Rattle.fs_queue.specs.OfferLoads.{without_request, without_chain, without_entry, available_by, with_request, with_loaded, on_waits}
use Rattle.fs_queue.specs.OfferLoads.{offer_by}
use Rattle.fs_queue.specs.Taking.{RequestAndRoom, CannotFetch, Offer, Refuses, Offers, offer_of, request_and_room, stops_queue}
use Rattle.fs_queue.specs.Taking as taking
use Rattle.fs_regions.specs.declared.course.Course.{Course}
use Rattle.fs_regions.specs.Walks.{Loaded, OffersBy, queue_of}

-- what is offered is no refusal, or one that stops the queue
abbrev MayStop : Option Offer → Type 0
MayStop (Some (Refuses e)) = stops_queue e ≡ true
MayStop _ = Unit {0}

refused_so : (x : Option Offer) (e : QueueError) → MayStop x → x ≡ Some (Refuses e) → stops_queue e ≡ true
refused_so x e may is = subst MayStop is may

on_request : (request : List ℕ) (o : Offer) → MayStop (Some o) → MayStop (without_request request o)
on_request [] o may = may
on_request (b ∷ bs) o may = tt

on_chain : (ls : List Load) (request : List ℕ) (o : Offer) → MayStop (Some o) → MayStop (without_chain ls request o)
on_chain [] request o may = on_request request o may
on_chain (l ∷ ls) request o may = tt

-- what the ring tells
abbrev NextStops : NextAvail → Type 0
NextStops (avail.Refused e) = stops_queue e ≡ true
NextStops _ = Unit {0}

abbrev NextMayStop : Option NextAvail → Type 0
NextMayStop (Some w) = NextStops w
NextMayStop None = Unit {0}

next_tests : (a b c d e : Bool) (head : ℕ) →
    NextStops (if a then avail.Refused stop.AvailIndexUnreachable else if b then avail.Idle else if c then avail.Refused stop.AvailTooFar
    else if d then avail.Refused stop.RingEntryUnreachable else if e then avail.Refused stop.HeadOutOfTable else avail.Head head)
next_tests false true c d e head = tt
next_tests false false false false false head = tt
next_tests a b c d e head = refl

next_stops : (m : Memory) (q : Queue) → NextStops (next_avail m q)
next_stops m q = next_tests _ _ _ _ _ _

entry_stops : (entry : Option (List ℕ)) (w : NextAvail) → NextStops w → NextMayStop (without_entry entry w)
entry_stops None w h = h
entry_stops (Some bs) w h = tt

waits_tests : (a b c : Bool) (entry : Option (List ℕ)) (v w : NextAvail) → NextStops v → NextStops w →
    NextMayStop (if a then None else if b then without_entry entry v else if c then None else Some w)
waits_tests false true c entry v w one two = entry_stops entry v one
waits_tests false false false entry v w one two = two
waits_tests _ _ _ entry v w one two = tt

waits_stop : (q : Queue) (index entry : Option (List ℕ)) → NextMayStop (available_by q index entry)
waits_stop q index entry =
    waits_tests _ _ _ entry (next_avail (holding (index_load q index ∷ [])) q)
    (next_avail (holding (index_load q index ∷ entry_load q entry ∷ [])) q)
    (next_stops (holding (index_load q index ∷ [])) q) (next_stops (holding (index_load q index ∷ entry_load q entry ∷ [])) q)

-- a chain that is offered is no refusal
offered : (head : ℕ) (fetched : Option RequestAndRoom) → MayStop (option_map (Offers head) fetched)
offered head None = tt
offered head (Some f) = tt

found_stops : (m : Memory) (limit head : ℕ) (bs : List ℕ) (f : Found) → MayStop (with_loaded bs (offer_of m limit head f))
found_stops m limit head bs (IsChain ds) = offered head (with_request bs (request_and_room m limit ds))
found_stops m limit head bs (HasFault fault) = offered head (with_request bs (CannotFetch fault))
found_stops m limit head bs StopsQueue = on_request bs (Refuses stop.DescriptorUnreachable) refl

maybe_found : (m : Memory) (limit head : ℕ) (bs : List ℕ) (f : Option Found) →
    MayStop (option_and_then (λ f. with_loaded bs (offer_of m limit head f)) f)
maybe_found m limit head bs None = tt
maybe_found m limit head bs (Some f) = found_stops m limit head bs f

head_tests : (ls : List Load) (bs : List ℕ) (a b : Bool) (x : Option Offer) → MayStop x →
    MayStop (if a then without_chain ls bs (Refuses stop.UsedUnreachable)
    else if b then without_chain ls bs (Refuses stop.AvailFlagsUnreachable) else x)
head_tests ls bs true b x may = on_chain ls bs (Refuses stop.UsedUnreachable) refl
head_tests ls bs false true x may = on_chain ls bs (Refuses stop.AvailFlagsUnreachable) refl
head_tests ls bs false false x may = may

of_next :
    (m : Memory) (limit : ℕ) (q : Queue) (ls : List Load) (bs : List ℕ) (w : NextAvail) → NextStops w → MayStop (on_waits m limit q ls bs w)
of_next m limit q ls bs avail.Idle h = on_chain ls bs taking.Idle tt
of_next m limit q ls bs (avail.Refused e) h = on_chain ls bs (Refuses e) h
of_next m limit q ls bs (avail.Head head) h = head_tests ls bs _ _ _ (maybe_found m limit head bs (chain_exactly ls q head))

of_waits : (m : Memory) (limit : ℕ) (q : Queue) (ls : List Load) (bs : List ℕ) (w : Option NextAvail) → NextMayStop w →
    MayStop (option_and_then (on_waits m limit q ls bs) w)
of_waits m limit q ls bs None h = tt
of_waits m limit q ls bs (Some w) h = of_next m limit q ls bs w h

pub refusal_stops : (m : Memory) (limit : ℕ) (c : Course) (loaded : Loaded) (e : QueueError) →
    OffersBy m limit (queue_of c) loaded [] (Refuses e) → stops_queue e ≡ true
refusal_stops m limit c loaded e by =
    let q = queue_of c in
    let ls = loaded.entries ++ by.1 in
    refused_so (offer_by m limit q loaded.index loaded.entry ls []) e
    (of_waits m limit q ls [] (available_by q loaded.index loaded.entry) (waits_stop q loaded.index loaded.entry)) by.3
