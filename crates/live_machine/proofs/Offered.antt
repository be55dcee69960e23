-- A chain that is offered has places: for what its return stores and reads, and for its room.
use Rattle.std.proofs.Common.{◌≡◌, ℕ, Bool, List, [], ◌∷◌, ◌++◌, length, Option, Some, None, refl, subst, true, false, ◌+◌, ◌^◌}
use Rattle.std.proofs.Common.{if◌then◌else◌, ◌&&◌, ◌||◌, ◌==◌, not, nat_lt, is_some, option_map, option_and_then, flat_map, replicate}
use Rattle.std.specs.List.{list_all}
use Rattle.std.proofs.lemmas.List.{length-replicate}
use Rattle.vm_iotlb.specs.declared.permissions.Permissions.TheVariants.{Read, Write}
use Rattle.vm_memory.specs.Memory.{Memory, addresses, bytes, location, reach}
use Rattle.fs_queue.specs.declared.fault.ChainFault.{ChainFault}
use Rattle.fs_queue.specs.declared.fault.ChainFault.TheVariants.{OverLimit, RequestUnreachable, RoomUnreachable}
use Rattle.fs_queue.specs.declared.fault.QueueError.TheVariants as stop
use Rattle.fs_queue.specs.Queue.{Queue, element_at, index_at}
use Rattle.fs_queue.specs.NextAvail as avail
use Rattle.fs_queue.specs.NextAvail.{NextAvail}
use Rattle.fs_queue.specs.Chain.{Descriptor, Found, IsChain, HasFault, StopsQueue}
use Rattle.fs_queue.specs.Loads.{Load, chain_exactly}
use Rattle.fs_queue.specs.OfferLoads.{without_request, without_chain, without_loads, available_by, with_request, with_loaded, on_waits}
use Rattle.fs_queue.specs.Taking.{readable, writable, total_len, all_reach, addresses_of, return_fault, IsRequest, CannotFetch, Offer}
use Rattle.fs_queue.specs.Taking.{Refuses, Offers, offer_of}
use Rattle.fs_queue.specs.Taking as taking
use Rattle.fs_regions.specs.Walks.{Loaded, FetchesBy, OffersBy}
use Rattle.live_machine.specs.Runs.{are_mapped}

-- ---- rooms

and_true : (a b : Bool) → (a && b) ≡ true → (a ≡ true) × (b ≡ true)
and_true true b is = (refl, is)
and_true false b is = absurd (cc)

and_both : (a b : Bool) → a ≡ true → b ≡ true → (a && b) ≡ true
and_both true b one two = two
and_both false b one two = absurd (cc)

all_append : (p : ℕ → Bool) (xs ys : List ℕ) → list_all p xs ≡ true → list_all p ys ≡ true → list_all p (xs ++ ys) ≡ true
all_append p [] ys one two = two
all_append p (x ∷ xs) ys one two =
    let parts = and_true (p x) (list_all p xs) one in and_both (p x) (list_all p (xs ++ ys)) parts.0 (all_append p xs ys parts.1 two)

room_has :
    (m : Memory) (ds : List Descriptor) → all_reach m Write ds ≡ true → are_mapped m (flat_map (λ d. addresses d.addr d.len) ds) ≡ true
room_has m [] is = refl
room_has m (d ∷ ds) is =
    let parts = and_true (reach m Write d.addr d.len) (all_reach m Write ds) is in
    all_append (λ a. is_some (location m Write a)) (addresses d.addr d.len) (flat_map (λ d. addresses d.addr d.len) ds)
    (and_true (nat_lt (d.addr + d.len) (2 ^ 64)) (list_all (λ a. is_some (location m Write a)) (addresses d.addr d.len)) parts.0).1
    (room_has m ds parts.1)

-- ---- offers

-- a chain that is offered can go back, and its room has places
abbrev Fits : Memory → Queue → Offer → Type 0
Fits m q (Offers head (IsRequest request room)) = (return_fault m q ≡ None) × (are_mapped m room ≡ true)
Fits m q (Offers head (CannotFetch why)) = return_fault m q ≡ None
Fits m q _ = Unit {0}

abbrev Shows : Memory → Queue → Option Offer → Type 0
Shows m q None = Unit {0}
Shows m q (Some o) = Fits m q o

on_request : (m : Memory) (q : Queue) (request : List ℕ) (o : Offer) → Fits m q o → Shows m q (without_request request o)
on_request m q [] o fits = fits
on_request m q (b ∷ bs) o fits = tt

on_chain : (m : Memory) (q : Queue) (ls : List Load) (request : List ℕ) (o : Offer) → Fits m q o → Shows m q (without_chain ls request o)
on_chain m q [] request o fits = on_request m q request o fits
on_chain m q (l ∷ ls) request o fits = tt

on_nothing : (m : Memory) (q : Queue) (index entry : Option (List ℕ)) (ls : List Load) (request : List ℕ) (o : Offer) → Fits m q o →
    Shows m q (without_loads index entry ls request o)
on_nothing m q None None ls request o fits = on_chain m q ls request o fits
on_nothing m q _ _ ls request o fits = tt

-- what is fetched, by its tests
module _ (m : Memory) (q : Queue) (proceeds : return_fault m q ≡ None) (head : ℕ) where
  fetched : (bs room : List ℕ) (same : Bool) → are_mapped m room ≡ true →
      Shows m q (option_map (Offers head) (if same then Some (IsRequest bs room) else None))
  fetched bs room true has = (proceeds, has)
  fetched bs room false has = tt

  no_fetch : (bs : List ℕ) (why : ChainFault) → Shows m q (option_map (Offers head) (without_request bs (CannotFetch why)))
  no_fetch [] why = proceeds
  no_fetch (b ∷ bs) why = tt

  fetched_tests : (bs request room : List ℕ) (over lost_request has_room : Bool) → (has_room ≡ true → are_mapped m room ≡ true) →
      Shows m q (option_map (Offers head)
      (with_request bs (if over then CannotFetch OverLimit else if lost_request then CannotFetch RequestUnreachable
      else if not has_room then CannotFetch RoomUnreachable else IsRequest request room)))
  fetched_tests bs request room true b c has = no_fetch bs OverLimit
  fetched_tests bs request room false true c has = no_fetch bs RequestUnreachable
  fetched_tests bs request room false false false has = no_fetch bs RoomUnreachable
  fetched_tests bs request room false false true has = fetched bs room (length bs == length request) (has refl)

  of_found : (limit : ℕ) (bs : List ℕ) (f : Found) → Shows m q (with_loaded bs (offer_of m limit head f))
  of_found limit bs (IsChain ds) =
      fetched_tests bs (flat_map (λ d. bytes m d.addr d.len) (readable ds)) (flat_map (λ d. addresses d.addr d.len) (writable ds))
      (nat_lt limit (total_len (readable ds)) || nat_lt limit (total_len (writable ds))) (not (all_reach m Read (readable ds)))
      (all_reach m Write (writable ds)) (room_has m (writable ds))
  of_found limit bs (HasFault fault) = no_fetch bs fault
  of_found limit bs StopsQueue = on_request m q bs (Refuses stop.DescriptorUnreachable) tt

  of_option : (limit : ℕ) (bs : List ℕ) (f : Option Found) → Shows m q (option_and_then (λ f. with_loaded bs (offer_of m limit head f)) f)
  of_option limit bs None = tt
  of_option limit bs (Some f) = of_found limit bs f

head_tests : (m : Memory) (q : Queue) (ls : List Load) (bs : List ℕ) (a b : Bool) (x : Option Offer) →
    ((if not a then Some stop.UsedUnreachable else if not b then Some stop.AvailFlagsUnreachable else None) ≡ None → Shows m q x) →
    Shows m q (if not a then without_chain ls bs (Refuses stop.UsedUnreachable)
    else if not b then without_chain ls bs (Refuses stop.AvailFlagsUnreachable) else x)
head_tests m q ls bs false b x shows = on_chain m q ls bs (Refuses stop.UsedUnreachable) tt
head_tests m q ls bs true false x shows = on_chain m q ls bs (Refuses stop.AvailFlagsUnreachable) tt
head_tests m q ls bs true true x shows = shows refl

of_next : (m : Memory) (limit : ℕ) (q : Queue) (ls : List Load) (bs : List ℕ) (w : NextAvail) → Shows m q (on_waits m limit q ls bs w)
of_next m limit q ls bs avail.Idle = on_chain m q ls bs taking.Idle tt
of_next m limit q ls bs (avail.Refused e) = on_chain m q ls bs (Refuses e) tt
of_next m limit q ls bs (avail.Head head) =
    head_tests m q ls bs (reach m Write (element_at q) 8 && reach m Write (index_at q) 2) (reach m Read q.avail 2)
    (option_and_then (λ f. with_loaded bs (offer_of m limit head f)) (chain_exactly ls q head))
    (λ proceeds. of_option m q proceeds head limit bs (chain_exactly ls q head))

of_waits : (m : Memory) (limit : ℕ) (q : Queue) (ls : List Load) (bs : List ℕ) (w : Option NextAvail) →
    Shows m q (option_and_then (on_waits m limit q ls bs) w)
of_waits m limit q ls bs None = tt
of_waits m limit q ls bs (Some w) = of_next m limit q ls bs w

by_stop : (m : Memory) (q : Queue) (stopped : Bool) (index entry : Option (List ℕ)) (ls : List Load) (bs : List ℕ) (x : Option Offer) →
    Shows m q x →
    Shows m q (if stopped then without_loads index entry ls bs (Refuses stop.Stopped) else x)
by_stop m q true index entry ls bs x shows = on_nothing m q index entry ls bs (Refuses stop.Stopped) tt
by_stop m q false index entry ls bs x shows = shows

fits :
    (m : Memory) (limit : ℕ) (q : Queue) (loaded : Loaded) (request : List ℕ) (o : Offer) → OffersBy m limit q loaded request o → Fits m q o
fits m limit q loaded request o by =
    let ls = loaded.entries ++ by.1 in
    subst (Shows m q) by.3
    (by_stop m q q.stopped loaded.index loaded.entry ls request
    (option_and_then (on_waits m limit q ls request) (available_by q loaded.index loaded.entry))
    (of_waits m limit q ls request (available_by q loaded.index loaded.entry)))

-- ---- chains that are fetched

abbrev pub RoomFits : Memory → List Descriptor → Option ChainFault → Type 0
RoomFits m ds None = are_mapped m (addresses_of (writable ds)) ≡ true
RoomFits m ds (Some why) = Unit {0}

pub fetched_fits : (m : Memory) (limit : ℕ) (q : Queue) (loaded : Loaded) (ds : List Descriptor) (head : ℕ) (fault : Option ChainFault) →
    FetchesBy m limit q loaded ds head fault →
    (return_fault m q ≡ None) × RoomFits m ds fault
fetched_fits m limit q loaded ds head (Some why) h = (fits m limit q loaded [] (Offers head (CannotFetch why)) h, tt)
fetched_fits m limit q loaded ds head None h =
    let n = total_len (readable ds) in
    fits m limit q loaded (replicate n 0) (Offers head (IsRequest (replicate n 0) (addresses_of (writable ds))))
    (h.1 (replicate n 0) (length-replicate n 0))

-- a chain that can go back
return_tests : (a b c : Bool) → (if not (a && b) then Some stop.UsedUnreachable else if not c then Some stop.AvailFlagsUnreachable
    else None) ≡ None → (a ≡ true) × (b ≡ true) × (c ≡ true)
return_tests true true true is = (refl, refl, refl)
return_tests a b c is = absurd (cc)

pub is_returned : (m : Memory) (q : Queue) → return_fault m q ≡ None →
    (reach m Write (element_at q) 8 ≡ true) × (reach m Write (index_at q) 2 ≡ true) × (reach m Read q.avail 2 ≡ true)
is_returned m q proceeds = return_tests (reach m Write (element_at q) 8) (reach m Write (index_at q) 2) (reach m Read q.avail 2) proceeds
