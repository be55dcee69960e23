-- What is offered by loads: a request and a room within the limit, and never a refusal for want of memory.
use Rattle.std.proofs.Common.{◌≡◌, ℕ, ◌≤◌, Bool, true, false, List, [], ◌∷◌, length, ◌+◌, Option, Some, None, refl, subst, sym}
use Rattle.std.proofs.Common.{if◌then◌else◌, ◌==◌, ◌||◌, not, nat_lt, option_map, option_and_then, flat_map, ap, ◌∙◌, length-append}
use Rattle.std.proofs.lemmas.Bool.{eqb-true, ltb-false}
use Rattle.vm_iotlb.specs.declared.permissions.Permissions.TheVariants.{Read, Write}
use Rattle.vm_memory.specs.Memory.{Memory, addresses, bytes}
use Rattle.fs_queue.specs.declared.fault.ChainFault.{ChainFault}
use Rattle.fs_queue.specs.declared.fault.ChainFault.TheVariants.{OverLimit, RequestUnreachable, RoomUnreachable}
use Rattle.fs_queue.specs.declared.fault.QueueError.TheVariants as stop
use Rattle.fs_queue.specs.Queue.{Queue}
use Rattle.fs_queue.specs.NextAvail as avail
use Rattle.fs_queue.specs.NextAvail.{NextAvail, next_avail}
use Rattle.fs_queue.specs.Chain.{Descriptor, Found, IsChain, HasFault, StopsQueue}
use Rattle.fs_queue.specs.Loads.{Load, holding, index_load, entry_load, chain_exactly}
use Rattle.fs_queue.specs.OfferLoads.{without_request, without_chain, without_loads, without_entry, available_by, with_request, with_loaded}
use Rattle.fs_queue.specs.OfferLoads.{on_waits, offer_by}
use Rattle.fs_queue.specs.Taking.{readable, writable, total_len, all_reach, IsRequest, CannotFetch, Offer, Refuses, Offers, offer_of}
use Rattle.fs_queue.specs.Taking as taking
use Rattle.fs_queue.proofs.TakeLemmas.{length-addresses_of}
use Rattle.std.proofs.lemmas.List.Sums.{sum_by-cons}
use Rattle.fs_queue.proofs.ReadLemmas.{length-bytes}

-- ---- an offer that is told is one of these

-- what an offer says
abbrev pub Shows : (P : Offer → Type 0) → Option Offer → Type 0
Shows P None = Unit {0}
Shows P (Some o) = P o

shows_is : (P : Offer → Type 0) (x : Option Offer) (o : Offer) → Shows P x → x ≡ Some o → P o
shows_is P None o shows is = absurd (cc)
shows_is P (Some p) o shows is = let same : p ≡ o = cc in subst P same shows

on_request : (P : Offer → Type 0) (request : List ℕ) (o : Offer) → P o → Shows P (without_request request o)
on_request P [] o p = p
on_request P (b ∷ bs) o p = tt

on_chain : (P : Offer → Type 0) (ls : List Load) (request : List ℕ) (o : Offer) → P o → Shows P (without_chain ls request o)
on_chain P [] request o p = on_request P request o p
on_chain P (l ∷ ls) request o p = tt

on_nothing : (P : Offer → Type 0) (index entry : Option (List ℕ)) (ls : List Load) (request : List ℕ) (o : Offer) → P o →
    Shows P (without_loads index entry ls request o)
on_nothing P None None ls request o p = on_chain P ls request o p
on_nothing P _ _ ls request o p = tt

-- ---- by what waits

-- what waits is said of the ring
abbrev ShowsNext : (P : NextAvail → Type 0) → Option NextAvail → Type 0
ShowsNext P None = Unit {0}
ShowsNext P (Some w) = P w

-- it is no refusal for want of memory
abbrev NoWant : NextAvail → Type 0
NoWant (avail.Refused e) = e ≡ stop.OutOfMemory → ⊥
NoWant _ = Unit {0}

next_tests : (a b c d e : Bool) (head : ℕ) →
    NoWant (if a then avail.Refused stop.AvailIndexUnreachable else if b then avail.Idle else if c then avail.Refused stop.AvailTooFar
    else if d then avail.Refused stop.RingEntryUnreachable else if e then avail.Refused stop.HeadOutOfTable else avail.Head head)
next_tests false true c d e head = tt
next_tests false false false false false head = tt
next_tests a b c d e head = λ is. cc

next_is : (m : Memory) (q : Queue) → NoWant (next_avail m q)
next_is m q = next_tests _ _ _ _ _ _

entry_not : (entry : Option (List ℕ)) (w : NextAvail) → NoWant w → ShowsNext NoWant (without_entry entry w)
entry_not None w h = h
entry_not (Some bs) w h = tt

waits_tests : (a b c : Bool) (entry : Option (List ℕ)) (v w : NextAvail) → NoWant v → NoWant w →
    ShowsNext NoWant (if a then None else if b then without_entry entry v else if c then None else Some w)
waits_tests false true c entry v w one two = entry_not entry v one
waits_tests false false false entry v w one two = two
waits_tests _ _ _ entry v w one two = tt

waits_is : (q : Queue) (index entry : Option (List ℕ)) → ShowsNext NoWant (available_by q index entry)
waits_is q index entry =
    waits_tests _ _ _ entry (next_avail (holding (index_load q index ∷ [])) q)
    (next_avail (holding (index_load q index ∷ entry_load q entry ∷ [])) q)
    (next_is (holding (index_load q index ∷ [])) q) (next_is (holding (index_load q index ∷ entry_load q entry ∷ [])) q)

-- ---- what an offer is

-- a request and its room are within the limit, and no refusal is for want of memory
abbrev pub IsWithin : (limit : ℕ) → Offer → Type 0
IsWithin limit taking.Idle = Unit {0}
IsWithin limit (Refuses e) = e ≡ stop.OutOfMemory → ⊥
IsWithin limit (Offers head (CannotFetch why)) = Unit {0}
IsWithin limit (Offers head (IsRequest request room)) = (length request ≤ limit) × (length room ≤ limit)

or_false : (x y : Bool) → (x || y) ≡ false → (x ≡ false) × (y ≡ false)
or_false false false is = (refl, refl)
or_false _ _ is = absurd (cc)

-- what is fetched, by its tests
fetched : (limit head : ℕ) (bs request room : List ℕ) (same : Bool) → (length bs == length request) ≡ same → length request ≤ limit →
    length room ≤ limit →
    Shows (IsWithin limit) (option_map (Offers head) (if same then Some (IsRequest bs room) else None))
fetched limit head bs request room true is few some =
    (subst (λ (n : ℕ). n ≤ limit) (sym (eqb-true (length bs) (length request) is)) few, some)
fetched limit head bs request room false is few some = tt

no_fetch : (limit head : ℕ) (bs : List ℕ) (why : ChainFault) →
    Shows (IsWithin limit) (option_map (Offers head) (without_request bs (CannotFetch why)))
no_fetch limit head [] why = tt
no_fetch limit head (b ∷ bs) why = tt

fetched_tests : (limit head : ℕ) (bs request room : List ℕ) (over lost_request lost_room : Bool) →
    (over ≡ false → (length request ≤ limit) × (length room ≤ limit)) →
    Shows (IsWithin limit)
    (option_map (Offers head) (with_request bs (if over then CannotFetch OverLimit else if lost_request then CannotFetch RequestUnreachable
    else if lost_room then CannotFetch RoomUnreachable else IsRequest request room)))
fetched_tests limit head bs request room true b c few = no_fetch limit head bs OverLimit
fetched_tests limit head bs request room false true c few = no_fetch limit head bs RequestUnreachable
fetched_tests limit head bs request room false false true few = no_fetch limit head bs RoomUnreachable
fetched_tests limit head bs request room false false false few =
    fetched limit head bs request room (length bs == length request) refl (few refl).0 (few refl).1

length-request : (m : Memory) (ds : List Descriptor) → length (flat_map (λ d. bytes m d.addr d.len) ds) ≡ total_len ds
length-request m [] = refl
length-request m (d ∷ ds) =
    length-append (bytes m d.addr d.len) (flat_map (λ x. bytes m x.addr x.len) ds)
    ∙ ap (λ n. n + length (flat_map (λ x. bytes m x.addr x.len) ds)) (length-bytes m d.addr d.len)
    ∙ ap (λ n. d.len + n) (length-request m ds) ∙ sym (sum_by-cons (λ x. x.len) d ds)

of_found : (m : Memory) (limit head : ℕ) (bs : List ℕ) (f : Found) → Shows (IsWithin limit) (with_loaded bs (offer_of m limit head f))
of_found m limit head bs (IsChain ds) =
    fetched_tests limit head bs (flat_map (λ d. bytes m d.addr d.len) (readable ds)) (flat_map (λ d. addresses d.addr d.len) (writable ds))
    (nat_lt limit (total_len (readable ds)) || nat_lt limit (total_len (writable ds))) (not (all_reach m Read (readable ds)))
    (not (all_reach m Write (writable ds)))
    (λ over. let parts = or_false (nat_lt limit (total_len (readable ds))) (nat_lt limit (total_len (writable ds))) over in (
      subst (λ (n : ℕ). n ≤ limit) (sym (length-request m (readable ds))) (ltb-false _ _ parts.0),
      subst (λ (n : ℕ). n ≤ limit) (sym (length-addresses_of (writable ds))) (ltb-false _ _ parts.1),
    ))
of_found m limit head bs (HasFault fault) = no_fetch limit head bs fault
of_found m limit head bs StopsQueue = on_request (IsWithin limit) bs (Refuses stop.DescriptorUnreachable) (λ is. cc)

of_option : (m : Memory) (limit head : ℕ) (bs : List ℕ) (f : Option Found) →
    Shows (IsWithin limit) (option_and_then (λ f. with_loaded bs (offer_of m limit head f)) f)
of_option m limit head bs None = tt
of_option m limit head bs (Some f) = of_found m limit head bs f

head_tests : (limit : ℕ) (ls : List Load) (bs : List ℕ) (a b : Bool) (x : Option Offer) → Shows (IsWithin limit) x →
    Shows (IsWithin limit) (if a then without_chain ls bs (Refuses stop.UsedUnreachable)
    else if b then without_chain ls bs (Refuses stop.AvailFlagsUnreachable) else x)
head_tests limit ls bs true b x shows = on_chain (IsWithin limit) ls bs (Refuses stop.UsedUnreachable) (λ is. cc)
head_tests limit ls bs false true x shows = on_chain (IsWithin limit) ls bs (Refuses stop.AvailFlagsUnreachable) (λ is. cc)
head_tests limit ls bs false false x shows = shows

of_next : (m : Memory) (limit : ℕ) (q : Queue) (ls : List Load) (bs : List ℕ) (w : NextAvail) → NoWant w →
    Shows (IsWithin limit) (on_waits m limit q ls bs w)
of_next m limit q ls bs avail.Idle h = on_chain (IsWithin limit) ls bs taking.Idle tt
of_next m limit q ls bs (avail.Refused e) h = on_chain (IsWithin limit) ls bs (Refuses e) h
of_next m limit q ls bs (avail.Head head) h = head_tests limit ls bs _ _ _ (of_option m limit head bs (chain_exactly ls q head))

of_waits : (m : Memory) (limit : ℕ) (q : Queue) (ls : List Load) (bs : List ℕ) (w : Option NextAvail) → ShowsNext NoWant w →
    Shows (IsWithin limit) (option_and_then (on_waits m limit q ls bs) w)
of_waits m limit q ls bs None h = tt
of_waits m limit q ls bs (Some w) h = of_next m limit q ls bs w h

by_stop : (m : Memory) (limit : ℕ) (stopped : Bool) (index entry : Option (List ℕ)) (ls : List Load) (bs : List ℕ) (x : Option Offer) →
    Shows (IsWithin limit) x →
    Shows (IsWithin limit) (if stopped then without_loads index entry ls bs (Refuses stop.Stopped) else x)
by_stop m limit true index entry ls bs x shows = on_nothing (IsWithin limit) index entry ls bs (Refuses stop.Stopped) (λ is. cc)
by_stop m limit false index entry ls bs x shows = shows

pub is_within : (m : Memory) (limit : ℕ) (q : Queue) (index entry : Option (List ℕ)) (ls : List Load) (request : List ℕ) (o : Offer) →
    offer_by m limit q index entry ls request ≡ Some o → IsWithin limit o
is_within m limit q index entry ls request o is =
    shows_is (IsWithin limit) (offer_by m limit q index entry ls request) o
    (by_stop m limit q.stopped index entry ls request (option_and_then (on_waits m limit q ls request) (available_by q index entry))
    (of_waits m limit q ls request (available_by q index entry) (waits_is q index entry))) is
