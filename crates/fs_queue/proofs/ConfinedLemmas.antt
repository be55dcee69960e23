-- what an offer by loads depends on besides them
use Rattle.std.proofs.Common.{◌≡◌, ℕ, ◌+◌, Bool, true, false, ◌&&◌, not, List, [], ◌∷◌, length, Option, Some, None, refl, ap, sym, ◌∙◌}
use Rattle.std.specs.Prelude.{if◌then◌else◌, ◌==◌, option_map, option_and_then, ◌||◌, nat_lt, flat_map}
use Rattle.std.proofs.lemmas.List.{length-append}
use Rattle.vm_iotlb.specs.declared.permissions.Permissions.TheVariants.{Read, Write}
use Rattle.vm_memory.specs.Memory.{Memory, bytes, addresses, reach}
use Rattle.fs_queue.specs.declared.fault.QueueError.TheVariants as stop
use Rattle.fs_queue.specs.declared.fault.ChainFault.TheVariants.{OverLimit, RequestUnreachable, RoomUnreachable}
use Rattle.fs_queue.specs.Queue.{Queue, element_at, index_at}
use Rattle.fs_queue.specs.NextAvail.{NextAvail}
use Rattle.fs_queue.specs.NextAvail as avail
use Rattle.fs_queue.specs.Chain.{Descriptor, Found, IsChain}
use Rattle.fs_queue.specs.Taking.{IsRequest, CannotFetch, readable, writable, total_len, all_reach, Offer, Refuses, Offers, offer_of}
use Rattle.fs_queue.specs.Loads.{Load, chain_exactly}
use Rattle.fs_queue.specs.OfferLoads.{without_chain, without_loads, available_by, with_request, with_loaded, on_waits, SameReachOfChain}
use Rattle.fs_queue.specs.OfferLoads.{SameReach, OnlyPlacesCount, OffersAreConfined}
use Rattle.fs_queue.proofs.ReadLemmas.{length-bytes}
use Rattle.fs_queue.proofs.OfferByLemmas.{offer_is_still}

-- as many bytes are read in each memory
same_lengths : (m n : Memory) (ds : List Descriptor) →
    length (flat_map (λ d. bytes m d.addr d.len) ds) ≡ length (flat_map (λ d. bytes n d.addr d.len) ds)
same_lengths m n [] = refl
same_lengths m n (d ∷ ds) =
    length-append (bytes m d.addr d.len) (flat_map (λ d. bytes m d.addr d.len) ds)
    ∙ ap (λ k. k + length (flat_map (λ d. bytes m d.addr d.len) ds)) (length-bytes m d.addr d.len ∙ sym (length-bytes n d.addr d.len))
    ∙ ap (λ k. length (bytes n d.addr d.len) + k) (same_lengths m n ds)
    ∙ sym (length-append (bytes n d.addr d.len) (flat_map (λ d. bytes n d.addr d.len) ds))

-- of the request that a memory has only the length counts
fetched_alike : (bs r s room : List ℕ) (over a b : Bool) → length r ≡ length s →
    with_request bs (if over then CannotFetch OverLimit else if not a then CannotFetch RequestUnreachable
    else if not b then CannotFetch RoomUnreachable else IsRequest r room)
    ≡ with_request bs (if over then CannotFetch OverLimit else if not a then CannotFetch RequestUnreachable
    else if not b then CannotFetch RoomUnreachable else IsRequest s room)
fetched_alike bs r s room false true true same = ap (λ k. if length bs == k then Some (IsRequest bs room) else None) same
fetched_alike bs r s room _ _ _ same = refl

chain_alike : (m n : Memory) (limit head : ℕ) (bs : List ℕ) (ds : List Descriptor) → SameReachOfChain m n ds →
    with_loaded bs (offer_of m limit head (IsChain ds)) ≡ with_loaded bs (offer_of n limit head (IsChain ds))
chain_alike m n limit head bs ds (reads, writes) =
    let over = nat_lt limit (total_len (readable ds)) || nat_lt limit (total_len (writable ds)) in
    let room = flat_map (λ d. addresses d.addr d.len) (writable ds) in
    let r = flat_map (λ d. bytes m d.addr d.len) (readable ds) in
    let s = flat_map (λ d. bytes n d.addr d.len) (readable ds) in
    ap (option_map (Offers head))
    (fetched_alike bs r s room over (all_reach m Read (readable ds)) (all_reach m Write (writable ds)) (same_lengths m n (readable ds))
    ∙ ap (λ c. with_request bs (if over then CannotFetch OverLimit else if not c then CannotFetch RequestUnreachable
    else if not (all_reach m Write (writable ds)) then CannotFetch RoomUnreachable else IsRequest s room)) reads
    ∙ ap (λ c. with_request bs (if over then CannotFetch OverLimit
    else if not (all_reach n Read (readable ds)) then CannotFetch RequestUnreachable
    else if not c then CannotFetch RoomUnreachable else IsRequest s room)) writes)

found_alike : (m n : Memory) (limit head : ℕ) (bs : List ℕ) (o : Option Found) →
    ((ds : List Descriptor) → o ≡ Some (IsChain ds) → SameReachOfChain m n ds) →
    option_and_then (λ f. with_loaded bs (offer_of m limit head f)) o ≡ option_and_then (λ f. with_loaded bs (offer_of n limit head f)) o
found_alike m n limit head bs (Some (IsChain ds)) same = chain_alike m n limit head bs ds (same ds refl)
found_alike m n limit head bs _ same = refl

waits_alike : (m n : Memory) (limit : ℕ) (q : Queue) (ls : List Load) (bs : List ℕ) (w : NextAvail) → SameReach m n q ls →
    on_waits m limit q ls bs w ≡ on_waits n limit q ls bs w
waits_alike m n limit q ls bs (avail.Head head) same =
    let by : Bool → Bool → Bool → Option Offer → Option Offer =
    λ a b c o. if not (a && b) then without_chain ls bs (Refuses stop.UsedUnreachable)
    else if not c then without_chain ls bs (Refuses stop.AvailFlagsUnreachable) else o in
    let at_m = option_and_then (λ f. with_loaded bs (offer_of m limit head f)) (chain_exactly ls q head) in
    ap (λ a. by a (reach m Write (index_at q) 2) (reach m Read q.avail 2) at_m) same.element
    ∙ ap (λ b. by (reach n Write (element_at q) 8) b (reach m Read q.avail 2) at_m) same.index
    ∙ ap (λ c. by (reach n Write (element_at q) 8) (reach n Write (index_at q) 2) c at_m) same.flags
    ∙ ap (by (reach n Write (element_at q) 8) (reach n Write (index_at q) 2) (reach n Read q.avail 2))
    (found_alike m n limit head bs (chain_exactly ls q head) (same.chain head))
waits_alike m n limit q ls bs _ same = refl

each_alike :
    (g h : NextAvail → Option Offer) (o : Option NextAvail) → ((w : NextAvail) → g w ≡ h w) → option_and_then g o ≡ option_and_then h o
each_alike g h None same = refl
each_alike g h (Some w) same = same w

pub only_places_count : OnlyPlacesCount
only_places_count m n limit q index entry ls request same =
    ap (λ (o : Option Offer). if q.stopped then without_loads index entry ls request (Refuses stop.Stopped) else o)
    (each_alike (on_waits m limit q ls request) (on_waits n limit q ls request) (available_by q index entry)
    (λ w. waits_alike m n limit q ls request w same))

pub offers_are_confined : OffersAreConfined
offers_are_confined m n limit q index entry ls request o same here there e =
    sym (offer_is_still m limit q index entry ls request o here e)
    ∙ offer_is_still n limit q index entry ls request o there (sym (only_places_count m n limit q index entry ls request same) ∙ e)
