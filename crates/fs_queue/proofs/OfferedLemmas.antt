-- the request and the room of a chain that is offered
use Rattle.std.proofs.Common.{◌≡◌, ℕ, Bool, true, false, ◌&&◌, not, List, ap, sym, ◌∙◌}
use Rattle.std.specs.Prelude.{if◌then◌else◌}
use Rattle.vm_iotlb.specs.declared.permissions.Permissions.TheVariants.{Read, Write}
use Rattle.vm_memory.specs.Memory.{Memory, reach}
use Rattle.fs_queue.specs.declared.fault.QueueError.{QueueError}
use Rattle.fs_queue.specs.declared.fault.QueueError.TheVariants as stop
use Rattle.fs_queue.specs.Queue.{Queue, element_at, index_at}
use Rattle.fs_queue.specs.Chain.{Descriptor, Found, IsChain, HasFault, StopsQueue, chain}
use Rattle.fs_queue.specs.NextAvail.{NextAvail, next_avail}
use Rattle.fs_queue.specs.NextAvail as avail
use Rattle.fs_queue.specs.Taking.{RequestAndRoom, IsRequest, request_and_room, Offer, Refuses, Offers, offer_of, on_head, on_next_avail}
use Rattle.fs_queue.specs.Taking.{offer}

past_refusal : (b : Bool) (e : QueueError) (rest : Offer) (head : ℕ) (fetched : RequestAndRoom) →
    (if b then Refuses e else rest) ≡ Offers head fetched → rest ≡ Offers head fetched
past_refusal true e rest head fetched is = absurd (cc)
past_refusal false e rest head fetched is = is

offered_head : (m : Memory) (limit : ℕ) (q : Queue) (h head : ℕ) (fetched : RequestAndRoom) → on_head m limit q h ≡ Offers head fetched →
    offer_of m limit h (chain m q h) ≡ Offers head fetched
offered_head m limit q h head fetched is =
    past_refusal (not (reach m Read q.avail 2)) stop.AvailFlagsUnreachable _ head fetched
    (past_refusal (not (reach m Write (element_at q) 8 && reach m Write (index_at q) 2)) stop.UsedUnreachable _ head fetched is)

same_chain : (es ds : List Descriptor) → IsChain es ≡ IsChain ds → es ≡ ds
same_chain es ds e = cc

offered_found : (m : Memory) (limit : ℕ) (f : Found) (h head : ℕ) (request room : List ℕ) (ds : List Descriptor) →
    offer_of m limit h f ≡ Offers head (IsRequest request room) →
    (h ≡ head) × (f ≡ IsChain ds → request_and_room m limit ds ≡ IsRequest request room)
offered_found m limit (IsChain es) h head request room ds is =
    let fetched : request_and_room m limit es ≡ IsRequest request room = cc in
    (cc, λ same. ap (request_and_room m limit) (sym (same_chain es ds same)) ∙ fetched)
offered_found m limit (HasFault fault) h head request room ds is = absurd (cc)
offered_found m limit StopsQueue h head request room ds is = absurd (cc)

offered_next_avail : (m : Memory) (limit : ℕ) (q : Queue) (l : NextAvail) (head : ℕ) (request room : List ℕ) (ds : List Descriptor) →
    on_next_avail m limit q l ≡ Offers head (IsRequest request room) →
    chain m q head ≡ IsChain ds → request_and_room m limit ds ≡ IsRequest request room
offered_next_avail m limit q avail.Idle head request room ds is walked = absurd (cc)
offered_next_avail m limit q (avail.Refused e) head request room ds is walked = absurd (cc)
offered_next_avail m limit q (avail.Head h) head request room ds is walked =
    let found = offered_found m limit (chain m q h) h head request room ds (offered_head m limit q h head (IsRequest request room) is) in
    found.1 (ap (chain m q) found.0 ∙ walked)

-- a chain that is offered has the request and the room of its descriptors
pub offered_fetches :
    (m : Memory) (limit : ℕ) (q : Queue) (head : ℕ) (ds : List Descriptor) (request room : List ℕ) → chain m q head ≡ IsChain ds →
    offer m limit q ≡ Offers head (IsRequest request room) → request_and_room m limit ds ≡ IsRequest request room
unfolding offer
offered_fetches m limit q head ds request room walked is =
    offered_next_avail m limit q (next_avail m q) head request room ds
    (past_refusal q.stopped stop.Stopped _ head (IsRequest request room) is) walked
