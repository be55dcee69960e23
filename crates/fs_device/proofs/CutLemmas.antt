-- the request and the room of a chain, by its joined bytes and its lengths
use Rattle.std.proofs.Common.{◌≡◌, ℕ, Bool, false, ◌||◌, not, nat_lt, List, length, ap, sym, ◌∙◌, subst, if◌then◌else◌}
use Rattle.vm_iotlb.specs.declared.permissions.Permissions.TheVariants.{Read, Write}
use Rattle.vm_memory.specs.Memory.{Memory}
use Rattle.fs_queue.specs.Chain.{Descriptor}
use Rattle.fs_queue.specs.declared.fault.ChainFault.{ChainFault}
use Rattle.fs_queue.specs.declared.fault.ChainFault.TheVariants.{OverLimit, RequestUnreachable, RoomUnreachable}
use Rattle.fs_queue.specs.Taking.{readable, writable, total_len, all_reach, IsRequest, CannotFetch, request_and_room, addresses_of}
use Rattle.fs_queue.proofs.TakeLemmas.{length-addresses_of}
use Rattle.fs_queue.proofs.OfferedLemmas.{offered_fetches}
use Rattle.server_meanings.specs.Serving.{May}
use Rattle.fs_device.specs.Laws.{joined_request, CutsDoNotMatter, OffersAreServedAlike}
use Rattle.plain_machine.specs.Step.{ServesRequest}

three : (a b c : Bool) (x y z : ChainFault) (request room bytes places : List ℕ) →
    (if a then CannotFetch x else if b then CannotFetch y else if c then CannotFetch z else IsRequest bytes places)
    ≡ IsRequest request room → (request ≡ bytes) × (room ≡ places)
three false false false x y z request room bytes places e = (cc, cc)
three _ _ _ x y z request room bytes places e = absurd (cc)

asks_joined :
    (m : Memory) (limit : ℕ) (ds : List Descriptor) (request room : List ℕ) → request_and_room m limit ds ≡ IsRequest request room →
    (request ≡ joined_request m ds) × (room ≡ addresses_of (writable ds))
asks_joined m limit ds request room e =
    three (nat_lt limit (total_len (readable ds)) || nat_lt limit (total_len (writable ds))) (not (all_reach m Read (readable ds)))
    (not (all_reach m Write (writable ds)))
    OverLimit RequestUnreachable RoomUnreachable request room (joined_request m ds) (addresses_of (writable ds)) e

-- the request of a chain that can be served is its joined bytes
request_joined : (m : Memory) (limit : ℕ) (ds : List Descriptor) (request room : List ℕ) →
    request_and_room m limit ds ≡ IsRequest request room → request ≡ joined_request m ds
request_joined m limit ds request room e = (asks_joined m limit ds request room e).0

-- and its room has as many places as the lengths come to
room_counted : (m : Memory) (limit : ℕ) (ds : List Descriptor) (request room : List ℕ) →
    request_and_room m limit ds ≡ IsRequest request room → length room ≡ total_len (writable ds)
room_counted m limit ds request room e = ap length (asks_joined m limit ds request room e).1 ∙ length-addresses_of (writable ds)

-- any two lists of descriptors
pub cuts : {F : Type 0} (may : May F) → CutsDoNotMatter may
cuts may m n limit other ds es request room request' room' asks asks' bytes lengths page_size options before after calls given =
    let same : request ≡ request' =
    request_joined m limit ds request room asks ∙ bytes ∙ sym (request_joined n other es request' room' asks') in
    let count : length room ≡ length room' =
    room_counted m limit ds request room asks ∙ lengths ∙ sym (room_counted n other es request' room' asks') in (
      λ serves.
          subst (λ (k : ℕ). ServesRequest may page_size options request' k before calls given after) count
          (subst (λ (bs : List ℕ). ServesRequest may page_size options bs (length room) before calls given after) same serves),
      λ serves.
          subst (λ (k : ℕ). ServesRequest may page_size options request k before calls given after) (sym count)
          (subst (λ (bs : List ℕ). ServesRequest may page_size options bs (length room') before calls given after) (sym same) serves),
    )

-- the chains that two queues offer
pub offers : {F : Type 0} (may : May F) → OffersAreServedAlike may
offers may m n limit other q p ds es request room request' room' one two =
    cuts may m n limit other ds es request room request' room' (offered_fetches m limit q one.head ds request room one.walked one.offered)
    (offered_fetches n other p two.head es request' room' two.walked two.offered)
