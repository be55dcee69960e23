-- what is fetched of a chain
use Rattle.std.proofs.Common.{◌≡◌, ℕ, Bool, true, false, ◌+◌, List, [], ◌∷◌, Option, Some, None, refl, ap, sym, ◌∙◌, length-append}
use Rattle.std.specs.Prelude.{if◌then◌else◌, length, option_map, ◌||◌, not, nat_lt, flat_map}
use Rattle.std.proofs.lemmas.Bool.{eq-eqb}
use Rattle.std.proofs.lemmas.List.Sums.{sum_by-cons}
use Rattle.vm_iotlb.specs.declared.permissions.Permissions.TheVariants.{Read, Write}
use Rattle.vm_memory.specs.Memory.{Memory, addresses, bytes}
use Rattle.fs_queue.specs.declared.fault.ChainFault.{ChainFault}
use Rattle.fs_queue.specs.declared.fault.ChainFault.TheVariants.{OverLimit, RequestUnreachable, RoomUnreachable}
use Rattle.fs_queue.specs.Queue.{Queue}
use Rattle.fs_queue.specs.Chain.{Descriptor, IsChain, HasFault}
use Rattle.fs_queue.specs.OfferLoads.{with_request}
use Rattle.fs_queue.specs.Taking.{readable, writable, total_len, all_reach, RequestAndRoom, IsRequest, CannotFetch, Offers, chain_fault}
use Rattle.fs_queue.proofs.ReadLemmas.{length-bytes}
use Rattle.fs_regions.specs.Walks.{Loaded, HeadMayBePushed, FindsBy, FetchesBy}
use Rattle.fs_regions.proofs.Offering.{on_found}

length-request : (m : Memory) (ds : List Descriptor) → length (flat_map (λ d. bytes m d.addr d.len) ds) ≡ total_len ds
length-request m [] = refl
length-request m (d ∷ ds) =
    length-append (bytes m d.addr d.len) (flat_map (λ x. bytes m x.addr x.len) ds)
    ∙ ap (λ n. n + length (flat_map (λ x. bytes m x.addr x.len) ds)) (length-bytes m d.addr d.len)
    ∙ ap (λ n. d.len + n) (length-request m ds) ∙ sym (sum_by-cons (λ x. x.len) d ds)

-- by the tests of what can be fetched
abbrev fetched_by : (over lost_request lost_room : Bool) → (request room : List ℕ) → RequestAndRoom
fetched_by over lost_request lost_room request room =
    if over then CannotFetch OverLimit else if lost_request then CannotFetch RequestUnreachable
    else if lost_room then CannotFetch RoomUnreachable else IsRequest request room

abbrev why_by : (over lost_request lost_room : Bool) → Option ChainFault
why_by over lost_request lost_room =
    if over then Some OverLimit else if lost_request then Some RequestUnreachable else if lost_room then Some RoomUnreachable else None

faulty : (head : ℕ) (fault : ChainFault) (over lost_request lost_room : Bool) (request room : List ℕ) →
    why_by over lost_request lost_room ≡ Some fault →
    option_map (Offers head) (with_request [] (fetched_by over lost_request lost_room request room))
    ≡ Some (Offers head (CannotFetch fault))
faulty head fault true b c request room e =
    let same : OverLimit ≡ fault = cc in ap (λ (x : ChainFault). Some (Offers head (CannotFetch x))) same
faulty head fault false true c request room e =
    let same : RequestUnreachable ≡ fault = cc in ap (λ (x : ChainFault). Some (Offers head (CannotFetch x))) same
faulty head fault false false true request room e =
    let same : RoomUnreachable ≡ fault = cc in ap (λ (x : ChainFault). Some (Offers head (CannotFetch x))) same
faulty head fault false false false request room e = absurd (cc)

whole : (head : ℕ) (over lost_request lost_room : Bool) (loaded request room : List ℕ) → why_by over lost_request lost_room ≡ None →
    length loaded ≡ length request →
    option_map (Offers head) (with_request loaded (fetched_by over lost_request lost_room request room))
    ≡ Some (Offers head (IsRequest loaded room))
whole head false false false loaded request room e long = rw (eq-eqb (length loaded) (length request) long) refl
whole head over lost_request lost_room loaded request room e long = absurd (cc)

-- what is fetched of a chain that was found
pub fetches : (m : Memory) (limit : ℕ) (q : Queue) (loaded : Loaded) (ds : List Descriptor) (head : ℕ) (o : Option ChainFault) →
    q.stopped ≡ false → o ≡ chain_fault m limit ds → HeadMayBePushed m q loaded head →
    FindsBy m q loaded head (IsChain ds) → FetchesBy m limit q loaded ds head o
fetches m limit q loaded ds head (Some fault) runs why waits finds =
    on_found m limit q loaded head (IsChain ds) [] (Offers head (CannotFetch fault)) runs waits
    (faulty head fault (nat_lt limit (total_len (readable ds)) || nat_lt limit (total_len (writable ds)))
    (not (all_reach m Read (readable ds))) (not (all_reach m Write (writable ds)))
    (flat_map (λ d. bytes m d.addr d.len) (readable ds)) (flat_map (λ d. addresses d.addr d.len) (writable ds)) (sym why)) finds
fetches m limit q loaded ds head None runs why waits finds = (
  finds,
  λ request long.
      on_found m limit q loaded head (IsChain ds) request
      (Offers head (IsRequest request (flat_map (λ d. addresses d.addr d.len) (writable ds)))) runs waits
      (whole head (nat_lt limit (total_len (readable ds)) || nat_lt limit (total_len (writable ds))) (not (all_reach m Read (readable ds)))
      (not (all_reach m Write (writable ds)))
      request (flat_map (λ d. bytes m d.addr d.len) (readable ds)) (flat_map (λ d. addresses d.addr d.len) (writable ds)) (sym why)
      (long ∙ sym (length-request m (readable ds)))) finds,
)

-- a fault that the walk found
pub fetches_fault : (m : Memory) (limit : ℕ) (q : Queue) (loaded : Loaded) (ds : List Descriptor) (head : ℕ) (fault : ChainFault) →
    q.stopped ≡ false → HeadMayBePushed m q loaded head →
    FindsBy m q loaded head (HasFault fault) → FetchesBy m limit q loaded ds head (Some fault)
fetches_fault m limit q loaded ds head fault runs waits finds =
    on_found m limit q loaded head (HasFault fault) [] (Offers head (CannotFetch fault)) runs waits refl finds
