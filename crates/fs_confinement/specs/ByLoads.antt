-- The reads of an offer, compared with the loads that determine it: the read set is just the addresses
-- of the successful loads.
use Rattle.std.specs.Prelude.{◌≡◌, ℕ, List, [], ◌∷◌, ◌++◌, length, Option, Some, None, flat_map}
use Rattle.vm_memory.specs.Memory.{Memory, addresses}
use Rattle.fs_queue.specs.Queue.{Queue, avail_index_at, ring_entry_at}
use Rattle.fs_queue.specs.Chain.{Found}
use Rattle.fs_queue.specs.Taking.{Offer, Idle, Refuses, Offers}
use Rattle.fs_queue.specs.Loads.{Load, chain_exactly, AreEntriesOf}
use Rattle.fs_queue.specs.OfferLoads.{offer_by, AreLoadsOf}
use Rattle.fs_confinement.specs.ReadSet.{walk_reads, request_reads, offer_reads}

-- the addresses of a load; none if one of them isn't mapped
abbrev pub came_at : (address : ℕ) → Option (List ℕ) → List ℕ
came_at a None = []
came_at a (Some bs) = addresses a (length bs)

-- the addresses of some loads, one after another
abbrev pub all_came : List Load → List ℕ
all_came ls = flat_map (λ l. came_at l.address l.came) ls

-- the addresses of the request in the chain that was found
abbrev pub request_addresses : Option Found → List ℕ
request_addresses None = []
request_addresses (Some found) = request_reads found

-- the addresses of the loaded request bytes, in the chain of the offered head
abbrev pub request_came : Queue → List Load → (request : List ℕ) → Offer → List ℕ
request_came q ls [] offered = []
request_came q ls (b ∷ bs) (Offers head fetched) = request_addresses (chain_exactly ls q head)
request_came q ls (b ∷ bs) (Refuses e) = []
request_came q ls (b ∷ bs) Idle = []

-- theorem: a walk reads just the addresses of the loads by which it finds its chain
abbrev pub WalksReadTheirLoads : Type 0
WalksReadTheirLoads =
    (m : Memory) (q : Queue) (head : ℕ) (ls : List Load) (f : Found) →
    AreEntriesOf m ls →
    chain_exactly ls q head ≡ Some f →
    walk_reads m q head ≡ all_came ls

-- theorem: an offer reads just the addresses of its loads: the index, the ring's entry, the tables'
-- entries and the request
abbrev pub OffersReadTheirLoads : Type 0
OffersReadTheirLoads =
    (m : Memory) (limit : ℕ) (q : Queue) (index entry : Option (List ℕ)) (ls : List Load) (request : List ℕ)
    (o : Offer) →
    AreLoadsOf m q index entry ls request →
    offer_by m limit q index entry ls request ≡ Some o →
    offer_reads m limit q ≡ came_at (avail_index_at q) index ++ came_at (ring_entry_at q) entry ++ all_came ls
    ++ request_came q ls request o
