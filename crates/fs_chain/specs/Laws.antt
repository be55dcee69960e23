-- The result of a pop is the offer of each memory that has the bytes it loaded.
use Rattle.std.specs.Prelude.{◌≡◌, ℕ, List, length}
use Rattle.vm_memory_core.specs.Host.{Host}
use Rattle.fs_queue.specs.Chain.{Descriptor}
use Rattle.fs_queue.specs.Taking.{readable, writable, total_len, offer, Offer, Idle, Refuses, Offers}
use Rattle.fs_queue.specs.Taking.{CannotFetch, IsRequest, addresses_of}
use Rattle.fs_regions.specs.Laws.{HasLoaded}
use Rattle.fs_regions.specs.Places.{Mapped, memory_over, places_in}
use Rattle.fs_regions.specs.Walks.{Loaded}
use Rattle.fs_chain.specs.declared.queue.QueueState.{QueueState}
use Rattle.fs_chain.specs.declared.popping.PopOutcome as walked
use Rattle.fs_chain.specs.declared.popping.PopOutcome.TheVariants as reports
use Rattle.fs_chain.specs.declared.chain_handle.ChainHandle.{ChainHandle}
use Rattle.fs_chain.specs.Holds.{EndsBy, IsRunQueue, RunState, live_of}

-- the result of a pop, with these descriptors, is this offer. For a chain without a fault that holds if
-- `request` has the length of its request; a load or a miss decides nothing yet
abbrev pub IsOfferOf : List Descriptor → walked.PopOutcome → (request : List ℕ) → Offer → Type 0
IsOfferOf ds reports.Idle request o = o ≡ Idle
IsOfferOf ds (reports.Refused e) request o = o ≡ Refuses e
IsOfferOf ds (reports.Chain head request_len room_len) request o =
    length request ≡ total_len (readable ds) →
    o ≡ Offers head (IsRequest request (addresses_of (writable ds)))
IsOfferOf ds (reports.Faulty head fault) request o = o ≡ Offers head (CannotFetch fault)
IsOfferOf ds _ request o = Unit {0}

-- a pop that ended returned the queue's offer in each memory with these contents: the run's mappings, all
-- loads of the pop, and the request's bytes
abbrev pub WalksAreOffers : Type 0
WalksAreOffers =
    (s : RunState) (i : ℕ) (q q' : QueueState) (loaded : Loaded) (new : ChainHandle)
    (result : walked.PopOutcome) (h : Host) (regions : Mapped) (request : List ℕ) →
    IsRunQueue s i q →
    EndsBy s i q q' loaded new result →
    s.places ≡ places_in regions →
    HasLoaded (memory_over h regions) (live_of q).queue loaded request →
    IsOfferOf new.descriptors.items result request
    (offer (memory_over h regions) s.limit (live_of q).queue)
