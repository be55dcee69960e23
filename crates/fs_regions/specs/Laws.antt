-- Theorems: a pop over regions is a pop in each memory that has its loads.
use Rattle.std.specs.Prelude.{◌≡◌, ℕ, ◌+◌, ◌<◌, ◌≤◌, false, List, length, Some}
use Rattle.vm_iotlb.specs.declared.iova.IovaRange.{IovaRange}
use Rattle.vm_iotlb.specs.declared.permissions.Permissions.{Permissions}
use Rattle.vm_memory_core.specs.Host.{Host}
use Rattle.vm_memory.specs.Memory.{Memory}
use Rattle.fs_queue.specs.Queue.{Queue}
use Rattle.fs_queue.specs.NextAvail.{next_avail, Head}
use Rattle.fs_queue.specs.Chain.{chain}
use Rattle.fs_queue.specs.Loads.{Load, AreEntriesOf, IsLoadOf, index_load, entry_load}
use Rattle.fs_queue.specs.OfferLoads.{request_in}
use Rattle.fs_queue.specs.Taking.{Offer, offer}
use Rattle.fs_regions.specs.Misses.{Area, first_miss, last_page}
use Rattle.fs_regions.specs.Places.{Mapped, memory_over, places_in}
use Rattle.fs_regions.specs.Walks.{Loaded, OffersBy, ReadOutOf}

-- the loads and the request are the memory's bytes
pub record HasLoaded (m : Memory) (q : Queue) (loaded : Loaded) (request : List ℕ) : Type 0 where
  pub index_is : (bs : List ℕ) → loaded.index ≡ Some bs → IsLoadOf m 2 (index_load q loaded.index)
  pub entry_is : (bs : List ℕ) → loaded.entry ≡ Some bs → IsLoadOf m 2 (entry_load q loaded.entry)
  pub entries_are : AreEntriesOf m loaded.entries
  pub request_is :
      (head : ℕ) → next_avail m q ≡ Head head → 0 < length request → request ≡ request_in m (chain m q head)

-- theorem: an offer by loads in some regions is the queue's offer in each memory of these regions that
-- has the loads
abbrev pub OffersAreTheMemorys : Type 0
OffersAreTheMemorys =
    (h : Host) (regions : Mapped) (limit : ℕ) (q : Queue) (loaded : Loaded) (request : List ℕ) (o : Offer) →
    q.stopped ≡ false →
    OffersBy (places_in regions) limit q loaded request o →
    HasLoaded (memory_over h regions) q loaded request →
    o ≡ offer (memory_over h regions) limit q

-- theorem: a memory that has the bytes of a stretch has each entry that a walk reads out of them
abbrev pub ReadOutIsTheMemorys : Type 0
ReadOutIsTheMemorys =
    (m : Memory) (from : ℕ) (bs : List ℕ) (ls : List Load) →
    IsLoadOf m (length bs) (record { address = from; came = Some bs }) →
    ReadOutOf from bs ls →
    AreEntriesOf m ls

-- theorem: a table of whole pages can map the first miss of some areas. The miss has an address, and none in
-- the last page
abbrev pub MissesCanBeMapped : Type 0
MissesCanBeMapped =
    (m : Memory) (areas : List Area) (range : IovaRange) (access : Permissions) →
    first_miss m areas ≡ Some (range, access) →
    (0 < range.length) × (range.base.0 + range.length ≤ last_page)
