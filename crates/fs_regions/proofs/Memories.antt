-- what is offered by loads is the memory's
use Rattle.std.proofs.Common.{◌≡◌, ℕ, false, ◌++◌, List, [], ◌∷◌, Option, Some, None, refl, ◌∙◌}
use Rattle.std.specs.Prelude.{All}
use Rattle.std.proofs.lemmas.List.Elements.{All-head, All-tail}
use Rattle.vm_iotlb.specs.declared.permissions.Permissions.TheVariants.{Read}
use Rattle.vm_memory.specs.Memory.{Memory, reach}
use Rattle.fs_queue.specs.Queue.{avail_index_at, ring_entry_at}
use Rattle.fs_queue.specs.Loads.{Load, AreEntriesOf, IsEntryOf, IsLoadOf}
use Rattle.fs_queue.proofs.OfferByLemmas.{offer_is_still}
use Rattle.fs_queue.proofs.ConfinedLemmas.{only_places_count}
use Rattle.fs_regions.specs.Laws.{OffersAreTheMemorys}
use Rattle.fs_regions.specs.Places.{memory_over, places_in}
use Rattle.fs_regions.specs.Walks.{IsLost}

load_is : (m : Memory) (a : ℕ) (came : Option (List ℕ)) → (came ≡ None → reach m Read a 2 ≡ false) →
    ((bs : List ℕ) → came ≡ Some bs → IsLoadOf m 2 (record { address = a; came = came })) →
    IsLoadOf m 2 (record { address = a; came = came })
load_is m a None lacks has = rw (lacks refl) refl
load_is m a (Some bs) lacks has = has bs refl

lost_is : (m : Memory) (l : Load) → IsLost m l → IsEntryOf m l
lost_is m l lost = lost.0 ∙ (rw lost.1 refl)

all_lost : (m : Memory) (ls : List Load) → All (IsLost m) ls → AreEntriesOf m ls
all_lost m [] all = tt
all_lost m (l ∷ ls) all = (lost_is m l (All-head (IsLost m) l ls all), all_lost m ls (All-tail (IsLost m) l ls all))

both : (m : Memory) (ls lost : List Load) → AreEntriesOf m ls → AreEntriesOf m lost → AreEntriesOf m (ls ++ lost)
both m [] lost are more = more
both m (l ∷ ls) lost are more = (are.0, both m ls lost are.1 more)

pub offers_are_the_memorys : OffersAreTheMemorys
offers_are_the_memorys h regions limit q loaded request o runs by has =
    let m = memory_over h regions in
    let ls = loaded.entries ++ by.1 in
    let same = only_places_count m (places_in regions) limit q loaded.index loaded.entry ls request
    (record { element = refl; index = refl; flags = refl; chain = λ head ds found. (refl, refl) }) in
    offer_is_still m limit q loaded.index loaded.entry ls request o
    (record {
      index_is = λ _. load_is m (avail_index_at q) loaded.index by.0.0 has.index_is;
      entry_is = λ _ asks. load_is m (ring_entry_at q) loaded.entry (λ none. by.0.1 none asks) has.entry_is;
      entries_are = both m loaded.entries by.1 has.entries_are (all_lost m by.1 by.2);
      request_is = has.request_is;
    }) (same ∙ by.3)
