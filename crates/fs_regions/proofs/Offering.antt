-- what is offered by loads
use Rattle.std.proofs.Common.{◌≡◌, ℕ, Bool, true, false, ◌++◌, List, [], Option, Some, None, refl, ap, ◌∙◌}
use Rattle.std.proofs.lemmas.List.Elements.{All-nil}
use Rattle.std.specs.Prelude.{if◌then◌else◌, ◌&&◌, not}
use Rattle.vm_iotlb.specs.declared.permissions.Permissions.TheVariants.{Read, Write}
use Rattle.vm_memory.specs.Memory.{Memory, reach}
use Rattle.fs_queue.specs.declared.chain_walk.Progress.{Progress}
use Rattle.fs_queue.specs.declared.fault.QueueError.{QueueError}
use Rattle.fs_queue.specs.declared.fault.QueueError.TheVariants.{UsedUnreachable, AvailFlagsUnreachable}
use Rattle.fs_queue.specs.Queue.{Queue, element_at, index_at}
use Rattle.fs_queue.specs.NextAvail as avail
use Rattle.fs_queue.specs.Chain.{Found}
use Rattle.fs_queue.specs.Loads.{Load}
use Rattle.fs_queue.specs.OfferLoads.{available_by, on_waits, with_loaded, offer_by}
use Rattle.fs_queue.specs.Taking.{Offer, Refuses, offer_of, return_fault}
use Rattle.fs_regions.specs.Walks.{Loaded, RingIsAsked, IsLost, HeadBeginsWalk, HeadMayBePushed, FindsBy, OffersBy}

-- by what waits
on_next : (m : Memory) (limit : ℕ) (q : Queue) (index entry : Option (List ℕ)) (ls : List Load) (request : List ℕ)
    (next : avail.NextAvail) → q.stopped ≡ false → available_by q index entry ≡ Some next →
    offer_by m limit q index entry ls request ≡ on_waits m limit q ls request next
on_next m limit q index entry ls request next runs waits = rw (runs, waits) refl

return_has : (b c : Bool) → (if not b then Some UsedUnreachable else if not c then Some AvailFlagsUnreachable else None) ≡ None →
    (b ≡ true) × (c ≡ true)
return_has true true e = (refl, refl)
return_has _ _ e = absurd (cc)

-- by what a walk from a head finds
pub on_found : (m : Memory) (limit : ℕ) (q : Queue) (loaded : Loaded) (head : ℕ) (found : Found) (request : List ℕ) (o : Offer) →
    q.stopped ≡ false → HeadMayBePushed m q loaded head →
    with_loaded request (offer_of m limit head found) ≡ Some o → FindsBy m q loaded head found → OffersBy m limit q loaded request o
on_found m limit q loaded head found request o runs waits with_request finds =
    let has = return_has (reach m Write (element_at q) 8 && reach m Write (index_at q) 2) (reach m Read q.avail 2) waits.returns in
    let by_head = on_next m limit q loaded.index loaded.entry (loaded.entries ++ finds.0) request (avail.Head head) runs waits.by_loads in
    (waits.asked, finds.0, finds.1, by_head ∙ (rw (has.0, has.1, finds.2) with_request))

pub on_refused : (m : Memory) (limit : ℕ) (q : Queue) (loaded : Loaded) (e : QueueError) → q.stopped ≡ false → loaded.entries ≡ [] →
    RingIsAsked m q loaded →
    available_by q loaded.index loaded.entry ≡ Some (avail.Refused e) → OffersBy m limit q loaded [] (Refuses e)
on_refused m limit q loaded e runs none asked waits = (
  asked,
  [],
  All-nil (IsLost m),
  on_next m limit q loaded.index loaded.entry (loaded.entries ++ []) []
      (avail.Refused e) runs waits ∙ (rw none refl),
)

-- where a chain can't go back
lacks : (a b : Bool) (e : QueueError) (x : Option Offer) →
    (if not a then Some UsedUnreachable else if not b then Some AvailFlagsUnreachable else None) ≡ Some e →
    (if not a then Some (Refuses UsedUnreachable) else if not b then Some (Refuses AvailFlagsUnreachable) else x) ≡ Some (Refuses e)
lacks false b e x is = let same : UsedUnreachable ≡ e = cc in ap (λ (y : QueueError). Some (Refuses y)) same
lacks true false e x is = let same : AvailFlagsUnreachable ≡ e = cc in ap (λ (y : QueueError). Some (Refuses y)) same
lacks true true e x is = absurd (cc)

pub on_lacking :
    (m : Memory) (limit : ℕ) (q : Queue) (loaded : Loaded) (head : ℕ) (progress : Progress) (e : QueueError) → q.stopped ≡ false →
    HeadBeginsWalk m q loaded head progress → return_fault m q ≡ Some e →
    OffersBy m limit q loaded [] (Refuses e)
on_lacking m limit q loaded head progress e runs waits fault = (
  waits.asked,
  [],
  All-nil (IsLost m),
  on_next m limit q loaded.index loaded.entry (loaded.entries ++ []) [] (avail.Head head) runs waits.by_loads
      ∙ (rw waits.no_entries (lacks (reach m Write (element_at q) 8 && reach m Write (index_at q) 2) (reach m Read q.avail 2) e _ fault)),
)
