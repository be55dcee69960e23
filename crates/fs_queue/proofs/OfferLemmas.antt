-- what a queue offers, by what was found on the way
use Rattle.std.proofs.Common.{◌≡◌, ℕ, true, false, ◌+◌, ◌*◌, ◌%◌, ◌^◌, ◌<◌, ◌&&◌, not, List, refl, ap, sym, ◌∙◌, arith, Option, Some, None}
use Rattle.std.proofs.Common.{Ok, Err, Result}
use Rattle.std.specs.Prelude.{IsTrue, is_some, if◌then◌else◌}
use Rattle.std.proofs.lemmas.Nat.{mod_below}
use Rattle.vm_memory_core.specs.Host.{Place}
use Rattle.vm_memory_core.specs.Window.{places}
use Rattle.vm_iotlb.specs.declared.permissions.Permissions.TheVariants.{Read, Write}
use Rattle.vm_memory.specs.Memory.{Memory, addresses, located, location, reach}
use Rattle.fs_queue.specs.declared.layout.QueueLayout.{QueueLayout}
use Rattle.fs_queue.specs.declared.chain.Chain.{Chain}
use Rattle.fs_queue.specs.declared.chain.ReturnWindows.{ReturnWindows}
use Rattle.fs_queue.specs.declared.fault.ChainFault.{ChainFault}
use Rattle.fs_queue.specs.declared.fault.QueueError.{QueueError}
use Rattle.fs_queue.specs.declared.fault.QueueError.TheVariants as stop
use Rattle.fs_queue.specs.Queue.{Queue, element_at, index_at}
use Rattle.fs_queue.specs.WalkingView.{at_position}
use Rattle.fs_queue.specs.Chain.{Found, IsChain, HasFault, StopsQueue, chain}
use Rattle.fs_queue.specs.NextAvail.{next_avail}
use Rattle.fs_queue.specs.NextAvail as avail
use Rattle.fs_queue.specs.Taking.{Offer, Offers, Refuses, RequestAndRoom, CannotFetch, request_and_room, offer_of, on_head, on_next_avail}
use Rattle.fs_queue.specs.Taking.{offer, may_lack_memory, stops_queue}
use Rattle.fs_queue.specs.Windows.{ReturnPlaces, Lacks, Takes, HoldsChain, HoldsFound, HoldsReturnWindows, RefusesFound}
use Rattle.fs_queue.specs.Windows.{RefusesHeld, WantsMemory, DoesNotStop, missing_of, return_places_found, return_places_at, used_addresses}
use Rattle.fs_queue.specs.Windows as held
use Rattle.fs_queue.proofs.TakeLemmas.{reach-each, reach-range, list_all-append}
use Rattle.vm_memory.proofs.RangeLemmas.{all_located}

-- a queue that isn't stopped
pub offer_next_avail : (m : Memory) (limit : ℕ) (q : Queue) → q.stopped ≡ false → offer m limit q ≡ on_next_avail m limit q (next_avail m q)
unfolding offer
offer_next_avail m limit q on = rw on refl

abbrev pub on_return_places : ReturnPlaces → Offer → Offer
on_return_places (held.HasBoth used flags) rest = rest
on_return_places (Lacks e) rest = Refuses e

two : (used flags : Option (List Place)) (rest : Offer) →
    (if not (is_some used) then Refuses stop.UsedUnreachable else if not (is_some flags) then Refuses stop.AvailFlagsUnreachable else rest)
    ≡ on_return_places (return_places_found used flags) rest
two None flags rest = refl
two (Some used) None rest = refl
two (Some used) (Some flags) rest = refl

-- the used element and the used index are reached where their addresses have their places
used_reached : (m : Memory) (q : Queue) → element_at q + 8 < 2 ^ 64 → index_at q + 2 < 2 ^ 64 →
    (reach m Write (element_at q) 8 && reach m Write (index_at q) 2) ≡ is_some (located (location m Write) (used_addresses q))
used_reached m q fits room =
    let r1 = reach-each m Write (element_at q) 8 fits in
    let r2 = reach-each m Write (index_at q) 2 room in
    rw (r1, r2) (list_all-append (addresses (element_at q) 8) (addresses (index_at q) 2) (location m Write)
    ∙ all_located (used_addresses q) (location m Write))

-- where a layout's parts end
element_fits : (l : QueueLayout) (position : ℕ) → l.used + 4 + 8 * (position % l.size) + 8 < 2 ^ 64
element_fits l position =
    let below = mod_below position l.size l.sized in
    omega (arith, l.used_ring)

pub on_head-return_places : (m : Memory) (limit : ℕ) (l : QueueLayout) (position at : ℕ) →
    on_head m limit (at_position l position) at
    ≡ on_return_places (return_places_at m (at_position l position)) (offer_of m limit at (chain m (at_position l position) at))
on_head-return_places m limit l position at =
    let r1 = used_reached m (at_position l position) (element_fits l position) (omega (arith, l.used_ring)) in
    let r2 = reach-range m Read l.avail 2 (omega (arith, l.available)) in
    rw (r1, r2) (two (located (location m Write) (used_addresses (at_position l position)))
    (located (location m Read) (addresses l.avail 2)) _)

-- a head was found, and then the windows of the return
pub offer_head : (m : Memory) (limit : ℕ) (l : QueueLayout) (position at : ℕ) → avail.Head at ≡ next_avail m (at_position l position) →
    offer m limit (at_position l position)
    ≡ on_return_places (return_places_at m (at_position l position)) (offer_of m limit at (chain m (at_position l position) at))
offer_head m limit l position at e =
    offer_next_avail m limit (at_position l position) refl ∙ sym (ap (on_next_avail m limit (at_position l position)) e)
    ∙ on_head-return_places m limit l position at

stays_offered : (m : Memory) (limit h : ℕ) (f : Found) → DoesNotStop f → may_lack_memory (offer_of m limit h f) ≡ true
stays_offered m limit h StopsQueue stays = absurd stays
stays_offered m limit h _ stays = refl

nothing_missing : (p : ReturnPlaces) (rest : Offer) → missing_of p ≡ None → on_return_places p rest ≡ rest
nothing_missing (held.HasBoth used flags) rest e = refl
nothing_missing (Lacks e) rest none = absurd (cc)

-- if the return can be written and the walk doesn't stop the queue, a chain is offered
pub lacks_memory : (m : Memory) (limit : ℕ) (l : QueueLayout) (position at : ℕ) → avail.Head at ≡ next_avail m (at_position l position) →
    missing_of (return_places_at m (at_position l position)) ≡ None → DoesNotStop (chain m (at_position l position) at) →
    IsTrue (may_lack_memory (offer m limit (at_position l position)))
lacks_memory m limit l position at e none stays =
    ap may_lack_memory (offer_head m limit l position at e ∙ nothing_missing _ _ none)
    ∙ stays_offered m limit at (chain m (at_position l position) at) stays

by_places : (used flags : Option (List Place)) →
    missing_of (return_places_found used flags)
    ≡ (if not (is_some used) then Some stop.UsedUnreachable else if not (is_some flags) then Some stop.AvailFlagsUnreachable else None)
by_places None flags = refl
by_places (Some used) None = refl
by_places (Some used) (Some flags) = refl

-- which part of a return is missing, by whether its addresses have places
pub missing_reached : (m : Memory) (l : QueueLayout) (position : ℕ) →
    let q = at_position l position in
    missing_of (return_places_at m q)
    ≡ (if not (reach m Write (element_at q) 8 && reach m Write (index_at q) 2) then Some stop.UsedUnreachable
    else if not (reach m Read q.avail 2) then Some stop.AvailFlagsUnreachable else None)
missing_reached m l position =
    let r1 = used_reached m (at_position l position) (element_fits l position) (omega (arith, l.used_ring)) in
    let r2 = reach-range m Read l.avail 2 (omega (arith, l.available)) in
    rw (r1, r2) (by_places (located (location m Write) (used_addresses (at_position l position)))
    (located (location m Read) (addresses l.avail 2)))

held_missing : (p : ReturnPlaces) (a b : List Place) → held.HasBoth a b ≡ p → missing_of p ≡ None
held_missing p a b e = sym (ap missing_of e)

-- the windows of the return are those of their addresses
pub found_return_places : (used flags : List Place) (o1 o2 : Option (List Place)) → held.HasBoth used flags ≡ return_places_found o1 o2 →
    (o1 ≡ Some used) × (o2 ≡ Some flags)
found_return_places used flags (Some a) (Some b) e = (cc, cc)
found_return_places used flags _ _ e = absurd (cc)

pub offer_lacks :
    (m : Memory) (limit : ℕ) (l : QueueLayout) (position at : ℕ) (e : QueueError) → avail.Head at ≡ next_avail m (at_position l position) →
    Lacks e ≡ return_places_at m (at_position l position) → offer m limit (at_position l position) ≡ Refuses e
offer_lacks m limit l position at e head places =
    offer_head m limit l position at head
    ∙ sym (ap (λ (x : ReturnPlaces). on_return_places x (offer_of m limit at (chain m (at_position l position) at))) places)

pub offer_found : (m : Memory) (limit : ℕ) (l : QueueLayout) (position at : ℕ) (a b : List Place) (f : Found) →
    avail.Head at ≡ next_avail m (at_position l position) →
    held.HasBoth a b ≡ return_places_at m (at_position l position) → f ≡ chain m (at_position l position) at →
    offer m limit (at_position l position) ≡ offer_of m limit at f
offer_found m limit l position at a b f head places found =
    offer_head m limit l position at head
    ∙ sym (ap (λ (x : ReturnPlaces). on_return_places x (offer_of m limit at (chain m (at_position l position) at))) places)
    ∙ sym (ap (offer_of m limit at) found)

-- a refusal that stops the queue is answered as it is offered
pub refuses :
    (m : Memory) (limit : ℕ) (q : Queue) (e : QueueError) → IsTrue (stops_queue e) → offer m limit q ≡ Refuses e → Takes m limit q (Err e)
refuses m limit q stop.OutOfMemory stops is = absurd (cc)
refuses m limit q _ stops is = is

-- so is a refusal of the walk, if the return can be written
pub refused_walk :
    (m : Memory) (limit : ℕ) (l : QueueLayout) (position at : ℕ) (e : QueueError) → avail.Head at ≡ next_avail m (at_position l position) →
    missing_of (return_places_at m (at_position l position)) ≡ None → RefusesFound (chain m (at_position l position) at) e →
    Takes m limit (at_position l position) (Err e)
refused_walk m limit l position at stop.OutOfMemory head none r = lacks_memory m limit l position at head none r
refused_walk m limit l position at stop.DescriptorUnreachable head none r =
    offer_head m limit l position at head ∙ nothing_missing _ _ none ∙ ap (offer_of m limit at) r
refused_walk m limit l position at _ head none r = absurd r

chain_wants : (limit room : ℕ) (f : Found) → WantsMemory limit room f → DoesNotStop f
chain_wants limit room StopsQueue wants = absurd wants
chain_wants limit room _ wants = tt

held_found : (limit room : ℕ) (f : Found) (e : QueueError) → RefusesHeld limit room f e → RefusesFound f e
held_found limit room f stop.OutOfMemory r = chain_wants limit room f r
held_found limit room f stop.DescriptorUnreachable r = r
held_found limit room f _ r = absurd r

pub refused_found : (m : Memory) (limit room : ℕ) (l : QueueLayout) (position at : ℕ) (a b : List Place) (e : QueueError) →
    avail.Head at ≡ next_avail m (at_position l position) →
    held.HasBoth a b ≡ return_places_at m (at_position l position) → RefusesHeld limit room (chain m (at_position l position) at) e →
    Takes m limit (at_position l position) (Err e)
refused_found m limit room l position at a b e head places r =
    refused_walk m limit l position at e head (held_missing _ a b places) (held_found limit room (chain m (at_position l position) at) e r)

-- what is fetched by what a walk found, if it has its windows
fetched_of : (m : Memory) (limit at : ℕ) (f : Found) (c : Result Chain ChainFault) → HoldsFound m limit f c →
    (fetched : RequestAndRoom) × (offer_of m limit at f ≡ Offers at fetched) × HoldsChain m fetched c
fetched_of m limit at (IsChain ds) c h = (request_and_room m limit ds, refl, h)
fetched_of m limit at (HasFault fault) c h = (CannotFetch fault, refl, h)
fetched_of m limit at StopsQueue c h = absurd h

-- a chain that was walked and has its windows is taken
pub taken_found : (m : Memory) (limit : ℕ) (l : QueueLayout) (position at : ℕ) (w : ReturnWindows) (c : Result Chain ChainFault) →
    avail.Head at ≡ next_avail m (at_position l position) →
    held.HasBoth (places w.used.items) (places w.flags.items) ≡ return_places_at m (at_position l position) →
    HoldsFound m limit (chain m (at_position l position) at) c →
    Takes m limit (at_position l position) (Ok (Some (record { head = at; chain = c; return_windows = w })))
taken_found m limit l position at w c head found h =
    let both = found_return_places _ _ _ _ found in
    let kept : HoldsReturnWindows m (at_position l position) w = record { used = both.0; flags = both.1 } in
    let fetched = fetched_of m limit at (chain m (at_position l position) at) c h in (
      fetched.0,
      offer_found m limit l position at _ _ (chain m (at_position l position) at) head found refl ∙ fetched.1,
      record { return_windows = kept; chain = fetched.2 },
    )
