-- What a handle holds of a run: the loads of its pop, and a chain without a reply.
use Rattle.std.proofs.Common.{◌≡◌, ◌+◌, ◌<◌, ◌^◌, ℕ, zero, suc, true, subst, arith, is_some, nat_lt}
use Rattle.std.specs.List.{list_all}
use Rattle.std.proofs.lemmas.Bool.{and_parts}
use Rattle.vm_iotlb.specs.declared.permissions.Permissions.TheVariants.{Read}
use Rattle.vm_memory.specs.Memory.{addresses, location}
use Rattle.fs_regions.specs.Places.{Mapped, places_in}
use Rattle.fs_regions.specs.Walks.{asked_by, asked_len, queue_of}
use Rattle.live_machine.proofs.Loads.{inside_of, made_more, room_for_one}
use Rattle.live_machine.specs.Live.{Abandoned, Asked, Fetched, InFlightChain, Own, Phase, PoppedFaulty}
use Rattle.server_phases.specs.declared.session.Session.{Session}
use Rattle.fs_chain.specs.Held.{AskedIsMapped, HeldIsUnreplied, IsWithoutReply, LoadsAreFew, LoadsCount}
use Rattle.fs_chain.specs.Holds.{HasUnreplied, IsHeldIn, IsOutAs}
use Rattle.fs_chain.specs.Pops.{AddsSo}
use Rattle.fs_chain.specs.declared.loads.LoadOutcome.TheVariants as outcomes
use Rattle.fs_chain.specs.declared.state.ChainState as state
use Rattle.fs_chain.specs.declared.state.ChainState.TheVariants as at
use Rattle.fs_chain.specs.declared.state.InFlight.{InFlight}

-- a chain in flight, in another phase
pub out_in : (c : InFlightChain) (p : Phase) (out : InFlight) → IsOutAs c out → IsOutAs (record c { phase = p }) out
out_in c p out is = record {
  taken = is.taken;
  ring = is.ring;
  head = is.head;
  request_len = is.request_len;
  room_len = is.room_len;
  small = is.small;
}

-- each address of a mapped range has a place
has_place : (l : Mapped) (n a i : ℕ) → list_all (λ x. is_some (location (places_in l) Read x)) (addresses a n) ≡ true → i < n →
    is_some (location (places_in l) Read (a + i)) ≡ true
unfolding addresses
has_place l zero a i all lt = absurd (omega (arith, lt))
has_place l (suc n) a zero all lt =
    let same : a ≡ a + 0 = omega arith in
    subst (λ (k : ℕ). is_some (location (places_in l) Read k) ≡ true) same (and_parts (is_some (location (places_in l) Read a))
    (list_all (λ x. is_some (location (places_in l) Read x)) (addresses (a + 1) n)) all).0
has_place l (suc n) a (suc i) all lt =
    let same : a + 1 + i ≡ a + suc i = omega arith in
    subst (λ (k : ℕ). is_some (location (places_in l) Read k) ≡ true) same
    (has_place l n (a + 1) i (and_parts (is_some (location (places_in l) Read a))
    (list_all (λ x. is_some (location (places_in l) Read x)) (addresses (a + 1) n)) all).1 (omega (arith, lt)))

pub asked_is_mapped : AskedIsMapped
asked_is_mapped limit p w i held less =
    let walk = held.walk in
    has_place w.regions (asked_len walk) (asked_by walk) i (and_parts (nat_lt (asked_by walk + asked_len walk) (2 ^ 64))
    (list_all (λ x. is_some (location (places_in w.regions) Read x)) (addresses (asked_by walk) (asked_len walk))) held.there).1 less

pub loads_count : LoadsCount
loads_count limit p w ds result bytes loaded held adds =
    let so : AddsSo (at.Popping held.course held.pop_id held.walk) (outcomes.On result) ds p.loaded bytes loaded =
    subst (λ (st : state.ChainState). AddsSo st (outcomes.On result) ds p.loaded bytes loaded) held.state adds in
    let more = made_more (places_in w.regions) (queue_of held.course) p.loaded loaded w.descriptors.items held.walk bytes so.0 held.comes
    so.2 in
    omega (arith, more)

pub loads_are_few : LoadsAreFew
loads_are_few limit p w held =
    let few = room_for_one (places_in w.regions) (queue_of held.course) p.loaded w.descriptors.items held.walk
    (inside_of (places_in w.regions) (queue_of held.course) w.descriptors.items held.walk held.longest) held.comes in
    omega (arith, few)

-- ---- a chain without a reply

-- a chain that a handle holds without a reply
unreplied : (page_size : ℕ) (c : InFlightChain) (p : Phase) (st : state.ChainState) (session : Session) → IsWithoutReply st →
    IsHeldIn page_size c p st session → HasUnreplied c st
unreplied page_size c Fetched (at.Popped out) session is held = held
unreplied page_size c (PoppedFaulty why) (at.Popped out) session is held = absurd held
unreplied page_size c (Asked request options calls) (at.Popped out) session is held = absurd held
unreplied page_size c (Own request reply) (at.Popped out) session is held = absurd held
unreplied page_size c (Abandoned fault) (at.Popped out) session is held = absurd held
unreplied page_size c (Asked request options calls) (at.Decoded out w) session is held = held.0
unreplied page_size c (PoppedFaulty why) (at.Decoded out w) session is held = absurd held
unreplied page_size c Fetched (at.Decoded out w) session is held = absurd held
unreplied page_size c (Own request reply) (at.Decoded out w) session is held = absurd held
unreplied page_size c (Abandoned fault) (at.Decoded out w) session is held = absurd held
unreplied page_size c (Asked request options calls) (at.Listing out l) session is held = held.0
unreplied page_size c (PoppedFaulty why) (at.Listing out l) session is held = absurd held
unreplied page_size c Fetched (at.Listing out l) session is held = absurd held
unreplied page_size c (Own request reply) (at.Listing out l) session is held = absurd held
unreplied page_size c (Abandoned fault) (at.Listing out l) session is held = absurd held
unreplied page_size c p st session is held = absurd is

pub held_is_unreplied : HeldIsUnreplied
held_is_unreplied page_size c w is held = unreplied page_size c c.phase w.state w.session is held
