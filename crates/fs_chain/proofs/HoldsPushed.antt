-- A push of a chain that the handle holds, and its end.
use Rattle.std.proofs.Common.{◌≡◌, ℕ, Bool, List, ◌++◌, length, Some, None, refl, subst, sym, ap, ◌∙◌, drop, take, ◌==◌, true}
use Rattle.std.proofs.Math.Seq.{take-append_seam}
use Rattle.std.proofs.lemmas.Bool.{and_parts, eqb-true, true≢false}
use Rattle.fs_queue.specs.Queue.{Queue}
use Rattle.fs_queue.specs.Returning.{stores_after_reply}
use Rattle.fs_queue.specs.ReturningView.{stores_of}
use Rattle.plain_machine.specs.Step.{Exchange}
use Rattle.live_machine.specs.Several.{returning, seen_at}
use Rattle.live_machine.specs.Several as several
use Rattle.live_machine.specs.Live.{Asked, InFlightChain, Own, Phase, PoppedFaulty, PushedWith, room_of, room_of_phase}
use Rattle.live_machine.proofs.Queues.{none_some, there_same}
use Rattle.server_phases.specs.declared.session.Session.{Session}
use Rattle.fs_chain.specs.Events.{notifies_of}
use Rattle.fs_chain.specs.Holds.{EndsPushInRun, HoldsInFlight, IsHeldIn, IsOutAs, KeepsReplyOf, PushesInRun, live_of, served_so}
use Rattle.fs_regions.specs.Places.{Mapped, places_in}
use Rattle.fs_chain.specs.Orders.{front_len, front_of, has_ring, push_refusal}
use Rattle.fs_chain.specs.Rings.{is_same_ring, ring_of}
use Rattle.fs_chain.specs.declared.ring_place.RingPlace as ring
use Rattle.fs_chain.specs.declared.ring_place.RingPlace.TheVariants.{Physical, Translated}
use Rattle.fs_chain.specs.Pushes.{IfReplied, PushesBy, put_front}
use Rattle.fs_chain.specs.Queues.{at_return, gave}
use Rattle.fs_chain.specs.declared.chain_handle.ChainHandle.{ChainHandle}
use Rattle.fs_chain.specs.declared.error.ChainError.TheVariants as error
use Rattle.fs_chain.specs.declared.pushing.PushStores.{PushStores}
use Rattle.fs_chain.specs.declared.queue.QueueState.{QueueState}
use Rattle.fs_chain.specs.declared.state.ChainReply.{ChainReply}
use Rattle.fs_chain.specs.declared.state.ChainState as state
use Rattle.fs_chain.specs.declared.state.ChainState.TheVariants as at
use Rattle.fs_chain.specs.declared.state.InFlight.{InFlight}
use Rattle.fs_chain.proofs.HoldsQueues.{pushed_there}

-- ---- the exchange

-- a chain that is pushed has the exchange's reply, and its handle holds it while it is pushed
replies : (page_size : ℕ) (c : InFlightChain) (p : Phase) (x : Exchange) (out : InFlight) (kept : ChainReply) (session : Session)
    → c.phase ≡ p → IsHeldIn page_size c p (at.Replied out kept) session → PushedWith page_size c p x
    → IsOutAs c out × KeepsReplyOf x.reply out kept × IsHeldIn page_size c p (at.Pushing out) session
replies page_size c (PoppedFaulty why) x out kept session is held proceeds =
    (held.0, subst (λ (r : List ℕ). KeepsReplyOf r out kept) (sym (ap (λ (k : Exchange). k.reply) proceeds)) held.1, held.0)
replies page_size c (Own request reply) x out kept session is held proceeds =
    (held.0, subst (λ (r : List ℕ). KeepsReplyOf r out kept) (sym (ap (λ (k : Exchange). k.reply) proceeds)) held.1, held.0)
replies page_size c (Asked request options calls) x out kept session is held proceeds =
    let room : length (room_of c) ≡ out.room_len =
    ap (λ (k : Phase). length (room_of_phase k c.descriptors)) is ∙ held.0.room_len in
    let same : x.reply ≡ (served_so page_size options request out.room_len calls).reply =
    ap (λ (k : Exchange). k.reply) proceeds.1 ∙ ap (λ (n : ℕ). (served_so page_size options request n calls).reply) room in
    (held.0, subst (λ (r : List ℕ). KeepsReplyOf r out kept) (sym same) held.1, (held.0, held.2))
replies page_size c p x out kept session is held proceeds = absurd held

-- where the two bytes stand that are seen
abbrev seen_of : QueueState → Queue → ℕ
seen_of q k = seen_at (record (live_of q) { queue = k })

-- ---- a push

same_ring : (a b : ring.RingPlace) → is_same_ring a b ≡ true → a ≡ b
same_ring Physical Physical is = refl
same_ring (Translated a) (Translated b) is =
    let both = and_parts (a.block == b.block) (a.offset == b.offset) is in
    ap (λ (n : ℕ). Translated (record { block = n; offset = a.offset })) (eqb-true a.block b.block both.0)
    ∙ ap (λ (n : ℕ). Translated (record { block = b.block; offset = n })) (eqb-true a.offset b.offset both.1)
same_ring _ _ is = absurd (true≢false (sym is))

-- the queue's rings are where they were when the chain was popped
ring_stays : (c : InFlightChain) (out : InFlight) (kept : ChainReply) (g : Mapped) → IsOutAs c out
    → has_ring (at.Replied out kept) g ≡ true → ring_of (places_in g) c.taken.used ≡ ring_of c.places c.taken.used
ring_stays c out kept g is_out has =
    ap (λ (k : Queue). ring_of (places_in g) k.used) is_out.taken
    ∙ sym (same_ring out.pop_id.ring (ring_of (places_in g) out.course.layout.used) has) ∙ is_out.ring

-- from its state
abbrev PushedFrom : (page_size : ℕ) → InFlightChain → Exchange → (old new : ChainHandle) → QueueState → (front : List ℕ) → PushStores →
    Type 0
PushedFrom page_size c x old new q front stores =
    HoldsInFlight page_size c new
    × (stores_of stores.used ≡ stores_after_reply (returning (live_of q)) c.head (length x.reply))
    × (stores.seen_at ≡ seen_at (live_of q))
    × (ring_of (places_in old.regions) c.taken.used ≡ ring_of c.places c.taken.used)
    × (behind : List ℕ)
    × (x.reply ≡ take stores.front_len front ++ behind)

by_state : (page_size : ℕ) (c : InFlightChain) (x : Exchange) (st : state.ChainState) (old new : ChainHandle) (q : QueueState)
    (front front' : List ℕ) (stores : PushStores)
    → IsHeldIn page_size c c.phase st old.session → PushedWith page_size c c.phase x → push_refusal st q (length front) ≡ None
    → has_ring st old.regions ≡ true
    → IfReplied st (λ out reply. new ≡ record old { state = at.Pushing out }) → IfReplied st (λ out reply. PushesBy q out reply stores)
    → IfReplied st (λ out reply. front' ≡ put_front reply front)
    → PushedFrom page_size c x old new q front' stores
by_state page_size c x (at.Replied out kept) old new q front front' stores held proceeds clear stays pushing by put =
    let all = replies page_size c c.phase x out kept old.session refl held proceeds in
    let is_out : IsOutAs c out = all.0 in
    let keeps : KeepsReplyOf x.reply out kept = all.1 in
    let n = length x.reply in
    let used : stores_of stores.used ≡ stores_after_reply (returning (live_of q)) c.head n =
    by.1
    ∙ ap (λ (k : ℕ). stores_after_reply (at_return q out) out.head k) keeps.len
    ∙ ap (λ (h : ℕ). stores_after_reply (at_return q out) h n) is_out.head
    ∙ ap (λ (k : Queue). stores_after_reply k c.head n) (sym (pushed_there q out kept (length front) q.next_used clear)) in
    let seen : stores.seen_at ≡ seen_at (live_of q) =
    by.2 ∙ ap (λ (k : Queue). seen_of q k) (sym (pushed_there q out kept (length front) q.next_avail clear)) in
    let begins : take stores.front_len front' ≡ front_of kept =
    ap (λ (k : ℕ). take k front') by.0 ∙ ap (λ (bs : List ℕ). take (front_len kept) bs) put
    ∙ take-append_seam (front_of kept) (drop (front_len kept) front) in (
      subst (λ (w : ChainHandle). HoldsInFlight page_size c w) (sym pushing) all.2,
      used,
      seen,
      ring_stays c out kept old.regions is_out stays,
      keeps.behind,
      keeps.bytes ∙ ap (λ (bs : List ℕ). bs ++ keeps.behind) (sym begins),
    )
by_state page_size c x st old new q front front' stores held proceeds clear stays pushing by put =
    absurd (none_some error.WrongOrder (sym clear))

pub pushes : (old new : ChainHandle) (q : QueueState) (front front' : List ℕ) (stores : PushStores)
    → push_refusal old.state q (length front) ≡ None
    → has_ring old.state old.regions ≡ true
    → IfReplied old.state (λ out reply. new ≡ record old { state = at.Pushing out })
    → IfReplied old.state (λ out reply. PushesBy q out reply stores)
    → IfReplied old.state (λ out reply. front' ≡ put_front reply front)
    → PushesInRun old new q front' stores
unfolding PushesInRun
pushes old new q front front' stores clear stays pushing by put page_size c x held proceeds =
    by_state page_size c x old.state old new q front front' stores held proceeds clear stays pushing by put

-- by its state
pub pushes_from : (old new : ChainHandle) (q : QueueState) (front front' : List ℕ) (stores : PushStores) (out : InFlight)
    (kept : ChainReply)
    → old.state ≡ at.Replied out kept → push_refusal (at.Replied out kept) q (length front) ≡ None
    → has_ring (at.Replied out kept) old.regions ≡ true → new ≡ record old { state = at.Pushing out }
    → PushesBy q out kept stores
    → front' ≡ put_front kept front
    → PushesInRun old new q front' stores
unfolding PushesInRun
pushes_from old new q front front' stores out kept is clear stays pushing by put page_size c x held proceeds =
    by_state page_size c x (at.Replied out kept) old new q front front' stores
    (subst (λ (st : state.ChainState). IsHeldIn page_size c c.phase st old.session) is held) proceeds clear stays pushing by put

-- ---- its end

pub ends_push : (old : ChainHandle) (q q' : QueueState) (seen : List ℕ) (notice : Bool) → length seen ≡ 2 → notice ≡ notifies_of q seen
    → q' ≡ gave q → EndsPushInRun old q q' seen notice
unfolding EndsPushInRun
ends_push old q q' seen notice two notice_is left s before behind c x last out there held proceeds = (
  record {
    before = before;
    behind = behind;
    out = out;
    w = live_of q;
    there = there;
    proceeds = proceeds;
    used_is = refl;
    two = two;
    reported = notice_is;
    state = refl;
  },
  there_same s.queues c.queue c.queue (λ _. several.gave (live_of q)) (live_of q) refl there
      ∙ ap (λ (k : QueueState). Some (live_of k)) (sym left),
)
