-- The end of a chain by a handle drives the run: a push in two calls, and a drop.
use Rattle.std.proofs.Common.{◌≡◌, ◌<◌, ◌^◌, ℕ, Bool, true, false, List, [], ◌∷◌, ◌++◌, length, Option, Some, None, if◌then◌else◌, not}
use Rattle.std.proofs.Common.{inl, inr, nat_lt, take, drop, Result, Ok, Err, IfErr, IfOk, OnOk, OnErr, refl, subst, sym, ap, ◌∙◌}
use Rattle.fs_chain.proofs.HoldsQueues.{same_index}
use Rattle.fs_chain.specs.declared.error.ChainError.{ChainError}
use Rattle.fs_chain.specs.declared.error.ChainError.TheVariants.{OtherQueue, ShortBuffer, WrongOrder}
use Rattle.fs_chain.specs.declared.error.ChainError.TheVariants as error
use Rattle.fs_chain.specs.Queues.{gave, gave_up, is_in_flight_of}
use Rattle.fs_chain.specs.Tickets.{freed}
use Rattle.fs_chain.specs.Orders.{end_error, front_len, front_of, give_up_error, has_ring, push_error, push_refusal, is_out}
use Rattle.fs_chain.specs.Pushes.{IfReplied, PushesBy, put_front}
use Rattle.fs_queue.specs.Returning.{Store, stores_after_reply}
use Rattle.fs_queue.specs.ReturningView.{stores_of}
use Rattle.fs_regions.specs.Places.{places_in}
use Rattle.plain_machine.specs.Step.{Exchange}
use Rattle.live_machine.specs.Several.{returning}
use Rattle.live_machine.specs.Several as several
use Rattle.live_machine.proofs.Queues.{none_some, same_some, there_other}
use Rattle.live_machine.specs.Live.{InFlightChain, PushedWith, PushesChain, after_push, GivesUpChain, after_giving_up, Abandoned, Asked}
use Rattle.live_machine.specs.Live.{Fetched, IsUnreplied, Own, Phase, RepliesOwnBytes, after_own, own_exchange}
use Rattle.fs_driven.specs.Drivers.{PushUnderWay, FitsRun, CanBePushed, IsUnderWay, MayPop, own, no_pop, with_pop}
use Rattle.fs_driven.specs.Events.{DrivesOne, GiveUpEvents, EventsOf, Unseen, asked_len_of, exactly, replied_to, transition}
use Rattle.fs_driven.specs.Kept.{KeepsMemory}
use Rattle.server_phases.specs.declared.session.Session.{Session}
use Rattle.fs_chain.specs.Held.{IsWithoutReply}
use Rattle.fs_chain.specs.OwnReplies.{IfUnanswered, own_error, own_reply}
use Rattle.fs_chain.proofs.Held.{held_is_unreplied}
use Rattle.fs_chain.specs.Holds.{EndsPushInRun, GivesUpInRun, IsHeldIn, RepliesOwnInRun, IsRunQueue, Pop, RunState, PushesInRun, live_of}
use Rattle.fs_chain.specs.Together.{with_handle}
use Rattle.fs_chain.specs.declared.chain_handle.ChainHandle.{ChainHandle}
use Rattle.fs_driven.specs.declared.commands.DriverCall.TheVariants as does
use Rattle.fs_driven.specs.declared.commands.Results.TheVariants as gives
use Rattle.fs_chain.specs.declared.pushing.PushStores.{PushStores}
use Rattle.fs_chain.specs.declared.queue.QueueState.{QueueState}
use Rattle.fs_chain.specs.declared.state.ChainReply.{ChainReply}
use Rattle.fs_chain.specs.declared.state.ChainState as state
use Rattle.fs_chain.specs.declared.state.ChainState.TheVariants as at
use Rattle.fs_chain.specs.declared.state.InFlight.{InFlight}
use Rattle.fs_driven.proofs.Counts.{given_up_counts, pushed_counts, same_count}
use Rattle.fs_driven.proofs.Handles.{IsOnlyOf, MovesRun, has_own, idles, keeps, leaves, not_free, others_none, others_same}
use Rattle.fs_driven.proofs.QueuePlaces.{DrivesAt, HasRunAt, driver_after, driver_before, drives_one, push_here}
use Rattle.fs_chain.proofs.Together.{chains_of}
use Rattle.fs_driven.proofs.Calls.{fits_out, length_exactly, no_error, refuses, same_all, same_held, stays_put}

-- ---- push and pushed

ready_reply : (page_size k : ℕ) (q : QueueState) (push : Option PushUnderWay) (c : InFlightChain)
    (st : state.ChainState) (out : InFlight) (kept : ChainReply)
    → st ≡ at.Replied out kept →
    CanBePushed page_size k q push c st → (x : Exchange) × PushedWith page_size c c.phase x
ready_reply page_size k q push c st out kept is ready =
    subst (λ (s : state.ChainState). CanBePushed page_size k q push c s) is ready

ready_pushing : (page_size k : ℕ) (q : QueueState) (push : Option PushUnderWay) (c : InFlightChain)
    (st : state.ChainState) (out : InFlight) →
    st ≡ at.Pushing out →
    CanBePushed page_size k q push c st →
    (x : Exchange) × PushedWith page_size c c.phase x × IsUnderWay k q c x push
ready_pushing page_size k q push c st out is ready =
    subst (λ (s : state.ChainState). CanBePushed page_size k q push c s) is ready

-- a push that isn't refused
abbrev pub HasFree : state.ChainState → QueueState → Type 0
HasFree (at.Replied out kept) q = q.pushing ≡ false
HasFree _ q = ⊥

may_push : (st : state.ChainState) (q : QueueState) (len : ℕ) → push_refusal st q len ≡ None → HasFree st q
may_push (at.Replied out kept) q len is = by_flight (is_in_flight_of q out) is
  where
    by_pushing : (b : Bool) (rest : Option ChainError) →
        (if b then Some error.Pushing else rest) ≡ None → b ≡ false
    by_pushing true rest none = absurd (no_error error.Pushing none)
    by_pushing false rest none = refl

    by_flight : (b : Bool) → (if not b then Some OtherQueue
        else if q.pushing then Some error.Pushing
        else if nat_lt len (front_len kept) then Some ShortBuffer
        else None) ≡ None → q.pushing ≡ false
    by_flight true none =
        by_pushing q.pushing (if nat_lt len (front_len kept) then Some ShortBuffer else None) none
    by_flight false none = absurd (no_error OtherQueue none)
may_push at.Free q len is = absurd (no_error WrongOrder is)
may_push (at.Popping course pop_id walk) q len is = absurd (no_error WrongOrder is)
may_push (at.Popped out) q len is = absurd (no_error WrongOrder is)
may_push (at.Decoded out w) q len is = absurd (no_error WrongOrder is)
may_push (at.Listing out l) q len is = absurd (no_error WrongOrder is)
may_push (at.Pushing out) q len is = absurd (no_error WrongOrder is)

only_none : (k : ℕ) (push : Option PushUnderWay) → push ≡ None → IsOnlyOf k push
only_none k push is = subst (λ (p : Option PushUnderWay). IsOnlyOf k p) (sym is) tt

-- what a push returns, by the reply that the handle kept
abbrev PushedSo : QueueState → PushStores → (front : List ℕ) → InFlight → ChainReply → Type 0
PushedSo q s front out reply =
    PushesBy q out reply s × ((behind : List ℕ) × (front ≡ front_of reply ++ behind))

push_drives : (page_size : ℕ) (old new : ChainHandle) (q q' : QueueState) (front : List ℕ)
    (stores : PushStores) (out : InFlight) (kept : ChainReply)
    → old.state ≡ at.Replied out kept → q.pushing ≡ false
    → push_refusal old.state q (length front) ≡ None
    → PushedSo q stores front out kept
    → new ≡ record old { state = at.Pushing out } → q' ≡ record q { pushing = true }
    → PushesInRun old new q front stores
    → DrivesAt page_size old new q q' does.Push (gives.Began (Ok stores) front)
unfolding PushesInRun
push_drives page_size old new q q' front stores out kept is idle ok so made pushing pushes ws k there u s i os
    pops push all =
    let has = has_own s i page_size q ws os k old pops push all there (all.outs old there (ap is_out is)) in
    let c = has.c in
    let x = ready_reply page_size k q push c old.state out kept is has.mine.1 in
    let proceeds : PushedWith s.page_size c c.phase x.0 =
    subst (λ (n : ℕ). PushedWith n c c.phase x.0) (sym all.page) x.1 in
    let p = pushes s.page_size c x.0 has.holds proceeds in
    let state_is : new.state ≡ at.Pushing out = ap (λ (w : ChainHandle). w.state) made in
    let same : KeepsMemory old new =
    (ap (λ (w : ChainHandle). w.regions) made, ap (λ (w : ChainHandle). w.limit) made) in
    let places : (head len : ℕ) → stores_after_reply (returning (live_of q')) head len
    ≡ stores_after_reply (returning (live_of q)) head len =
    λ head len. ap (λ (r : QueueState). stores_after_reply (returning (live_of r)) head len) pushing in
    let b : PushUnderWay = record { handle = k; stores = stores; front = front } in
    let now_pushing : q'.pushing ≡ true = ap (λ (r : QueueState). r.pushing) pushing in
    let moves : MovesRun s s i page_size k q q' (pops k) push (Some b) new = record {
      page = refl;
      limit = refl;
      places = refl;
      queue = subst (λ (r : QueueState). IsRunQueue s i.number r) (sym pushing) all.queue;
      apart = λ j other. refl;
      event = same_index q' _ pushing;
      fits = fits_out s.places s.limit q (pops k) (pops k) old new same (ap is_out state_is)
          (all.fits old there);
      others = others_none page_size k q q' push (Some b) (only_none k push (all.still idle));
      still = λ none. absurd (not_free q'.pushing now_pushing none);
    } in
    let under : IsUnderWay k q' c x.0 (Some b) =
    (refl, (p.1 ∙ sym (places c.head (length x.0.reply)), p.4, p.5)) in (
      [],
      s,
      has.ob ++ own k c ∷ has.oh,
      pops k,
      Some b,
      refl,
      keeps s s i page_size q q' ws has.ob has.oh k old new c c (pops k) pops push (Some b) has.driven there
          moves (same_count (live_of q) (live_of q') (ap live_of pushing)) has.chains p.0 (
            has.mine.0,
            subst (λ (st : state.ChainState). CanBePushed page_size k q' (Some b) c st) (sym state_is)
                (x.0, x.1, under),
          ),
      (λ other is. absurd (none_some other (sym (all.under ∙ all.still idle) ∙ is))),
      (
        refl,
        ok,
        subst (λ (st : state.ChainState). IfReplied st (λ o r. PushesBy q o r stores
            × ((behind : List ℕ) × (front ≡ front_of r ++ behind))
            × (new ≡ record old { state = at.Pushing o }))) (sym is) (so.0, so.1, made),
        pushing,
        push_here i.pushes i.number (Some b),
      ),
    )

-- the push under way
record UnderWay (k : ℕ) (q : QueueState) (c : InFlightChain) (x : Exchange) (push : Option PushUnderWay) :
    Type 0 where
  pub begun : PushUnderWay
  pub is : push ≡ Some begun
  pub mine : begun.handle ≡ k
  pub used : stores_of begun.stores.used ≡ stores_after_reply (returning (live_of q)) c.head (length x.reply)
  pub reply : (behind : List ℕ) × (x.reply ≡ take begun.stores.front_len begun.front ++ behind)
  pub only : IsOnlyOf k push

under_way : (k : ℕ) (q : QueueState) (c : InFlightChain) (x : Exchange) (push : Option PushUnderWay) →
    IsUnderWay k q c x push → UnderWay k q c x push
under_way k q c x None is = absurd is
under_way k q c x (Some b) is =
    record { begun = b; is = refl; mine = is.0; used = is.1.0; reply = (is.1.1, is.1.2); only = is.0 }

end_drives : (page_size : ℕ) (old new : ChainHandle) (q q' : QueueState) (seen : List ℕ) (notice : Bool)
    (out : InFlight)
    → old.state ≡ at.Pushing out → new ≡ freed old → q' ≡ gave q → q.next_used < 2 ^ 16
    → EndsPushInRun old q q' seen notice
    → DrivesAt page_size old new q q' (does.Pushed seen) (gives.Ended (Ok notice))
unfolding EndsPushInRun
end_drives page_size old new q q' seen notice out is free gave small ends ws k there u s i os pops push all =
    let has = has_own s i page_size q ws os k old pops push all there (all.outs old there (ap is_out is)) in
    let c = has.c in
    let x = ready_pushing page_size k q push c old.state out is has.mine.1 in
    let proceeds : PushedWith s.page_size c c.phase x.0 =
    subst (λ (n : ℕ). PushedWith n c c.phase x.0) (sym all.page) x.1 in
    let under = under_way k q c x.0 push x.2 in
    let queue : IsRunQueue s c.queue q = subst (λ (n : ℕ). IsRunQueue s n q) (sym has.mine.0) all.queue in
    let e = ends s (chains_of has.ob) (chains_of has.oh) c x.0 u.last has.chains queue has.holds proceeds in
    let after : RunState = after_push s (chains_of has.ob) (chains_of has.oh) c (live_of q) in
    let state_is : new.state ≡ at.Free = ap (λ (w : ChainHandle). w.state) free in
    let was = all.fits old there in
    let moves : MovesRun s after i page_size k q q' no_pop push None new = record {
      page = refl;
      limit = refl;
      places = refl;
      queue = subst (λ (n : ℕ). IsRunQueue after n q') has.mine.0 e.1;
      apart = λ j other.
          there_other s.queues c.queue j (λ _. several.gave (live_of q)) (λ is. other (sym has.mine.0 ∙ is));
      event = same_index q' _ gave;
      fits = (
        was.0 ∙ ap places_in (sym (ap (λ (w : ChainHandle). w.regions) free)),
        was.1 ∙ sym (ap (λ (w : ChainHandle). w.limit) free),
        subst (λ (st : state.ChainState). MayPop s.limit q no_pop new st) (sym state_is) tt,
      );
      others = others_none page_size k q q' push None under.only;
      still = λ none. refl;
    } in (
      PushesChain c x.0 notice u.last
          (stores_after_reply (returning (live_of q)) c.head (length x.0.reply)) seen ∷ [],
      after,
      has.ob ++ has.oh,
      no_pop,
      None,
      (after, e.0, refl),
      leaves s after i page_size q q' ws has.ob has.oh k old new c no_pop pops push None has.driven there moves
          (pushed_counts q q' gave small) refl (ap is_out state_is),
      (λ b is. inr (
        ap (λ (x : PushUnderWay). x.handle) (same_some b under.begun (sym is ∙ all.under ∙ under.is)) ∙ under.mine,
        refl,
      )),
      (
        c,
        x.0,
        under.begun,
        has.is_in,
        all.under ∙ under.is,
        under.mine,
        under.reply,
        ap (λ (stores : List Store). PushesChain c x.0 notice u.last stores seen ∷ []) (sym under.used),
        free,
        gave,
      ),
    )

-- ---- give_up

-- a handle that is free now
fits_freed : (s : RunState) (q : QueueState) (p : Pop) (old new : ChainHandle) → new ≡ freed old
    → FitsRun s.places s.limit q p old → FitsRun s.places s.limit q no_pop new
fits_freed s q p old new free was = (
  was.0 ∙ ap places_in (sym (ap (λ (w : ChainHandle). w.regions) free)),
  was.1 ∙ sym (ap (λ (w : ChainHandle). w.limit) free),
  subst (λ (st : state.ChainState). MayPop s.limit q no_pop new st)
      (sym (ap (λ (w : ChainHandle). w.state) free)) tt,
)

-- the queue once a chain was given up, or none
left_by : (q : QueueState) (b : Bool) (c : Bool) → b ≡ c →
    (if b then gave_up q else q) ≡ (if c then gave_up q else q)
left_by q b c is = ap (λ (x : Bool). if x then gave_up q else q) is

give_up_drives : (page_size : ℕ) (old new : ChainHandle) (q q' : QueueState)
    → give_up_error old.state q ≡ None → new ≡ freed old
    → q' ≡ (if is_out old.state then gave_up q else q) → GivesUpInRun old new q q'
    → DrivesAt page_size old new q q' does.GiveUp (gives.GaveUp (Ok tt))
unfolding GivesUpInRun
give_up_drives page_size old new q q' clear free left gives_up ws k there u s i os pops push all =
    by_out (is_out old.state) refl
  where
    state_is : new.state ≡ at.Free
    state_is = ap (λ (w : ChainHandle). w.state) free

    by_out : (b : Bool) → is_out old.state ≡ b → HasRunAt s i page_size k pops q' (with_handle ws k new)
        (λ es d. EventsOf (transition i.number page_size k (driver_before s i ws os pops) d old new q q') does.GiveUp u
        (gives.GaveUp (Ok tt)) es)
    by_out false none =
        let same : q' ≡ q = left ∙ left_by q (is_out old.state) false none in
        let moves : MovesRun s s i page_size k q q' no_pop push push new =
        stays_put s i page_size k q q' no_pop push new
        (subst (λ (r : QueueState). IsRunQueue s i.number r) (sym same) all.queue)
        (same_index q' _ same)
        (λ head len. ap (λ (r : QueueState). stores_after_reply (returning (live_of r)) head len) same)
        (ap (λ (r : QueueState). r.pushing) same) all.still
        (fits_freed s q (pops k) old new free (all.fits old there)) in (
          [],
          s,
          os,
          no_pop,
          push,
          refl,
          idles s s i page_size q q' ws os k old new no_pop pops push push all there moves
              (same_count (live_of q) (live_of q') (ap live_of same)) refl none (ap is_out state_is),
          (λ b is. inl (sym all.under ∙ is)),
          (
            clear,
            free,
            left,
            subst (λ (b : Bool). GiveUpEvents (transition i.number page_size k (driver_before s i ws os pops)
                (driver_after s i (with_handle ws k new) q' os (with_pop pops k no_pop) push) old new q q') b []) (sym none) refl,
          ),
        )
    by_out true some =
        let has = has_own s i page_size q ws os k old pops push all there (all.outs old there some) in
        let c = has.c in
        let queue : IsRunQueue s c.queue q = subst (λ (n : ℕ). IsRunQueue s n q) (sym has.mine.0) all.queue in
        let e = gives_up s (chains_of has.ob) (chains_of has.oh) c has.chains queue has.holds in
        let after : RunState = after_giving_up s (chains_of has.ob) (chains_of has.oh) c (live_of q) in
        let now : q' ≡ gave_up q = left ∙ left_by q (is_out old.state) true some in
        let moves : MovesRun s after i page_size k q q' no_pop push push new = record {
          page = refl;
          limit = refl;
          places = refl;
          queue = subst (λ (n : ℕ). IsRunQueue after n q') has.mine.0 e.1;
          apart = λ j other.
              there_other s.queues c.queue j (λ _. several.gave_up (live_of q)) (λ is. other (sym has.mine.0 ∙ is));
          event = same_index q' _ now;
          fits = fits_freed s q (pops k) old new free (all.fits old there);
          others = others_same page_size k q q' push
              (λ head len. ap (λ (r : QueueState). stores_after_reply (returning (live_of r)) head len) now);
          still = λ none. all.still (sym (ap (λ (r : QueueState). r.pushing) now) ∙ none);
        } in (
          GivesUpChain c ∷ [],
          after,
          has.ob ++ has.oh,
          no_pop,
          push,
          (after, e.0, refl),
          leaves s after i page_size q q' ws has.ob has.oh k old new c no_pop pops push push has.driven there
              moves (given_up_counts q q' now) refl (ap is_out state_is),
          (λ b is. inl (sym all.under ∙ is)),
          (
            clear,
            free,
            left,
            subst (λ (b : Bool). GiveUpEvents (transition i.number page_size k (driver_before s i ws os pops)
                (driver_after after i (with_handle ws k new) q' (has.ob ++ has.oh) (with_pop pops k no_pop) push) old new q q') b
                (GivesUpChain c ∷ [])) (sym some) (c, has.is_in, refl),
          ),
        )

-- ---- reply

own_ready : (page_size k : ℕ) (q : QueueState) (push : Option PushUnderWay) (c : InFlightChain)
    (request reply : List ℕ) (st : state.ChainState) (out : InFlight) (kept : ChainReply)
    → st ≡ at.Replied out kept
    → CanBePushed page_size k q push (record c { phase = Own request reply }) st
own_ready page_size k q push c request reply st out kept is =
    subst (λ (s : state.ChainState). CanBePushed page_size k q push (record c { phase = Own request reply }) s)
    (sym is) (own_exchange c.head request reply, refl)

-- the request that the reply is for
unreplied_by : (c : InFlightChain) (p : Phase) (st : state.ChainState) (session : Session) (page_size : ℕ)
    (u : Unseen) → IsWithoutReply st → IsHeldIn page_size c p st session →
    IsUnreplied c p (replied_to p u (asked_len_of st))
unreplied_by c Fetched (at.Popped out) session page_size u is held =
    length_exactly out.request_len u.request ∙ held.request_len
unreplied_by c (Asked request options calls) st session page_size u is held = refl
unreplied_by c (Abandoned fault) st session page_size u is held = absurd held
unreplied_by c _ (at.Popped out) session page_size u is held = absurd held
unreplied_by c _ (at.Listing out l) session page_size u is held = absurd held
unreplied_by c _ (at.Decoded out w) session page_size u is held = absurd held
unreplied_by c _ _ session page_size u is held = absurd is

without_out : (st : state.ChainState) → IsWithoutReply st → is_out st ≡ true
without_out (at.Popped out) is = refl
without_out (at.Decoded out w) is = refl
without_out (at.Listing out l) is = refl
without_out _ is = absurd is

-- the handle keeps a reply of the caller's own bytes
abbrev RepliedSo : (old new : ChainHandle) → (len : ℕ) → Type 0
RepliedSo old new len =
    IfUnanswered old.state (λ out. new ≡ record old { state = at.Replied out (own_reply len) })

reply_drives : (page_size : ℕ) (old new : ChainHandle) (q : QueueState) (ticket len : ℕ) (out : InFlight)
    → IsWithoutReply old.state → own_error old.state old.ticket ticket len ≡ None
    → RepliedSo old new len
    → new ≡ record old { state = at.Replied out (own_reply len) }
    → RepliesOwnInRun old new len
    → DrivesAt page_size old new q q (does.Reply ticket len) (gives.Replied (Ok tt))
unfolding RepliesOwnInRun
reply_drives page_size old new q ticket len out without clear kept made replies ws k there u s i os pops push all =
    let has = has_own s i page_size q ws os k old pops push all there (all.outs old there (without_out old.state without)) in
    let c = has.c in
    let request : List ℕ = replied_to c.phase u (asked_len_of old.state) in
    let reply : List ℕ = exactly len u.bytes in
    let r = replies s (chains_of has.ob) (chains_of has.oh) c request reply s.options has.chains
    (held_is_unreplied s.page_size c old without has.holds)
    (unreplied_by c c.phase old.state old.session s.page_size u without has.holds)
    (length_exactly len u.bytes) in
    let after : RunState = after_own s (chains_of has.ob) (chains_of has.oh) c request reply s.options in
    let c' : InFlightChain = record c { phase = Own request reply } in
    let state_is : new.state ≡ at.Replied out (own_reply len) = ap (λ (w : ChainHandle). w.state) made in
    let same : KeepsMemory old new =
    (ap (λ (w : ChainHandle). w.regions) made, ap (λ (w : ChainHandle). w.limit) made) in
    let moves : MovesRun s after i page_size k q q (pops k) push push new = record {
      page = refl;
      limit = refl;
      places = refl;
      queue = all.queue;
      apart = λ j other. refl;
      event = refl;
      fits = fits_out s.places s.limit q (pops k) (pops k) old new same (ap is_out state_is)
          (all.fits old there);
      others = others_same page_size k q q push (λ head len. refl);
      still = all.still;
    } in (
      RepliesOwnBytes c request reply s.options ∷ [],
      after,
      has.ob ++ own k c' ∷ has.oh,
      pops k,
      push,
      (after, r.0, refl),
      keeps s after i page_size q q ws has.ob has.oh k old new c c' (pops k) pops push push has.driven there
          moves (λ n counts. counts) refl r.1
          (has.mine.0, own_ready page_size k q push c request reply new.state out (own_reply len) state_is),
      (λ b is. inl (sym all.under ∙ is)),
      (clear, kept, refl, c, has.is_in, refl),
    )

-- ---- by what each call ensures

reply_at : (old new : ChainHandle) (q : QueueState) (ticket len : ℕ) (st : state.ChainState) → old.state ≡ st
    → own_error st old.ticket ticket len ≡ None
    → RepliedSo old new len
    → IfUnanswered st (λ out. new ≡ record old { state = at.Replied out (own_reply len) })
    → RepliesOwnInRun old new len
    → (page_size : ℕ) → DrivesOne page_size old new q q (does.Reply ticket len) (gives.Replied (Ok tt))
reply_at old new q ticket len (at.Popped out) is clear kept made step page_size =
    drives_one _ _ (reply_drives page_size old new q ticket len out
    (subst (λ (s : state.ChainState). IsWithoutReply s) (sym is) tt)
    (ap (λ (s : state.ChainState). own_error s old.ticket ticket len) is ∙ clear) kept made step)
reply_at old new q ticket len (at.Decoded out w) is clear kept made step page_size =
    drives_one _ _ (reply_drives page_size old new q ticket len out
    (subst (λ (s : state.ChainState). IsWithoutReply s) (sym is) tt)
    (ap (λ (s : state.ChainState). own_error s old.ticket ticket len) is ∙ clear) kept made step)
reply_at old new q ticket len (at.Listing out l) is clear kept made step page_size =
    drives_one _ _ (reply_drives page_size old new q ticket len out
    (subst (λ (s : state.ChainState). IsWithoutReply s) (sym is) tt)
    (ap (λ (s : state.ChainState). own_error s old.ticket ticket len) is ∙ clear) kept made step)
reply_at old new q ticket len _ is clear kept made step page_size = absurd (no_error WrongOrder clear)

pub reply_result : (old new : ChainHandle) (q : QueueState) (ticket len : ℕ)
    (result : Result (Unit {0}) ChainError)
    → IfErr result (λ e. own_error old.state old.ticket ticket len ≡ Some e)
    → OnOk result (own_error old.state old.ticket ticket len ≡ None)
    → OnErr result (new ≡ old)
    → OnOk result (IfUnanswered old.state
    (λ out. new ≡ record old { state = at.Replied out (own_reply len) }))
    → OnOk result (RepliesOwnInRun old new len)
    → (page_size : ℕ) → DrivesOne page_size old new q q (does.Reply ticket len) (gives.Replied result)
reply_result old new q ticket len (Ok done) err clear same made step page_size =
    reply_at old new q ticket len old.state refl clear made made step page_size
reply_result old new q ticket len (Err e) err clear same made step page_size =
    refuses page_size old new q (does.Reply ticket len) (gives.Replied (Err e)) (same_held old new same)
    (λ i k d d' u pop. (refl, (same_all old new same, refl, pop), err))

pub give_up_result : (old new : ChainHandle) (q q' : QueueState) (result : Result (Unit {0}) ChainError)
    → IfErr result (λ e. give_up_error old.state q ≡ Some e)
    → OnOk result (give_up_error old.state q ≡ None)
    → OnErr result ((new ≡ old) × (q' ≡ q))
    → OnOk result (new ≡ freed old)
    → OnOk result (q' ≡ (if is_out old.state then gave_up q else q))
    → OnOk result (GivesUpInRun old new q q')
    → (page_size : ℕ) → DrivesOne page_size old new q q' does.GiveUp (gives.GaveUp result)
give_up_result old new q q' (Ok done) err clear same free left step page_size =
    drives_one _ _ (give_up_drives page_size old new q q' clear free left step)
give_up_result old new q q' (Err e) err clear same free left step page_size =
    subst (λ (r : QueueState). DrivesOne page_size old new q r does.GiveUp (gives.GaveUp (Err e)))
    (sym same.1)
    (refuses page_size old new q does.GiveUp (gives.GaveUp (Err e)) (same_held old new same.0)
    (λ i k d d' u pop. (refl, (same_all old new same.0, refl, pop), err)))

push_at : (old new : ChainHandle) (q q' : QueueState) (front front' : List ℕ) (s : PushStores)
    (st : state.ChainState) → old.state ≡ st → HasFree st q → length front' ≡ length front
    → push_refusal old.state q (length front) ≡ None
    → IfReplied st (λ out reply. new ≡ record old { state = at.Pushing out })
    → q' ≡ record q { pushing = true }
    → IfReplied st (λ out reply. PushesBy q out reply s)
    → IfReplied st (λ out reply. front' ≡ put_front reply front)
    → PushesInRun old new q front' s
    → (page_size : ℕ) → DrivesOne page_size old new q q' does.Push (gives.Began (Ok s) front')
push_at old new q q' front front' s (at.Replied out kept) is free len ok made pushing by put step page_size =
    drives_one _ _ (push_drives page_size old new q q' front' s out kept is free
    (subst (λ (n : ℕ). push_refusal old.state q n ≡ None) (sym len) ok)
    (by, (drop (front_len kept) front, put)) made pushing step)
push_at old new q q' front front' s _ is free len ok made pushing by put step page_size = absurd free

pub push_result : (old new : ChainHandle) (q q' : QueueState) (front front' : List ℕ)
    (result : Result PushStores ChainError)
    → length front' ≡ length front
    → IfErr result (λ e. push_error (has_ring old.state old.regions) old.state q (length front) ≡ Some e)
    → OnOk result (push_refusal old.state q (length front) ≡ None)
    → OnErr result ((new ≡ old) × (front' ≡ front) × (q' ≡ q))
    → OnOk result (IfReplied old.state (λ out reply. new ≡ record old { state = at.Pushing out }))
    → OnOk result (q' ≡ record q { pushing = true })
    → IfOk result (λ s. IfReplied old.state (λ out reply. PushesBy q out reply s))
    → OnOk result (IfReplied old.state (λ out reply. front' ≡ put_front reply front))
    → IfOk result (λ s. PushesInRun old new q front' s)
    → (page_size : ℕ) → DrivesOne page_size old new q q' does.Push (gives.Began result front')
push_result old new q q' front front' (Ok s) len err ok same made pushing by put step page_size =
    push_at old new q q' front front' s old.state refl (may_push old.state q (length front) ok) len ok made
    pushing by put step page_size
push_result old new q q' front front' (Err e) len err ok same made pushing by put step page_size =
    subst (λ (r : QueueState). DrivesOne page_size old new q r does.Push (gives.Began (Err e) front'))
    (sym same.2)
    (refuses page_size old new q does.Push (gives.Began (Err e) front') (same_held old new same.0)
    (λ i k d d' u pop. (
      refl,
      (same_all old new same.0, refl, pop),
      subst (λ (n : ℕ). push_error (has_ring old.state old.regions) old.state q n ≡ Some e) (sym len) err,
    )))

-- a push that is ended
abbrev IsPushing : state.ChainState → Type 0
IsPushing (at.Pushing out) = Unit {0}
IsPushing _ = ⊥

may_end : (st : state.ChainState) (q : QueueState) → end_error st q ≡ None → IsPushing st
may_end (at.Pushing out) q is = tt
may_end _ q is = absurd (no_error WrongOrder is)

end_at : (old new : ChainHandle) (q q' : QueueState) (seen : List ℕ) (notice : Bool) (st : state.ChainState)
    → old.state ≡ st → IsPushing st → new ≡ freed old → q' ≡ gave q → q.next_used < 2 ^ 16
    → EndsPushInRun old q q' seen notice
    → (page_size : ℕ) → DrivesOne page_size old new q q' (does.Pushed seen) (gives.Ended (Ok notice))
end_at old new q q' seen notice (at.Pushing out) is begun free gives_it small step page_size =
    drives_one _ _ (end_drives page_size old new q q' seen notice out is free gives_it small step)
end_at old new q q' seen notice _ is begun free gives_it small step page_size = absurd begun

pub pushed_result : (old new : ChainHandle) (q q' : QueueState) (seen : List ℕ)
    (result : Result Bool ChainError)
    → IfErr result (λ e. end_error old.state q ≡ Some e)
    → OnOk result (end_error old.state q ≡ None)
    → OnErr result ((new ≡ old) × (q' ≡ q))
    → OnOk result (new ≡ freed old)
    → OnOk result (q' ≡ gave q)
    → q.next_used < 2 ^ 16
    → IfOk result (λ notice. EndsPushInRun old q q' seen notice)
    → (page_size : ℕ) → DrivesOne page_size old new q q' (does.Pushed seen) (gives.Ended result)
pushed_result old new q q' seen (Ok notice) err ok same free gives_it small step page_size =
    end_at old new q q' seen notice old.state refl (may_end old.state q ok) free gives_it small step page_size
pushed_result old new q q' seen (Err e) err ok same free gives_it small step page_size =
    subst (λ (r : QueueState). DrivesOne page_size old new q r (does.Pushed seen) (gives.Ended (Err e)))
    (sym same.1)
    (refuses page_size old new q (does.Pushed seen) (gives.Ended (Err e)) (same_held old new same.0)
    (λ i k d d' u pop. (refl, (same_all old new same.0, refl, pop), err)))
