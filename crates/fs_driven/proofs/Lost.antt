-- A handle is freed: its chain stays in flight, without a handle.
use Rattle.std.proofs.Common.{inl, inr, ◌≡◌, ◌⊎◌, ℕ, Bool, true, false, List, [], ◌∷◌, ◌++◌, Option, Some, None}
use Rattle.std.proofs.Common.{◌≤◌, arith, refl, subst, suc, sym, ap, ◌∙◌, slice_get}
use Rattle.std.proofs.lemmas.List.{map-append}
use Rattle.fs_regions.specs.Places.{places_in}
use Rattle.live_machine.specs.Live.{Abandons, InFlightChain, abandoned_chain, after_abandoning, fault_of_phase}
use Rattle.live_machine.proofs.Alone.{all_both, all_left, all_right}
use Rattle.live_machine.specs.Several.{in_flight}
use Rattle.fs_chain.specs.Holds.{RunState, Pop, live_of}
use Rattle.fs_chain.specs.HoldsAround.{AbandonsInRun}
use Rattle.fs_chain.specs.Orders.{is_out}
use Rattle.fs_chain.specs.Pushes.{IsFreed}
use Rattle.fs_chain.specs.Together.{EachHasOne, HasNoneLeft, IsHeldBy, IsNot, Owned, with_handle}
use Rattle.fs_chain.specs.declared.chain_handle.ChainHandle.{ChainHandle}
use Rattle.fs_chain.specs.declared.queue.QueueState.{QueueState}
use Rattle.fs_chain.specs.declared.state.ChainState as state
use Rattle.fs_chain.specs.declared.state.ChainState.TheVariants as at
use Rattle.fs_driven.specs.declared.commands.DriverCall.TheVariants as does
use Rattle.fs_driven.specs.declared.commands.Results.TheVariants as gives
use Rattle.fs_driven.specs.Drivers.{PushUnderWay, Driven, FitsRun, HasInFlight, In, IsAbandoned, MayPop, lost, no_pop, number_of, own}
use Rattle.fs_driven.specs.Drivers.{with_pop, with_push, with_queue}
use Rattle.fs_driven.specs.Events.{AbandonEvents, DrivesOne, EventsOf, transition}
use Rattle.fs_chain.proofs.Together.{chains_of}
use Rattle.fs_driven.proofs.Counts.{number_other}
use Rattle.fs_driven.proofs.Among.{among, here, not_lost, put}
use Rattle.fs_driven.proofs.Handles.{MovesRun, each_queue, has_own, idles, leaves, others_same}
use Rattle.fs_driven.proofs.Calls.{stays_put}
use Rattle.fs_driven.proofs.QueuePlaces.{DrivenAt, DrivesAt, HasRunAt, QueuePlace, driver_after, driver_before, drives_one}
use Rattle.live_machine.proofs.Queues.{there_same}

-- ---- one more chain without a handle

abbrev IsNotOf : ℕ → Owned → Type 0
IsNotOf k o = IsNot k o.handle

none_more : (h : Option ℕ) (c : InFlightChain) (ob oh : List Owned) → HasNoneLeft h (ob ++ oh) →
    HasNoneLeft h (ob ++ lost c ∷ oh)
none_more None c ob oh none = tt
none_more (Some j) c ob oh none =
    all_both (IsNotOf j) ob (lost c ∷ oh) (all_left (IsNotOf j) ob oh none) (tt, all_right (IsNotOf j) ob oh none)

once_more : (c : InFlightChain) (ob oh : List Owned) → EachHasOne (ob ++ oh) → EachHasOne (ob ++ lost c ∷ oh)
once_more c [] oh once = (tt, once)
once_more c (o ∷ ob) oh once = (none_more o.handle c ob oh once.0, once_more c ob oh once.1)

-- the state of a run whose chains are those, and this one among them
abbrev amid_chains : RunState → (ob oh : List Owned) → InFlightChain → RunState
amid_chains s ob oh c = record s { chains = chains_of ob ++ c ∷ chains_of oh }

abbrev without_it : RunState → (ob oh : List Owned) → RunState
without_it s ob oh = record s { chains = chains_of ob ++ chains_of oh }

loses : (s : RunState) (on : List ℕ) (page_size : ℕ) (qs : List QueueState) (ws : List ChainHandle)
    (ob oh : List Owned) (c : InFlightChain) (pops : ℕ → Pop) (pushes : ℕ → Option PushUnderWay)
    → Driven (without_it s ob oh) on page_size qs ws (ob ++ oh) pops pushes → IsAbandoned qs c
    → ((i : ℕ) (q : QueueState) → slice_get qs i ≡ Some q →
    HasInFlight (live_of q) (number_of i (ob ++ lost c ∷ oh)))
    → Driven (amid_chains s ob oh c) on page_size qs ws (ob ++ lost c ∷ oh) pops pushes
loses s on page_size qs ws ob oh c pops pushes all is_lost counts =
    let held = all.all.held in
    record {
      all = record {
        chains = sym (map-append (λ (o : Owned). o.chain) ob (lost c ∷ oh));
        held = all_both (λ (o : Owned). IsHeldBy s.page_size ws o.handle o.chain) ob (lost c ∷ oh)
            (all_left (λ (o : Owned). IsHeldBy s.page_size ws o.handle o.chain) ob oh held)
            (tt, all_right (λ (o : Owned). IsHeldBy s.page_size ws o.handle o.chain) ob oh held);
        once = once_more c ob oh all.all.once;
      };
      queues = all.queues;
      page = all.page;
      small = all.small;
      mine = λ j v d there m. all.mine j v d there (its j d (among ob oh (lost c) (own j d) m));
      outs = λ j v there out.
          let was = all.outs j v there out in
          (was.0, put ob oh (lost c) (own j was.0) was.1);
      fits = all.fits;
      left = λ d m. each d (among ob oh (lost c) (lost d) m);
      still = all.still;
      counts = counts;
    }
  where
    its : (j : ℕ) (d : InFlightChain) → (own j d ≡ lost c) ⊎ In (own j d) (ob ++ oh) → In (own j d) (ob ++ oh)
    its j d (inl e) = absurd (not_lost j c d (sym e))
    its j d (inr m) = m

    each : (d : InFlightChain) → (lost d ≡ lost c) ⊎ In (lost d) (ob ++ oh) → IsAbandoned qs d
    each d (inl e) = subst (λ (o : Owned). IsAbandoned qs o.chain) (sym e) is_lost
    each d (inr m) = all.left d m

one_less : (n m : ℕ) → suc n ≤ m → n ≤ m
one_less n m less = omega arith

-- ---- abandon

-- a handle that is free now
fits_free : (s : RunState) (q : QueueState) (p : Pop) (old new : ChainHandle) → new.state ≡ at.Free →
    new.regions ≡ old.regions → new.limit ≡ old.limit
    → FitsRun s.places s.limit q p old → FitsRun s.places s.limit q no_pop new
fits_free s q p old new free regions limit was =
    (was.0 ∙ ap places_in (sym regions), was.1 ∙ sym limit, subst (λ (st : state.ChainState). MayPop s.limit q no_pop new st) (sym free) tt)

-- the next push is stored where it was, and no handle's push ends
abandoned_moves : (s : RunState) (i : QueuePlace) (page_size k : ℕ) (q : QueueState) (ws : List ChainHandle) (os : List Owned)
    (pops : ℕ → Pop) (push : Option PushUnderWay) (old new : ChainHandle) (chains : List InFlightChain)
    → DrivenAt s i page_size k q ws os pops push → slice_get ws k ≡ Some old → IsFreed old new
    → MovesRun s (record s { chains = chains }) i page_size k q q no_pop push push new
abandoned_moves s i page_size k q ws os pops push old new chains all there freed = record {
  page = refl;
  limit = refl;
  places = refl;
  queue = all.queue;
  apart = λ j other. refl;
  event = refl;
  fits = fits_free s q (pops k) old new freed.0.3 freed.0.0.0 freed.0.0.1 (all.fits old there);
  others = others_same page_size k q q push (λ head len. refl);
  still = all.still;
}

-- a chain counts as before
with_lost : (ob oh : List Owned) (k : ℕ) (c c' : InFlightChain) (j : ℕ) (r : QueueState) →
    HasInFlight (live_of r) (number_of j (ob ++ own k c ∷ oh)) → c.queue ≡ c'.queue →
    HasInFlight (live_of r) (number_of j (ob ++ lost c' ∷ oh))
with_lost ob oh k c c' j r counts same =
    subst (λ (n : ℕ). HasInFlight (live_of r) n) (number_other j ob oh (own k c) (lost c') same) counts

drops : (old new : ChainHandle) (q : QueueState) → IsFreed old new → AbandonsInRun old new
    → (page_size : ℕ) → DrivesAt page_size old new q q does.Abandon gives.Abandoned
unfolding AbandonsInRun
drops old new q freed abandons page_size ws k there u s i os pops push all = by_out (is_out old.state) refl
  where
    by_out : (b : Bool) → is_out old.state ≡ b → HasRunAt s i page_size k pops q (with_handle ws k new)
        (λ es d. EventsOf (transition i.number page_size k (driver_before s i ws os pops) d old new q q) does.Abandon u
        gives.Abandoned es)
    by_out false none = (
      [],
      s,
      os,
      no_pop,
      push,
      refl,
      idles s s i page_size q q ws os k old new no_pop pops push push all there
          (stays_put s i page_size k q q no_pop push new all.queue refl (λ head len. refl) refl all.still
          (fits_free s q (pops k) old new freed.0.3 freed.0.0.0 freed.0.0.1 (all.fits old there)))
          (λ n counts. counts) refl none (ap is_out freed.0.3),
      (λ b is. inl (sym all.under ∙ is)),
      (
        freed,
        refl,
        subst (λ (b : Bool). AbandonEvents (transition i.number page_size k (driver_before s i ws os pops)
            (driver_after s i (with_handle ws k new) q os (with_pop pops k no_pop) push) old new q q) b []) (sym none)
            refl,
      ),
    )
    by_out true some =
        let has = has_own s i page_size q ws os k old pops push all there (all.outs old there some) in
        let c = has.c in
        let e = abandons s (chains_of has.ob) (chains_of has.oh) c has.chains in
        let after : RunState = after_abandoning s (chains_of has.ob) (chains_of has.oh) c in
        let c' : InFlightChain = abandoned_chain c in
        let qs : List QueueState = with_queue i.queues i.number q in
        let pushes : ℕ → Option PushUnderWay = with_push i.pushes i.number push in
        let rest : Driven (without_it s has.ob has.oh) i.on page_size qs (with_handle ws k new) (has.ob ++ has.oh)
        (with_pop pops k no_pop) pushes =
        leaves s (without_it s has.ob has.oh) i page_size q q ws has.ob has.oh k old new c no_pop pops push push
        has.driven there (abandoned_moves s i page_size k q ws os pops push old new
        (chains_of has.ob ++ chains_of has.oh) all there freed)
        (λ n counts few small. one_less n (in_flight (live_of q)) (counts few small))
        refl (ap is_out freed.0.3) in
        let there_now : slice_get qs c.queue ≡ Some q =
        there_same i.queues i.number c.queue (λ _. q) q (sym has.mine.0)
        (ap (λ (n : ℕ). slice_get i.queues n) has.mine.0 ∙ all.there) in (
          Abandons c ∷ [],
          after,
          has.ob ++ lost c' ∷ has.oh,
          no_pop,
          push,
          (after, e.0, refl),
          loses s i.on page_size qs (with_handle ws k new) has.ob has.oh c' (with_pop pops k no_pop) pushes rest
              (q, there_now, fault_of_phase c.phase, refl)
              (each_queue i.queues i.number q q
              (λ j r. HasInFlight (live_of r) (number_of j (has.ob ++ lost c' ∷ has.oh))) all.there
              (with_lost has.ob has.oh k c c' i.number q (has.driven.whole.counts i.number q all.there) refl)
              (λ j r apart is. with_lost has.ob has.oh k c c' j r (has.driven.whole.counts j r is) refl)),
          (λ b is. inl (sym all.under ∙ is)),
          (
            freed,
            refl,
            subst (λ (b : Bool). AbandonEvents (transition i.number page_size k (driver_before s i ws os pops)
                (driver_after after i (with_handle ws k new) q (has.ob ++ lost c' ∷ has.oh) (with_pop pops k no_pop) push)
                old new q q) b (Abandons c ∷ [])) (sym some)
                (c, has.is_in, refl, here has.ob has.oh (lost c')),
          ),
        )

pub abandoned : (old new : ChainHandle) (q : QueueState) → IsFreed old new → AbandonsInRun old new
    → (page_size : ℕ) → DrivesOne page_size old new q q does.Abandon gives.Abandoned
abandoned old new q freed abandons page_size = drives_one _ _ (drops old new q freed abandons page_size)
