-- New memory drives the run: handles of it take regions while no chain is in flight.
use Rattle.std.proofs.Common.{inl, ◌≡◌, ◌≤◌, ◌<◌, ◌^◌, ℕ, zero, suc, Bool, true, false, List, [], ◌∷◌, Err, IfErr, Ok, OnErr, OnOk, Result}
use Rattle.std.proofs.Common.{if◌then◌else◌, map, Option, Some, None, arith, length, refl, subst, sym, ap, ◌∙◌, slice_get, zero-le}
use Rattle.std.specs.Borrow.{Bor}
use Rattle.std.specs.Global.{Global}
use Rattle.std.specs.List.{AllByRecursion}
use Rattle.vm_memory.specs.Memory.{Memory}
use Rattle.vm_memory.specs.Layout.{Region}
use Rattle.fs_regions.specs.Places.{places_in, untranslated}
use Rattle.live_machine.specs.Live.{InFlightChain, KeepsQueue, Remaps, RemapsSo}
use Rattle.live_machine.proofs.Queues.{none_some, same_some}
use Rattle.fs_chain.specs.Holds.{RunState, Pop}
use Rattle.fs_chain.specs.Orders.{is_out}
use Rattle.fs_chain.specs.Queues.{in_flight}
use Rattle.fs_chain.specs.Together.{IsHeldBy, Owned}
use Rattle.fs_chain.specs.declared.chain_handle.ChainHandle.{ChainHandle}
use Rattle.fs_chain.specs.declared.error.ChainError.{ChainError}
use Rattle.fs_chain.specs.declared.error.ChainError.TheVariants as error
use Rattle.fs_chain.specs.declared.queue.QueueState.{QueueState}
use Rattle.fs_chain.specs.declared.state.ChainState.TheVariants as at
use Rattle.fs_driven.specs.declared.commands.DriverCall.TheVariants as does
use Rattle.fs_driven.specs.declared.commands.Results.TheVariants as gives
use Rattle.fs_driven.specs.Drivers.{PushUnderWay, Driven, FitsRun, number_of}
use Rattle.fs_driven.specs.NewMemory.{HaveNone, IsErrorOf, TakeMemory, TakesMemory, are_idle, handles_error, remap_error}
use Rattle.fs_driven.specs.Events.{Drives, DrivesOne, call_of}
use Rattle.fs_driven.proofs.Calls.{refuses, same_held}
use Rattle.fs_driven.proofs.Counts.{number_one}
use Rattle.fs_driven.proofs.Handles.{not_free}
use Rattle.fs_driven.proofs.Pops.{idle_may}
use Rattle.fs_driven.proofs.Resets.{none_of_queue, one_of_queue}

-- ---- no chain is in flight

-- none of a queue is, by its numbers of 16 bits
abbrev IsEmptyQueue : QueueState → Type 0
IsEmptyQueue q = (in_flight q ≡ 0) × (q.max_in_flight < 2 ^ 16) × (q.next_used < 2 ^ 16)

has_none : (qs : List QueueState) (i : ℕ) (q : QueueState) → HaveNone qs → slice_get qs i ≡ Some q → IsEmptyQueue q
has_none [] i q none there = absurd (none_some q there)
has_none (p ∷ qs) zero q none there =
    subst (λ (x : QueueState). IsEmptyQueue x) (same_some p q there) (none.0, none.1, none.2)
has_none (p ∷ qs) (suc i) q none there = has_none qs i q none.4 there

-- the queue of a run's first chain
abbrev HasQueue : List QueueState → Owned → Type 0
HasQueue qs o = (q : QueueState) × (slice_get qs o.chain.queue ≡ Some q)

first_queue : (s : RunState) (on : List ℕ) (page_size : ℕ) (qs : List QueueState) (ws : List ChainHandle) (o : Owned)
    (os : List Owned) (pops : ℕ → Pop) (pushes : ℕ → Option PushUnderWay) (h : Option ℕ)
    → Driven s on page_size qs ws (o ∷ os) pops pushes → o.handle ≡ h → IsHeldBy s.page_size ws h o.chain
    → HasQueue qs o
first_queue s on page_size qs ws o os pops pushes None all is held =
    let left = all.left o.chain (inl (ap (λ (h : Option ℕ). record { handle = h; chain = o.chain }) (sym is))) in
    (left.0, left.1)
first_queue s on page_size qs ws o os pops pushes (Some k) all is held =
    let mine = all.mine k held.0 o.chain held.1
    (inl (ap (λ (h : Option ℕ). record { handle = h; chain = o.chain }) (sym is))) in
    (mine.1, mine.2)

none_owned : (s : RunState) (on : List ℕ) (page_size : ℕ) (qs : List QueueState) (ws : List ChainHandle) (os : List Owned)
    (pops : ℕ → Pop) (pushes : ℕ → Option PushUnderWay) → Driven s on page_size qs ws os pops pushes → HaveNone qs → os ≡ []
none_owned s on page_size qs ws [] pops pushes all none = refl
none_owned s on page_size qs ws (o ∷ os) pops pushes all none =
    let q = first_queue s on page_size qs ws o os pops pushes o.handle all refl all.all.held.0 in
    let has = has_none qs o.chain.queue q.0 none q.1 in
    let few : number_of o.chain.queue (o ∷ os) ≤ 0 =
    subst (λ (n : ℕ). number_of o.chain.queue (o ∷ os) ≤ n) has.0 (all.counts o.chain.queue q.0 q.1 has.1 has.2) in
    let one = number_one o.chain.queue [] os o refl in
    absurd (omega (arith, few, one))

-- a run without chains
pub record Empty (s : RunState) (os : List Owned) : Type 0 where
  pub owned : os ≡ []
  pub chains : s.chains ≡ []

pub is_empty : (s : RunState) (on : List ℕ) (page_size : ℕ) (qs : List QueueState) (ws : List ChainHandle) (os : List Owned)
    (pops : ℕ → Pop) (pushes : ℕ → Option PushUnderWay) → Driven s on page_size qs ws os pops pushes → HaveNone qs → Empty s os
is_empty s on page_size qs ws os pops pushes all none =
    let owned = none_owned s on page_size qs ws os pops pushes all none in
    record { owned = owned; chains = all.all.chains ∙ ap (λ (l : List Owned). map (λ (o : Owned). o.chain) l) owned }

-- ---- handles that take memory

-- a handle that took the memory, and the one in its place before
pub record Took (regions : List Region) (olds : List ChainHandle) (k : ℕ) (new : ChainHandle) : Type 0 where
  pub old : ChainHandle
  pub there : slice_get olds k ≡ Some old
  pub takes : TakesMemory regions old new

pub took : (regions : List Region) (olds news : List ChainHandle) (k : ℕ) (new : ChainHandle)
    → TakeMemory regions olds news → slice_get news k ≡ Some new → Took regions olds k new
took regions [] [] k new all there = absurd (none_some new there)
took regions (w ∷ olds) (v ∷ news) zero new all there =
    record { old = w; there = refl; takes = subst (λ (x : ChainHandle). TakesMemory regions w x) (same_some v new there) all.0 }
took regions (w ∷ olds) (v ∷ news) (suc k) new all there =
    let r = took regions olds news k new all.1 there in
    record { old = r.old; there = r.there; takes = r.takes }
took regions _ _ k new all there = absurd all

pub is_free : (regions : List Region) (ws ws' : List ChainHandle) (k : ℕ) (new : ChainHandle)
    → TakeMemory regions ws ws' → slice_get ws' k ≡ Some new → new.state ≡ at.Free
is_free regions ws ws' k new takes there =
    let r = took regions ws ws' k new takes there in r.takes.3 ∙ r.takes.0

pub fits_new : (s : RunState) (on : List ℕ) (page_size : ℕ) (qs : List QueueState) (ws ws' : List ChainHandle)
    (os : List Owned) (pops : ℕ → Pop) (pushes : ℕ → Option PushUnderWay) (regions : List Region) (k : ℕ) (new : ChainHandle)
    (i : ℕ) (q q' : QueueState)
    → Driven s on page_size qs ws os pops pushes → TakeMemory regions ws ws' → slice_get ws' k ≡ Some new
    → slice_get on k ≡ Some i → slice_get qs i ≡ Some q
    → FitsRun (places_in (untranslated regions)) s.limit q' (pops k) new
fits_new s on page_size qs ws ws' os pops pushes regions k new i q q' all takes there number at =
    let r = took regions ws ws' k new takes there in (
      ap places_in (sym r.takes.1),
      (all.fits k r.old i q r.there number at).1 ∙ sym r.takes.2,
      idle_may s.limit q' (pops k) new (r.takes.3 ∙ r.takes.0),
    )

remapped : (ws ws' : List ChainHandle) (qs : List QueueState) (alloc : Global) (regions : Bor (List Region))
    → HaveNone qs → remap_error ws qs regions.now ≡ None → TakeMemory regions.now ws ws'
    → (on : List ℕ) (page_size k : ℕ)
    → Drives on page_size ws ws' qs qs (call_of k (does.Remap alloc regions) (gives.Remapped (Ok tt)) ∷ [])
remapped ws ws' qs alloc regions idle clear takes on page_size k =
    one_of_queue on page_size k ws ws' qs qs (does.Remap alloc regions) (gives.Remapped (Ok tt))
    (λ s os pops pushes all.
    let none = is_empty s on page_size qs ws os pops pushes all idle in
    let after : RunState = record s { places = m } in
    let e : RemapsSo s m after = record {
      keeps = subst (λ (cs : List InFlightChain). AllByRecursion (KeepsQueue s m) cs) (sym none.chains) tt;
      state = refl;
    } in (
      Remaps m ∷ [],
      after,
      [],
      pops,
      pushes,
      (after, e, refl),
      record {
        all = record { chains = none.chains; held = tt; once = tt };
        queues = all.queues;
        page = all.page;
        small = all.small;
        mine = λ j w c there is. absurd is;
        outs = λ j w there out. absurd (not_free (is_out w.state) out
            (ap is_out (is_free regions.now ws ws' j w takes there)));
        fits = λ j w i q there number at.
            fits_new s on page_size qs ws ws' os pops pushes regions.now j w i q q all takes there number at;
        left = λ c is. absurd is;
        still = all.still;
        counts = λ i q at few small. zero-le;
      },
      (refl, clear, takes, refl, none.owned, refl),
    ))
  where
    m : Memory
    m = places_in (untranslated regions.now)

pub remap_result : (ws ws' : List ChainHandle) (qs : List QueueState) (alloc : Global) (regions : Bor (List Region))
    (result : Result (Unit {0}) ChainError)
    → OnOk result (TakeMemory regions.now ws ws')
    → OnOk result (HaveNone qs)
    → OnOk result (remap_error ws qs regions.now ≡ None)
    → IfErr result (IsErrorOf (remap_error ws qs regions.now) (length regions.now))
    → OnErr result (ws' ≡ ws)
    → (on : List ℕ) (page_size k : ℕ)
    → Drives on page_size ws ws' qs qs (call_of k (does.Remap alloc regions) (gives.Remapped result) ∷ [])
remap_result ws ws' qs alloc regions (Ok done) takes none clear err same on page_size k =
    remapped ws ws' qs alloc regions none clear takes on page_size k
remap_result ws ws' qs alloc regions (Err e) takes none clear err same on page_size k =
    subst (λ (l : List ChainHandle). Drives on page_size ws l qs qs
    (call_of k (does.Remap alloc regions) (gives.Remapped (Err e)) ∷ [])) (sym same)
    (none_of_queue on page_size k ws qs (does.Remap alloc regions) (gives.Remapped (Err e))
    (λ s os pops pushes. (refl, refl, err)))

-- ---- its errors

abbrev error_at : List ChainHandle → List Region → Bool → Option ChainError
error_at ws regions b = if b then handles_error ws regions else Some error.ChainInFlight

pub busy : (ws : List ChainHandle) (qs : List QueueState) (regions : List Region) (n : ℕ) → are_idle qs ≡ false
    → IsErrorOf (remap_error ws qs regions) n error.ChainInFlight
busy ws qs regions n is = inl (ap (λ (b : Bool). error_at ws regions b) is)

pub idle : (ws : List ChainHandle) (qs : List QueueState) (regions : List Region) → are_idle qs ≡ true
    → handles_error ws regions ≡ None → remap_error ws qs regions ≡ None
idle ws qs regions is ok = ap (λ (b : Bool). error_at ws regions b) is ∙ ok

pub fails : (ws : List ChainHandle) (qs : List QueueState) (regions : List Region) (n : ℕ) (e : ChainError)
    → are_idle qs ≡ true → IsErrorOf (handles_error ws regions) n e → IsErrorOf (remap_error ws qs regions) n e
fails ws qs regions n e is why =
    subst (λ (o : Option ChainError). IsErrorOf o n e) (sym (ap (λ (b : Bool). error_at ws regions b) is)) why

-- for one handle alone it isn't set
pub no_memory_of_one : (old new : ChainHandle) (q : QueueState) → new ≡ old
    → (page_size : ℕ) (alloc : Global) (regions : Bor (List Region))
    → DrivesOne page_size old new q q (does.Remap alloc regions) gives.NotOfOne
no_memory_of_one old new q same page_size alloc regions =
    refuses page_size old new q (does.Remap alloc regions) gives.NotOfOne (same_held old new same)
    (λ i k d d' u pop. (refl, (same, refl, pop)))
