-- A queue of a driver among its others: what a call of one of its handles needs of them all.
use Rattle.std.proofs.Common.{◌≡◌, ◌≤◌, ◌^◌, ℕ, Bool, true, false, List, Option, Some, None, slice_get, if◌then◌else◌, ◌==◌, eq-eqb}
use Rattle.std.proofs.Common.{eqb-true, refl, subst, sym, ap, ◌∙◌}
use Rattle.live_machine.specs.Live.{InFlightChain, LiveEvent}
use Rattle.live_machine.proofs.Queues.{same_some}
use Rattle.fs_chain.specs.Holds.{IsRunQueue, RunState, Pop}
use Rattle.fs_chain.specs.Orders.{is_out}
use Rattle.fs_chain.specs.Together.{Owned, Together, with_handle}
use Rattle.fs_chain.specs.declared.chain_handle.ChainHandle.{ChainHandle}
use Rattle.fs_chain.specs.declared.queue.QueueState.{QueueState}
use Rattle.fs_driven.specs.Drivers.{PushUnderWay, Driver, Driven, FitsRun, In, CanBePushed, HasRunBy, driver, own, with_pop, with_push}
use Rattle.fs_driven.specs.Drivers.{with_queue}
use Rattle.fs_driven.specs.Events.{DrivesOne, EventsOf, Unseen, transition}
use Rattle.fs_driven.specs.declared.commands.DriverCall.{DriverCall}
use Rattle.fs_driven.specs.declared.commands.Results.{Results}

-- a queue's number, and what the driver has of all queues before a call
pub record QueuePlace : Type 0 where
  pub number : ℕ
  pub on : List ℕ
  pub queues : List QueueState
  pub pushes : ℕ → Option PushUnderWay

-- the driver's state before the call, and after it
abbrev pub driver_before : RunState → QueuePlace → List ChainHandle → List Owned → (ℕ → Pop) → Driver
driver_before s i ws os pops = driver s ws i.queues os pops i.pushes

abbrev pub driver_after :
    RunState → QueuePlace → List ChainHandle → QueueState → List Owned → (ℕ → Pop) → Option PushUnderWay → Driver
driver_after s i ws q os pops push =
    driver s ws (with_queue i.queues i.number q) os pops (with_push i.pushes i.number push)

-- what a driver has, for its handle k of this queue, whose push under way is this
pub record DrivenAt (s : RunState) (i : QueuePlace) (page_size k : ℕ) (q : QueueState) (ws : List ChainHandle)
    (os : List Owned) (pops : ℕ → Pop) (push : Option PushUnderWay) : Type 0 where
  pub whole : Driven s i.on page_size i.queues ws os pops i.pushes
  pub number : slice_get i.on k ≡ Some i.number
  pub there : slice_get i.queues i.number ≡ Some q
  pub under : i.pushes i.number ≡ push
  pub all : Together s ws os
  pub queue : IsRunQueue s i.number q
  pub page : s.page_size ≡ page_size
  pub small : s.limit ≤ 2 ^ 31
  pub mine : (w : ChainHandle) (c : InFlightChain) → slice_get ws k ≡ Some w → In (own k c) os →
      (c.queue ≡ i.number) × CanBePushed page_size k q push c w.state
  pub outs : (w : ChainHandle) → slice_get ws k ≡ Some w → is_out w.state ≡ true →
      (c : InFlightChain) × In (own k c) os
  pub fits : (w : ChainHandle) → slice_get ws k ≡ Some w → FitsRun s.places s.limit q (pops k) w
  pub still : q.pushing ≡ false → push ≡ None

driven_at : (s : RunState) (i : QueuePlace) (page_size k : ℕ) (q : QueueState) (ws : List ChainHandle)
    (os : List Owned) (pops : ℕ → Pop) → slice_get i.on k ≡ Some i.number
    → slice_get i.queues i.number ≡ Some q → Driven s i.on page_size i.queues ws os pops i.pushes
    → DrivenAt s i page_size k q ws os pops (i.pushes i.number)
driven_at s i page_size k q ws os pops number there whole = record {
  whole = whole;
  number = number;
  there = there;
  under = refl;
  all = whole.all;
  queue = whole.queues i.number q there;
  page = whole.page;
  small = whole.small;
  mine = λ w c at_k m.
      let its = whole.mine k w c at_k m in
      let is : c.queue ≡ i.number = same_some c.queue i.number (sym its.0 ∙ number) in
      let same : its.1 ≡ q =
      same_some its.1 q (sym its.2 ∙ ap (λ (n : ℕ). slice_get i.queues n) is ∙ there) in (
        is,
        subst (λ (n : ℕ). CanBePushed page_size k q (i.pushes n) c w.state) is
            (subst (λ (r : QueueState). CanBePushed page_size k r (i.pushes c.queue) c w.state) same its.3),
      );
  outs = λ w at_k out. whole.outs k w at_k out;
  fits = λ w at_k. whole.fits k w i.number q at_k number there;
  still = whole.still i.number q there;
}

abbrev pub HasRunAt : RunState → QueuePlace → (page_size k : ℕ) → (ℕ → Pop) → QueueState → List ChainHandle →
    (T : List LiveEvent → Driver → Type 0) → Type 0
HasRunAt s i page_size k pops q ws T =
    HasRunBy s i.on page_size (with_queue i.queues i.number q) ws k pops i.number i.pushes T

-- a call of a handle of this queue is a step of the run
abbrev pub DrivesAt : (page_size : ℕ) → (w new : ChainHandle) → (q q' : QueueState) → DriverCall → Results →
    Type 0
DrivesAt page_size w new q q' command returned =
    (ws : List ChainHandle) (k : ℕ) → slice_get ws k ≡ Some w →
    (u : Unseen) (s : RunState) (i : QueuePlace) (os : List Owned) (pops : ℕ → Pop) (push : Option PushUnderWay) →
    DrivenAt s i page_size k q ws os pops push →
    HasRunAt s i page_size k pops q' (with_handle ws k new)
    (λ es d. EventsOf (transition i.number page_size k (driver_before s i ws os pops) d w new q q') command u returned es)

pub drives_one : {page_size : ℕ} {w new : ChainHandle} {q q' : QueueState} (command : DriverCall)
    (returned : Results) → DrivesAt page_size w new q q' command returned
    → DrivesOne page_size w new q q' command returned
unfolding DrivesOne
drives_one {page_size} {w} {new} {q} {q'} command returned drives ws k there on qs i number is u s os pops pushes all =
    let queue_place : QueuePlace = record { number = i; on = on; queues = qs; pushes = pushes } in
    drives ws k there u s queue_place os pops (pushes i) (driven_at s queue_place page_size k q ws os pops number is all)

pub with_pop_same : (pops : ℕ → Pop) (k : ℕ) (p : Pop) → with_pop pops k p k ≡ p
with_pop_same pops k p = ap (λ (b : Bool). if b then p else pops k) (eq-eqb k k refl)

-- the pushes under way, once one of them is another
pub push_here : (pushes : ℕ → Option PushUnderWay) (i : ℕ) (push : Option PushUnderWay) → with_push pushes i push i ≡ push
push_here pushes i push = ap (λ (b : Bool). if b then push else pushes i) (eq-eqb i i refl)

pub push_apart : (pushes : ℕ → Option PushUnderWay) (i j : ℕ) (push : Option PushUnderWay) → (i ≡ j → ⊥) →
    with_push pushes i push j ≡ pushes j
push_apart pushes i j push apart = by_test (i == j) refl
  where
    by_test : (b : Bool) → (i == j) ≡ b → with_push pushes i push j ≡ pushes j
    by_test true is = absurd (apart (eqb-true i j is))
    by_test false is = ap (λ (b : Bool). if b then push else pushes j) is
