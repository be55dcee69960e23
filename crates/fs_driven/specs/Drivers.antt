-- A driver of several handles over several queues of a run: its calls, one behind another, are a run of the
-- live machine, and the run's events have what the calls returned.
use Rattle.std.specs.Prelude.{◌≡◌, ◌⊎◌, ◌≤◌, ◌<◌, ◌^◌, ◌==◌, ◌++◌, ℕ, true, false, List, [], ◌∷◌}
use Rattle.std.specs.Prelude.{Option, Some, None, suc, if◌then◌else◌, length, slice_get, take}
use Rattle.vm_memory_core.specs.Host.{changed_at}
use Rattle.vm_memory.specs.Memory.{Memory}
use Rattle.fs_queue.specs.declared.fault.ChainFault.{ChainFault}
use Rattle.fs_queue.specs.Returning.{stores_after_reply}
use Rattle.fs_queue.specs.ReturningView.{stores_of}
use Rattle.fs_regions.specs.Places.{places_in}
use Rattle.plain_machine.specs.Step.{Exchange}
use Rattle.live_machine.specs.Several.{LiveQueue, in_flight, returning}
use Rattle.live_machine.specs.Live.{Abandoned, InFlightChain, LiveEvent, LiveRun, PushedWith}
use Rattle.fs_chain.specs.Holds.{HoldsPop, IsPopOf, IsRunQueue, IsUnanswered, RunState, Pop, any_files}
use Rattle.fs_chain.specs.Holds.{live_of}
pub use Rattle.fs_chain.specs.Holds.{no_pop}
use Rattle.fs_chain.specs.Orders.{is_out}
use Rattle.fs_chain.specs.Together.{Owned, Together}
use Rattle.fs_chain.specs.declared.chain_handle.ChainHandle.{ChainHandle}
use Rattle.fs_chain.specs.declared.pushing.PushStores.{PushStores}
use Rattle.fs_chain.specs.declared.queue.QueueState.{QueueState}
use Rattle.fs_chain.specs.declared.state.ChainState as state
use Rattle.fs_chain.specs.declared.state.ChainState.TheVariants as at

-- one of these chains
abbrev pub In : Owned → List Owned → Type 0
In o [] = ⊥
In o (x ∷ xs) = (o ≡ x) ⊎ In o xs

-- the chain of handle k
abbrev pub own : ℕ → InFlightChain → Owned
own k c = record { handle = Some k; chain = c }

-- a chain whose handle was freed
abbrev pub lost : InFlightChain → Owned
lost c = record { handle = None; chain = c }

-- it is one of these queues, and nothing more is done with it
abbrev pub IsAbandoned : List QueueState → InFlightChain → Type 0
IsAbandoned qs c =
    (q : QueueState)
    × (slice_get qs c.queue ≡ Some q)
    × (fault : Option ChainFault)
    × (c.phase ≡ Abandoned fault)

-- a push under way: its handle, the stores that it returned, and the buffer with the reply's front
pub record PushUnderWay : Type 0 where
  pub handle : ℕ
  pub stores : PushStores
  pub front : List ℕ

-- the stores and the front are those of this exchange, at the queue's next used position
abbrev pub IsPushOf : QueueState → InFlightChain → Exchange → PushUnderWay → Type 0
IsPushOf q c x b =
    (stores_of b.stores.used ≡ stores_after_reply (returning (live_of q)) c.head (length x.reply))
    × (behind : List ℕ)
    × (x.reply ≡ take b.stores.front_len b.front ++ behind)

-- the push under way is handle k's, of this exchange
abbrev pub IsUnderWay : ℕ → QueueState → InFlightChain → Exchange → Option PushUnderWay → Type 0
IsUnderWay k q c x None = ⊥
IsUnderWay k q c x (Some b) = (b.handle ≡ k) × IsPushOf q c x b

-- a chain whose reply is known can be pushed: each of its calls was answered. One that lists has no entry,
-- and no call of it was answered
abbrev pub CanBePushed :
    (page_size k : ℕ) → QueueState → Option PushUnderWay → InFlightChain → state.ChainState → Type 0
CanBePushed page_size k q push c (at.Replied out kept) = (x : Exchange) × PushedWith page_size c c.phase x
CanBePushed page_size k q push c (at.Pushing out) =
    (x : Exchange) × PushedWith page_size c c.phase x × IsUnderWay k q c x push
CanBePushed page_size k q push c (at.Listing out listing) = IsUnanswered c.phase (at.Listing out listing)
CanBePushed page_size k q push c _ = Unit {0}

-- a pop that is under way has these loads, which lead to it
abbrev pub MayPop : (limit : ℕ) → QueueState → Pop → ChainHandle → state.ChainState → Type 0
MayPop limit q p w (at.Popping course pop_id walk) = HoldsPop limit p w × IsPopOf q p
MayPop limit q p w _ = Unit {0}

-- a handle over the run's memory
abbrev pub FitsRun : Memory → (limit : ℕ) → QueueState → Pop → ChainHandle → Type 0
FitsRun places limit q p w =
    (places ≡ places_in w.regions) × (limit ≡ w.limit) × MayPop limit q p w w.state

-- the loads of the handles' pops, once handle k has made those
abbrev pub with_pop : (ℕ → Pop) → ℕ → Pop → ℕ → Pop
with_pop pops k p j = if k == j then p else pops j

-- the pushes under way, once this is queue i's
abbrev pub with_push : (ℕ → Option PushUnderWay) → ℕ → Option PushUnderWay → ℕ → Option PushUnderWay
with_push pushes i push j = if i == j then push else pushes j

-- the queues, once this is queue i
abbrev pub with_queue : List QueueState → ℕ → QueueState → List QueueState
with_queue qs i q = changed_at qs i (λ _. q)

-- how many of these chains are of queue i
abbrev pub number_of : ℕ → List Owned → ℕ
number_of i [] = 0
number_of i (o ∷ os) = if o.chain.queue == i then suc (number_of i os) else number_of i os

-- at least n chains of a queue are in flight. Its numbers have 16 bits
abbrev pub HasInFlight : LiveQueue → (n : ℕ) → Type 0
HasInFlight w n = w.max_in_flight < 2 ^ 16 → w.next_used < 2 ^ 16 → n ≤ in_flight w

-- queue i of the list is queue i of the run, which may have more
abbrev pub AreQueues : RunState → List QueueState → Type 0
AreQueues s qs = (i : ℕ) (q : QueueState) → slice_get qs i ≡ Some q → IsRunQueue s i q

-- handle k's chain is of its queue, and can be pushed once its reply is known
abbrev pub IsItsOwn : (on : List ℕ) → (page_size : ℕ) → List QueueState → (pushes : ℕ → Option PushUnderWay) →
    (k : ℕ) → InFlightChain → state.ChainState → Type 0
IsItsOwn on page_size qs pushes k c st =
    (slice_get on k ≡ Some c.queue)
    × (q : QueueState)
    × (slice_get qs c.queue ≡ Some q)
    × CanBePushed page_size k q (pushes c.queue) c st

-- the handles hold the chains of a run, each those of its queue, but those whose handle was freed, and no
-- others. `on`: the number of each handle's queue. No FORGET is owed
pub record Driven (s : RunState) (on : List ℕ) (page_size : ℕ) (qs : List QueueState) (ws : List ChainHandle)
    (os : List Owned) (pops : ℕ → Pop) (pushes : ℕ → Option PushUnderWay) : Type 0 where
  pub all : Together s ws os
  pub queues : AreQueues s qs
  pub page : s.page_size ≡ page_size
  pub small : s.limit ≤ 2 ^ 31
  pub mine : (k : ℕ) (w : ChainHandle) (c : InFlightChain) → slice_get ws k ≡ Some w → In (own k c) os →
      IsItsOwn on page_size qs pushes k c w.state
  pub outs : (k : ℕ) (w : ChainHandle) → slice_get ws k ≡ Some w → is_out w.state ≡ true →
      (c : InFlightChain) × In (own k c) os
  pub fits : (k : ℕ) (w : ChainHandle) (i : ℕ) (q : QueueState) → slice_get ws k ≡ Some w →
      slice_get on k ≡ Some i → slice_get qs i ≡ Some q → FitsRun s.places s.limit q (pops k) w
  pub left : (c : InFlightChain) → In (lost c) os → IsAbandoned qs c
  pub still : (i : ℕ) (q : QueueState) → slice_get qs i ≡ Some q → q.pushing ≡ false → pushes i ≡ None
  pub counts : (i : ℕ) (q : QueueState) → slice_get qs i ≡ Some q → HasInFlight (live_of q) (number_of i os)

-- what a driver has of a run: its state, the handles and the queues, the chain of each handle, the loads of
-- its pop, and the push under way of each queue
pub record Driver : Type 0 where
  pub run : RunState
  pub handles : List ChainHandle
  pub queues : List QueueState
  pub owned : List Owned
  pub pops : ℕ → Pop
  pub pushes : ℕ → Option PushUnderWay

abbrev pub driver :
    RunState → List ChainHandle → List QueueState → List Owned → (ℕ → Pop) → (ℕ → Option PushUnderWay) →
    Driver
driver s ws qs os pops pushes =
    record { run = s; handles = ws; queues = qs; owned = os; pops = pops; pushes = pushes }

-- events lead to a state of which the handles hold the chains. They are those of the calls' results, if T
-- says so
abbrev pub HasRun : RunState → (on : List ℕ) → (page_size : ℕ) → List QueueState → List ChainHandle →
    (T : List LiveEvent → Driver → Type 0) → Type 0
HasRun s on page_size qs ws T =
    (es : List LiveEvent)
    × (after : RunState)
    × (os : List Owned)
    × (pops : ℕ → Pop)
    × (pushes : ℕ → Option PushUnderWay)
    × LiveRun any_files s es after
    × Driven after on page_size qs ws os pops pushes
    × T es (driver after ws qs os pops pushes)

-- a push under way stays, unless it is handle k's own and has ended
abbrev pub KeepsPush : (k : ℕ) → (was now : Option PushUnderWay) → Type 0
KeepsPush k was now = (b : PushUnderWay) → was ≡ Some b → (now ≡ Some b) ⊎ ((b.handle ≡ k) × (now ≡ None))

-- the same of a call of handle k and queue i: each other handle's pop, and each other queue's push under way,
-- is as it was. So is another handle's push of this queue
abbrev pub HasRunBy : RunState → (on : List ℕ) → (page_size : ℕ) → List QueueState → List ChainHandle →
    (k : ℕ) → (pops : ℕ → Pop) → (i : ℕ) → (pushes : ℕ → Option PushUnderWay) →
    (T : List LiveEvent → Driver → Type 0) → Type 0
HasRunBy s on page_size qs ws k pops i pushes T =
    (es : List LiveEvent)
    × (after : RunState)
    × (os : List Owned)
    × (pop : Pop)
    × (push : Option PushUnderWay)
    × LiveRun any_files s es after
    × Driven after on page_size qs ws os (with_pop pops k pop) (with_push pushes i push)
    × KeepsPush k (pushes i) push
    × T es (driver after ws qs os (with_pop pops k pop) (with_push pushes i push))

-- these events lead from one state of the driver to another, where the handles hold the run's chains
abbrev pub RunsTo : (on : List ℕ) → (page_size : ℕ) → (d d' : Driver) → List LiveEvent → Type 0
RunsTo on page_size d d' es =
    LiveRun any_files d.run es d'.run
    × Driven d'.run on page_size d'.queues d'.handles d'.owned d'.pops d'.pushes

-- ---- the beginning

-- free handles over the run's memory, while no chain is in flight
abbrev pub BeginsDriven : Type 0
BeginsDriven =
    (s : RunState) (on : List ℕ) (page_size : ℕ) (qs : List QueueState) (ws : List ChainHandle) →
    s.chains ≡ [] →
    AreQueues s qs →
    s.page_size ≡ page_size →
    s.limit ≤ 2 ^ 31 →
    ((k : ℕ) (w : ChainHandle) → slice_get ws k ≡ Some w →
    (w.state ≡ at.Free) × (s.places ≡ places_in w.regions) × (s.limit ≡ w.limit)) →
    Driven s on page_size qs ws [] (λ _. no_pop) (λ _. None)
