-- One chain at a time: the plain machine's run for one available buffer notification.
use Rattle.std.specs.Prelude.{◌≡◌, ℕ, Bool, List, [], ◌∷◌, ◌++◌, length, map, Option, Some, None, slice_get}
use Rattle.std.specs.List.{AllByRecursion}
use Rattle.vm_memory.specs.Memory.{Memory, location}
use Rattle.fs_queue.specs.declared.fault.ChainFault.{ChainFault}
use Rattle.fs_queue.specs.Chain.{Descriptor}
use Rattle.fs_queue.specs.Returning.{Store}
use Rattle.fs_regions.specs.declared.step.CourseStep.TheVariants as step
use Rattle.fs_regions.specs.Laws.{HasLoaded}
use Rattle.fs_regions.specs.Walks.{Loaded}
use Rattle.server_meanings.specs.Serving.{May}
use Rattle.plain_machine.specs.Run.{KickRun, Turn}
use Rattle.plain_machine.specs.Step.{State, Exchange, Exchanged, Step}
use Rattle.plain_machine.specs.StepBy.{FindFlags, MayStoreLast, after_stores, stores_among}
use Rattle.live_machine.specs.Several.{LacksEventIndex, LiveQueue}
use Rattle.live_machine.specs.Live.{InFlightChain, LiveState, LiveEvent, EndsPop, DecodesRequest}
use Rattle.live_machine.specs.Live.{ReceivesAnswer, PushesChain, LiveRun, calls_in, event_acts, room_of}
use Rattle.live_machine.specs.Runs.{request_of_phase}

-- a chain from its pop to its return, with the events between
pub record Single : Type 0 where
  pub queue : ℕ
  pub loaded : Loaded
  pub descriptors : List Descriptor
  pub head : ℕ
  pub fault : Option ChainFault
  pub between : List LiveEvent
  pub chain : InFlightChain
  pub exchange : Exchange
  pub notice : Bool
  pub last : ℕ
  pub used : List Store
  pub seen : List ℕ

abbrev pub return_in : Single → LiveEvent
return_in r = PushesChain r.chain r.exchange r.notice r.last r.used r.seen

-- the chain's events: its pop, those between, and its return
abbrev pub events_in : Single → List LiveEvent
events_in r =
    EndsPop r.queue r.loaded r.descriptors (step.Chain r.head r.fault) ∷ (r.between ++ return_in r ∷ [])

-- between them the chain is decoded and answered, and nothing else happens
abbrev pub IsOfChain : LiveEvent → Type 0
IsOfChain (DecodesRequest c request decoded) = Unit {0}
IsOfChain (ReceivesAnswer c call answer) = Unit {0}
IsOfChain _ = ⊥

-- the plain machine over a memory
abbrev pub plain : {F : Type 0} → LiveState F → Memory → State F
plain s m =
    record {
      memory = m;
      queues = map (λ w. w.queue) s.queues;
      options = s.options;
      files = s.files;
      limit = s.limit;
      page_size = s.page_size;
    }

-- a queue without the event index and without chains in flight: its two positions are one
abbrev pub IsAtRest : LiveQueue → Type 0
IsAtRest w = LacksEventIndex w × (w.next_used ≡ w.queue.position)

-- one memory has the loaded bytes, the flags too, at the moment of each load, and has the run's mappings. The
-- bytes of the reply that are stored last lie apart from the rest
pub record FoundIn {F : Type 0} (m : Memory) (s : LiveState F) (r : Single) : Type 0 where
  pub places : location m ≡ location s.places
  pub loads : (w : LiveQueue) →
      slice_get s.queues r.queue ≡ Some w →
      HasLoaded m w.queue r.loaded (request_of_phase r.chain.phase)
  pub flags :
      (w : LiveQueue) →
      slice_get s.queues r.queue ≡ Some w →
      FindFlags m w.queue (event_acts (return_in r))
  pub apart : MayStoreLast m (room_of r.chain) r.last

-- such a chain is a step of the plain machine, which leaves the memory with the chain's stores in it
abbrev pub SingleIsStep : {F : Type 0} → May F → Type 0
SingleIsStep {F} may =
    (s after : LiveState F) (r : Single) (m : Memory) (w : LiveQueue) →
    s.chains ≡ [] →
    slice_get s.queues r.queue ≡ Some w →
    IsAtRest w →
    AllByRecursion IsOfChain r.between →
    LiveRun may s (events_in r) after →
    FoundIn m s r →
    Step may (plain s m) r.queue (calls_in r.chain.phase) (Exchanged r.exchange r.notice)
    (plain after (after_stores m (stores_among (event_acts (return_in r)))))
    × (after.chains ≡ [])
    × (w' : LiveQueue)
    × (slice_get after.queues r.queue ≡ Some w')
    × IsAtRest w'

-- such chains of queue i, one after another
abbrev pub SerialRun :
    {F : Type 0} → May F → ℕ → Memory → LiveState F → List Single → Memory → LiveState F → Type 0
SerialRun may i m s [] m' after = (m' ≡ m) × (after ≡ s)
SerialRun {F} may i m s (r ∷ rs) m' after =
    (mid : LiveState F)
    × (r.queue ≡ i)
    × AllByRecursion IsOfChain r.between
    × LiveRun may s (events_in r) mid
    × FoundIn m s r
    × SerialRun may i (after_stores m (stores_among (event_acts (return_in r)))) mid rs m' after

-- a chain as a turn of the plain machine
abbrev pub turn_of : Single → Turn
turn_of r = record { exchange = r.exchange; notice = r.notice; calls = calls_in r.chain.phase }

-- a serial run by loads that one memory has is the plain machine's run over it for one notification
abbrev pub SerialIsKick : {F : Type 0} → May F → Type 0
SerialIsKick {F} may =
    (s after : LiveState F) (rs : List Single) (m m' : Memory) (i : ℕ) (w : LiveQueue) →
    s.chains ≡ [] →
    slice_get s.queues i ≡ Some w →
    IsAtRest w →
    SerialRun may i m s rs m' after →
    KickRun may (plain s m) i (length rs) (map turn_of rs) None (plain after m')
