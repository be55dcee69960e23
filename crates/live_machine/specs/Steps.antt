-- Events of a run as steps of the plain machine: a pop without a chain, by its loads; and a returned chain,
-- over a memory that has its loads.
use Rattle.std.specs.Prelude.{◌≡◌, ℕ, Bool, All, List, [], ◌∷◌, ◌++◌, Some, slice_get}
use Rattle.vm_memory.specs.Memory.{Memory, bytes, location}
use Rattle.fs_queue.specs.Chain.{Descriptor}
use Rattle.fs_queue.specs.Loads.{Load}
use Rattle.fs_queue.specs.Queue.{Queue}
use Rattle.fs_queue.specs.Returning.{Store, wants_notice}
use Rattle.fs_queue.specs.Taking.{after_refusal}
use Rattle.fs_regions.specs.declared.step.CourseStep as comes
use Rattle.fs_regions.specs.declared.step.CourseStep.TheVariants as step
use Rattle.fs_regions.specs.Laws.{HasLoaded}
use Rattle.fs_regions.specs.Walks.{IsLost, Loaded, RingIsAsked}
use Rattle.fuse_fs.specs.Calls.{FileRun}
use Rattle.server_meanings.specs.Serving.{May}
use Rattle.plain_machine.specs.declared.error.DeviceError.TheVariants as device
use Rattle.plain_machine.specs.Step.{State, StepEnd, Idle, Refused, Exchange, Exchanged, Step, with_queue}
use Rattle.plain_machine.specs.StepBy.{Effects, MayStoreLast, StepLoads, StepBy, after_stores, stores_among}
use Rattle.live_machine.specs.Live.{InFlightChain, LiveState, LiveEvent, EndsPop, PushesChain, Happens}
use Rattle.live_machine.specs.Live.{LiveRun, LoadsAreMapped, calls_in, event_acts, room_of}
use Rattle.live_machine.specs.Runs.{IsAStep, IsBefore, IsServedPhase, after_alone, request_of_phase}
use Rattle.live_machine.specs.Several.{LacksEventIndex, LiveQueue, returning, seen_at}

-- ---- a pop without a chain

-- the plain machine before a pop: a memory with the run's mappings, and any bytes; and the queue as it is
pub record IsBeforePop {F G : Type 0} (s : LiveState F) (i : ℕ) (w : LiveQueue) (m : State G) : Type 0 where
  pub places : location m.memory ≡ location s.places
  pub limit : m.limit ≡ s.limit
  pub queue : slice_get m.queues i ≡ Some w.queue

-- no store, and no load of flags
abbrev pub no_effects : Effects
no_effects = record { acts = []; last = 0 }

-- the loads of a step without a chain. It may load `lost` entries that aren't mapped, which give it no bytes
abbrev pub pop_loads : Loaded → (lost : List Load) → StepLoads
pop_loads loaded lost =
    record { index = loaded.index; entry = loaded.entry; entries = loaded.entries ++ lost; request = [] }

-- a step with this end, by a pop's loads, which stores nothing and makes no call. A load of the ring is
-- missing only if it wasn't needed, or isn't mapped; those that brought bytes are of mapped addresses
pub record IsPopStep {G : Type 0} (may : May G) (m : State G) (i : ℕ) (q : Queue) (loaded : Loaded)
    (end : StepEnd) (after : State G) : Type 0 where
  pub lost : List Load
  pub lost_are : All (IsLost m.memory) lost
  pub ring : RingIsAsked m.memory q loaded
  pub mapped : LoadsAreMapped m.memory q loaded
  pub step : StepBy may m i (pop_loads loaded lost) [] end no_effects after

-- the step that a pop is, by its result. Without an available chain it is idle; refused, it stops the queue
-- as the refusal says. With a chain the step ends with the chain's return (`IsAStep`)
abbrev pub StepOfPop :
    {G : Type 0} → May G → State G → ℕ → Queue → Loaded → comes.CourseStep → Type 0
StepOfPop may m i q loaded step.Idle = IsPopStep may m i q loaded Idle m
StepOfPop may m i q loaded (step.Refused e) =
    IsPopStep may m i q loaded (Refused (device.Queue e)) (with_queue m i (after_refusal q e))
StepOfPop may m i q loaded _ = Unit {0}

-- so it is for each pop that ends, over any file system
abbrev pub PopIsStepBy : {F G : Type 0} → May F → May G → Type 0
PopIsStepBy {F} {G} may other =
    (s after : LiveState F) (i : ℕ) (loaded : Loaded) (ds : List Descriptor) (came : comes.CourseStep)
    (w : LiveQueue) (m : State G) →
    slice_get s.queues i ≡ Some w →
    Happens may s (EndsPop i loaded ds came) after →
    IsBeforePop s i w m →
    StepOfPop other m i w.queue loaded came

-- ---- a chain over a memory

-- a memory has what was loaded for a chain, its request too. The bytes of its reply that are stored last lie
-- apart from the rest
pub record HasLoadsOf (m : Memory) (c : InFlightChain) (last : ℕ) : Type 0 where
  pub loads : HasLoaded m c.taken c.loaded (request_of_phase c.phase)
  pub apart : MayStoreLast m (room_of c) last

-- the memory after an event's stores
abbrev pub stored_by : Memory → LiveEvent → Memory
stored_by m e = after_stores m (stores_among (event_acts e))

-- a chain that is returned by this event is the plain machine's step over a memory, which has the event's
-- stores afterwards. The machine notifies by the flags that are there then. Without the event index the
-- device does so too, if it loaded the two bytes that are there then
pub record IsAStepOver {G : Type 0} (other : May G) (m : State G) (files : G) (w : LiveQueue)
    (c : InFlightChain) (x : Exchange) (e : LiveEvent) (seen : List ℕ) (notice : Bool) : Type 0 where
  pub step : Step other m c.queue (calls_in c.phase)
      (Exchanged x (wants_notice (stored_by m.memory e) c.taken))
      (record (after_alone m c files) { memory = stored_by m.memory e })
  pub by_flags :
      LacksEventIndex w →
      seen ≡ bytes (stored_by m.memory e) (seen_at w) 2 →
      notice ≡ wants_notice (stored_by m.memory e) c.taken

-- so it is for each chain of a run that is returned at the position of its pop, over any memory that has its
-- loads, and for any writes of the guest and acts of other chains between. The file system may be any of
-- which the chain's own calls are a run
abbrev pub ReturnedIsStep : {F G : Type 0} → May F → May G → Type 0
ReturnedIsStep {F} {G} may other =
    (s now after : LiveState F) (es : List LiveEvent) (c : InFlightChain) (x : Exchange) (notice : Bool)
    (last : ℕ) (used : List Store) (seen : List ℕ) (m : State G) (files : G) (w : LiveQueue) →
    s.chains ≡ [] →
    LiveRun may s es now →
    Happens may now (PushesChain c x notice last used seen) after →
    IsServedPhase c.phase →
    slice_get now.queues c.queue ≡ Some w →
    w.next_used ≡ c.taken.position →
    IsBefore now c m →
    FileRun other m.files (calls_in c.phase) files →
    HasLoadsOf m.memory c last →
    IsAStepOver other m files w c x (PushesChain c x notice last used seen) seen notice

-- ---- beside handles that aren't of the run

-- events one after another. Before each of them handles that aren't of this run, with another limit, memory
-- or page size, may change the queues
abbrev pub RunBeside : {F : Type 0} → May F → LiveState F → List LiveEvent → LiveState F → Type 0
RunBeside may s [] after = after ≡ s
RunBeside {F} may s (e ∷ es) after =
    (queues : List LiveQueue) × (mid : LiveState F)
    × Happens may (record s { queues = queues }) e mid
    × RunBeside may mid es after

-- a chain is returned at the position of its pop, to a queue with the same areas
abbrev pub IsInOrder : LiveQueue → InFlightChain → Type 0
IsInOrder w c = record (returning w) { stopped = c.taken.stopped } ≡ c.taken

-- beside such handles, too, each returned chain is a step by its loads. Returned at the position of its pop,
-- it is the step itself over each memory that has its loads
abbrev pub ReturnedBesideIsStep : {F G : Type 0} → May F → May G → Type 0
ReturnedBesideIsStep {F} {G} may other =
    (s now after : LiveState F) (es : List LiveEvent) (queues : List LiveQueue) (c : InFlightChain)
    (x : Exchange) (notice : Bool) (last : ℕ) (used : List Store) (seen : List ℕ) (m : State G) (files : G) →
    s.chains ≡ [] →
    RunBeside may s es now →
    Happens may (record now { queues = queues }) (PushesChain c x notice last used seen) after →
    IsServedPhase c.phase →
    IsBefore now c m →
    FileRun other m.files (calls_in c.phase) files →
    (w : LiveQueue)
    × (slice_get queues c.queue ≡ Some w)
    × IsAStep other m files w c x last used seen notice
    × (IsInOrder w c →
    HasLoadsOf m.memory c last →
    IsAStepOver other m files w c x (PushesChain c x notice last used seen) seen notice)
