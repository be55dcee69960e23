-- Theorems that hold for each run.
use Rattle.std.specs.Prelude.{◌≡◌, ◌≤◌, ◌/◌, ℕ, Bool, true, false, All, take, ◌==◌, List, [], ◌∷◌, ◌++◌}
use Rattle.std.specs.Prelude.{length, map, filter, flat_map, is_some, IsPermutation, Option, Some, None}
use Rattle.std.specs.Prelude.{slice_get, if◌then◌else◌}
use Rattle.std.specs.List.{AllByRecursion, Contains, list_all, list_any}
use Rattle.vm_iotlb.specs.declared.permissions.Permissions.TheVariants.{Read, Write}
use Rattle.vm_memory_core.specs.Host.{changed_at}
use Rattle.vm_memory.specs.Memory.{Memory, addresses, location, reach}
use Rattle.fs_queue.specs.Loads.{Load}
use Rattle.fs_queue.specs.Queue.{element_at, index_at}
use Rattle.fs_queue.specs.Returning.{Store, writes_of, notifies, advanced}
use Rattle.fs_queue.specs.Taking.{IsRequest, Offers}
use Rattle.fs_regions.specs.declared.step.CourseStep.TheVariants as step
use Rattle.fuse_fs.specs.Calls.{FileRun}
use Rattle.server_meanings.specs.Serving.{May}
use Rattle.plain_machine.specs.MarkedPages.{Marks, returned_addresses}
use Rattle.plain_machine.specs.Step.{State, Exchange, Exchanged, calls_alone}
use Rattle.fs_regions.specs.Walks.{IsLost, OffersBy, RingIsAsked}
use Rattle.plain_machine.specs.StepBy.{Act, StepLoads, StepBy, ReturnsBy, after_stores, return_acts}
use Rattle.plain_machine.specs.StepBy.{return_stores, stores_among}
use Rattle.live_machine.specs.Several.{LiveQueue, InFlightId, QueueEvent, RunsOver, UsedFrom, heads_taken}
use Rattle.live_machine.specs.Several.{HasEventIndex, heads_ended, returns_among, returning, seen_at}
use Rattle.live_machine.specs.Several.{unrecorded, used_event_at, wants, wish_at}
use Rattle.live_machine.specs.Several as several
pub use Rattle.live_machine.specs.Live.{HasNoneInFlight}
use Rattle.live_machine.specs.Live.{Phase, Asked, Own, InFlightChain, LiveState, LiveEvent, EndsPop}
use Rattle.live_machine.specs.Live.{PushesChain, StoresNotification, ResetsQueue, FillsBuffer, GivesUpChain}
use Rattle.live_machine.specs.Live.{Remaps, MovesDevice, Happens, LiveRun, event_acts, calls_among}
use Rattle.live_machine.specs.Live.{LoadsAreMapped, calls_in, room_of, serving, own_exchange}

-- ---- the calls

-- if the file system's relation allows each answer when it is given, the calls in the order of their answers
-- are a run of it. They may be of any chains
abbrev pub CallsAreARun : {F : Type 0} → May F → Type 0
CallsAreARun {F} may =
    (s after : LiveState F) (es : List LiveEvent) →
    LiveRun may s es after →
    FileRun may s.files (calls_among es) after.files

-- the answered calls of a chain in this phase are the first of those that its request means, by their answers
abbrev pub AreMeant : (page_size : ℕ) → InFlightChain → Phase → Type 0
AreMeant page_size c (Asked request options calls) =
    let given = serving page_size options options request (room_of c) calls in
    calls_alone calls ≡ take (length calls) given.calls
AreMeant page_size c _ = Unit {0}

-- so it is at each moment of a run that starts without chains in flight, whether a chain is pushed later or
-- not: its handle may be freed, its queue reset, or its caller may reply with bytes of its own
abbrev pub EachCallIsMeant : {F : Type 0} → May F → Type 0
EachCallIsMeant {F} may =
    (s now : LiveState F) (es : List LiveEvent) →
    s.chains ≡ [] →
    LiveRun may s es now →
    AllByRecursion (λ c. AreMeant now.page_size c c.phase) now.chains

-- ---- each chain by itself

-- the request of a chain, as it was loaded
abbrev pub request_of_phase : Phase → List ℕ
request_of_phase (Asked request options calls) = request
request_of_phase (Own request reply) = request
request_of_phase _ = []

-- the options are those of the chain's decoding
abbrev pub IsAskedIn : Phase → (options : ℕ) → Type 0
IsAskedIn (Asked request asked calls) options = options ≡ asked
IsAskedIn _ options = Unit {0}

-- the options that a chain leaves by itself, by its answers so far
abbrev pub options_left : (page_size options : ℕ) → InFlightChain → Phase → ℕ
options_left page_size options c (Asked request asked calls) =
    (serving page_size asked asked request (room_of c) calls).options
options_left page_size options c _ = options

-- the reply of a chain isn't its caller's own bytes
abbrev pub IsServedPhase : Phase → Type 0
IsServedPhase (Own request reply) = ⊥
IsServedPhase _ = Unit {0}

-- the plain machine before a chain: a memory with the mappings of the chain's pop, and any bytes; the queue
-- as it was before the pop; the options of the decoding
pub record IsBefore {F G : Type 0} (s : LiveState F) (c : InFlightChain) (m : State G) : Type 0 where
  pub places : location m.memory ≡ location c.places
  pub limit : m.limit ≡ s.limit
  pub page_size : m.page_size ≡ s.page_size
  pub options : IsAskedIn c.phase m.options
  pub queue : slice_get m.queues c.queue ≡ Some c.taken

-- the plain machine after the chain alone
abbrev pub after_alone : {G : Type 0} → State G → InFlightChain → G → State G
after_alone m c files =
    record m {
      queues = changed_at m.queues c.queue (λ _. advanced c.taken);
      options = options_left m.page_size m.options c c.phase;
      files = files;
    }

-- the loads of its step. It may load `lost` entries that aren't mapped, which give it no bytes
abbrev pub chain_loads : InFlightChain → (lost : List Load) → StepLoads
chain_loads c lost =
    record {
      index = c.loaded.index;
      entry = c.loaded.entry;
      entries = c.loaded.entries ++ lost;
      request = request_of_phase c.phase;
    }

-- a returned chain is a step by its loads, of a machine that takes the two bytes that were seen for the
-- flags. Its calls with their answers, and its exchange, are the step's. So are its acts, with the used
-- element and index of the queue's next used position. The loads that brought bytes are of mapped addresses.
-- Whether the driver is to be notified is by the two bytes that were seen: without the event index, as the
-- step says (`notifies seen`); with it, by used_event
pub record IsAStep {G : Type 0} (other : May G) (m : State G) (files : G) (w : LiveQueue) (c : InFlightChain)
    (x : Exchange) (last : ℕ) (used : List Store) (seen : List ℕ) (notice : Bool) : Type 0 where
  pub lost : List Load
  pub lost_are : All (IsLost m.memory) lost
  pub ring : RingIsAsked m.memory c.taken c.loaded
  pub mapped : LoadsAreMapped m.memory c.taken c.loaded
  pub step : StepBy other m c.queue (chain_loads c lost) (calls_in c.phase) (Exchanged x (notifies seen))
      (record {
        acts = return_acts (return_stores c.taken c.head (room_of c) x.reply last) seen;
        last = last;
      }) (after_alone m c files)
  pub acts : event_acts (PushesChain c x notice last used seen)
      ≡ return_acts (return_stores (returning w) c.head (room_of c) x.reply last) seen
  pub notice_is : notice ≡ wants w seen

-- so it is for any acts of other chains between its pop and its return, and for any writes of the guest. The
-- file system may be any of which the chain's own calls are a run
abbrev pub ReturnedIsStepBy : {F G : Type 0} → May F → May G → Type 0
ReturnedIsStepBy {F} {G} may other =
    (s now after : LiveState F) (es : List LiveEvent) (c : InFlightChain) (x : Exchange) (notice : Bool)
    (last : ℕ) (used : List Store) (seen : List ℕ) (m : State G) (files : G) →
    s.chains ≡ [] →
    LiveRun may s es now →
    Happens may now (PushesChain c x notice last used seen) after →
    IsServedPhase c.phase →
    IsBefore now c m →
    FileRun other m.files (calls_in c.phase) files →
    (w : LiveQueue)
    × (slice_get now.queues c.queue ≡ Some w)
    × IsAStep other m files w c x last used seen notice

-- a chain with its caller's own bytes: its loads offer it, and are of mapped addresses. The bytes, the used
-- element and the index are stored as a step stores a reply, at the queue's next used position. The driver is
-- notified as in `IsAStep`
pub record IsAReturn {G : Type 0} (m : State G) (limit : ℕ) (w : LiveQueue) (c : InFlightChain)
    (request reply : List ℕ) (x : Exchange) (last : ℕ) (used : List Store) (seen : List ℕ) (notice : Bool) :
    Type 0 where
  pub offered :
      OffersBy m.memory limit c.taken c.loaded request (Offers c.head (IsRequest request (room_of c)))
  pub mapped : LoadsAreMapped m.memory c.taken c.loaded
  pub fits : length reply ≤ length (room_of c)
  pub returns :
      ReturnsBy m c.queue c.taken (room_of c) (own_exchange c.head request reply) m.options x (notifies seen)
      (record {
        acts = return_acts (return_stores c.taken c.head (room_of c) x.reply last) seen;
        last = last;
      }) (after_alone m c m.files)
  pub acts : event_acts (PushesChain c x notice last used seen)
      ≡ return_acts (return_stores (returning w) c.head (room_of c) x.reply last) seen
  pub notice_is : notice ≡ wants w seen

-- so it is for each such chain of a run: its return makes no call, and the options stay
abbrev pub OwnIsReturned : {F : Type 0} → (G : Type 0) → May F → Type 0
OwnIsReturned {F} G may =
    (s now after : LiveState F) (es : List LiveEvent) (c : InFlightChain) (x : Exchange) (notice : Bool)
    (last : ℕ) (used : List Store) (seen : List ℕ) (request reply : List ℕ) (m : State G) →
    s.chains ≡ [] →
    LiveRun may s es now →
    Happens may now (PushesChain c x notice last used seen) after →
    c.phase ≡ Own request reply →
    IsBefore now c m →
    (w : LiveQueue)
    × (slice_get now.queues c.queue ≡ Some w)
    × IsAReturn m now.limit w c request reply x last used seen notice

-- ---- where stores go

-- the addresses that a return writes in its queue: the used element of the next used position, and the used
-- index
abbrev pub queue_addresses : Option LiveQueue → List ℕ
queue_addresses None = []
queue_addresses (Some w) = addresses (element_at (returning w)) 8 ++ addresses (index_at (returning w)) 2

-- the addresses that a queue's store before a sleep may write: avail_event, or the used ring's flags
abbrev pub sleep_addresses : Option LiveQueue → List ℕ
sleep_addresses None = []
sleep_addresses (Some w) = addresses (wish_at w) 2

-- the addresses that an event may write
abbrev pub may_store : {F : Type 0} → LiveState F → LiveEvent → List ℕ
may_store s (PushesChain c x notice last used seen) =
    room_of c ++ queue_addresses (slice_get s.queues c.queue)
may_store s (FillsBuffer c stores) = room_of c
may_store s (StoresNotification i store) = sleep_addresses (slice_get s.queues i)
may_store s _ = []

-- the chain that is returned, or in whose reply buffer bytes are stored, is in flight at that moment
abbrev pub IsInFlightThen : {F : Type 0} → LiveState F → LiveEvent → Type 0
IsInFlightThen s (PushesChain c x notice last used seen) = Contains s.chains c
IsInFlightThen s (FillsBuffer c stores) = Contains s.chains c
IsInFlightThen s _ = Unit {0}

-- the event writes only addresses that it may write (`may_store`), for a chain that is in flight
abbrev pub StoresThere : {F : Type 0} → LiveState F → LiveEvent → Type 0
StoresThere s e =
    IsInFlightThen s e
    × AllByRecursion (λ (w : ℕ × ℕ). Contains (may_store s e) w.0)
    (flat_map writes_of (stores_among (event_acts e)))

-- each event of a run writes only addresses that it may write
abbrev pub EachStoresThere : {F : Type 0} → (may : May F) → (s : LiveState F) → (es : List LiveEvent) →
    (after : LiveState F) → LiveRun may s es after → Type 0
EachStoresThere may s [] after run = Unit {0}
EachStoresThere may s (e ∷ es) after run = StoresThere s e × EachStoresThere may run.0 es after run.2

abbrev pub StoresStayThere : {F : Type 0} → May F → Type 0
StoresStayThere {F} may =
    (s after : LiveState F) (es : List LiveEvent) (run : LiveRun may s es after) →
    EachStoresThere may s es after run

-- ---- mapped addresses

-- with the event index used_event is mapped, readable
abbrev pub HasUsedEvent : Memory → LiveQueue → Type 0
HasUsedEvent m w = HasEventIndex w → reach m Read (used_event_at w.queue) 2 ≡ true

-- whether each address of a reply buffer is mapped, writable
abbrev pub are_mapped : Memory → (room : List ℕ) → Bool
are_mapped m room = list_all (λ a. is_some (location m Write a)) room

-- the addresses of a return in its queue, at the next used position, are mapped. Writable are the used
-- element and the used index. Readable are the two bytes that decide the notification: the available flags,
-- and with the event index used_event besides
pub record ReturnIsMapped (m : Memory) (w : LiveQueue) : Type 0 where
  pub element : reach m Write (element_at (returning w)) 8 ≡ true
  pub index : reach m Write (index_at (returning w)) 2 ≡ true
  pub flags : reach m Read w.queue.avail 2 ≡ true
  pub used_event : HasUsedEvent m w
  pub seen : reach m Read (seen_at w) 2 ≡ true

-- in a run that starts without chains in flight, the addresses of each return are mapped. Those in its queue
-- are mapped by the mappings of this moment, and by those of its chain's pop. Those of the reply buffer are
-- mapped by the mappings of the pop. Chains may be returned in any order or be given up, the guest may write,
-- and addresses may get other mappings
abbrev pub ReturnsAreMapped : {F : Type 0} → May F → Type 0
ReturnsAreMapped {F} may =
    (s now after : LiveState F) (es : List LiveEvent) (c : InFlightChain) (x : Exchange) (notice : Bool)
    (last : ℕ) (used : List Store) (seen : List ℕ) →
    s.chains ≡ [] →
    AllByRecursion HasNoneInFlight s.queues →
    LiveRun may s es now →
    Happens may now (PushesChain c x notice last used seen) after →
    (w : LiveQueue)
    × (slice_get now.queues c.queue ≡ Some w)
    × ReturnIsMapped now.places w
    × ReturnIsMapped c.places w
    × (are_mapped c.places (room_of c) ≡ true)

-- ---- one queue of a run

-- the events of queue i: pops of a chain, chains that are given up, and returns
abbrev pub event_on : ℕ → LiveEvent → List QueueEvent
event_on i (EndsPop j loaded ds (step.Chain head fault)) = if j == i then several.PopsOne head ∷ [] else []
event_on i (GivesUpChain c) = if c.queue == i then several.DropsLast (c.taken.position, c.head) ∷ [] else []
event_on i (PushesChain c x notice last used seen) =
    if c.queue == i then several.PushesOne (c.taken.position, c.head) (length x.reply) used ∷ [] else []
event_on i _ = []

-- the events of queue i in a run
abbrev pub events_on : ℕ → List LiveEvent → List QueueEvent
events_on i es = flat_map (event_on i) es

-- its chains in flight, by position and head
abbrev pub in_flight_on : ℕ → List InFlightChain → List InFlightId
in_flight_on i chains = map (λ c. (c.taken.position, c.head)) (filter (λ c. c.queue == i) chains)

-- a queue, stopped or not, as one that isn't: a refusal moves neither position
abbrev pub going : LiveQueue → LiveQueue
going w = record w { queue = record (w.queue) { stopped = false } }

-- the event doesn't reset the queue, not from a record either
abbrev pub NoReset : ℕ → LiveEvent → Type 0
NoReset i (ResetsQueue j w) = (j == i) ≡ true → ⊥
NoReset i (MovesDevice m queues) = ⊥
NoReset i _ = Unit {0}

-- queue i of a run is a run of pops and returns, for any events on the other queues
abbrev pub RunsOnQueue : {F : Type 0} → May F → Type 0
RunsOnQueue {F} may =
    (s after : LiveState F) (es : List LiveEvent) (i : ℕ) (w : LiveQueue) →
    slice_get s.queues i ≡ Some w →
    AllByRecursion (NoReset i) es →
    LiveRun may s es after →
    (w' : LiveQueue)
    × (slice_get after.queues i ≡ Some w')
    × RunsOver (going w) (in_flight_on i s.chains) (events_on i es) (going w') (in_flight_on i after.chains)

-- so each chain that was popped from it was returned once, or was given up once, or is in flight
abbrev pub OncePerLiveChain : {F : Type 0} → May F → Type 0
OncePerLiveChain {F} may =
    (s after : LiveState F) (es : List LiveEvent) (i : ℕ) (w : LiveQueue) →
    slice_get s.queues i ≡ Some w →
    in_flight_on i s.chains ≡ [] →
    AllByRecursion (NoReset i) es →
    LiveRun may s es after →
    IsPermutation (heads_ended (events_on i es) ++ map (λ t. t.1) (in_flight_on i after.chains))
    (heads_taken (events_on i es))

-- and its returns fill the used ring in order, in any order of the pops
abbrev pub LiveUsedInOrder : {F : Type 0} → May F → Type 0
LiveUsedInOrder {F} may =
    (s after : LiveState F) (es : List LiveEvent) (i : ℕ) (w : LiveQueue) →
    slice_get s.queues i ≡ Some w →
    AllByRecursion (NoReset i) es →
    LiveRun may s es after →
    UsedFrom (going w) (returns_among (events_on i es))

-- ---- pages

-- a page of the guest's memory has 4096 bytes
abbrev pub page_of : (address : ℕ) → ℕ
page_of a = a / 4096

-- the addresses that acts write, byte by byte
abbrev pub written_by : List Act → List ℕ
written_by acts = map (λ w. w.0) (flat_map writes_of (stores_among acts))

-- the addresses that an event reports for its caller to mark:
-- - of a return, the reply's addresses from the reply buffer's first on, the used element, and the used index
-- - of a sleep, the two bytes of its store
-- - of other stores in a reply buffer, just those
abbrev pub marks_of : {F : Type 0} → LiveState F → LiveEvent → List ℕ
marks_of s (PushesChain c x notice last used seen) =
    take (length x.reply) (room_of c) ++ queue_addresses (slice_get s.queues c.queue)
marks_of s (StoresNotification i store) = addresses store.address 2
marks_of s (FillsBuffer c stores) = flat_map (λ store. addresses store.address (length store.bytes)) stores
marks_of s _ = []

-- over each memory, an event's stores mark the pages of the addresses that it reports, of blocks or of I/O
-- pages, and no others. So do those of the plain machine's step, which stores the same
abbrev pub MarksItsPages : {F : Type 0} → LiveState F → LiveEvent → Type 0
MarksItsPages s e =
    (m : Memory) →
    Marks m (marks_of s e) (after_stores m (stores_among (event_acts e))).host

-- and if these addresses are marked, a log by the guest's pages has just those that the stores write
-- to
abbrev pub LogsItsPages : {F : Type 0} → LiveState F → LiveEvent → Type 0
LogsItsPages s e =
    (page : ℕ) → list_any (λ a. page_of a == page) (written_by (event_acts e))
    ≡ list_any (λ a. page_of a == page) (marks_of s e)

-- so it is for each event of a run
abbrev pub EachMarks : {F : Type 0} → (may : May F) → (s : LiveState F) → (es : List LiveEvent) →
    (after : LiveState F) → LiveRun may s es after → Type 0
EachMarks may s [] after run = Unit {0}
EachMarks may s (e ∷ es) after run =
    (MarksItsPages s e × LogsItsPages s e)
    × EachMarks may run.0 es after run.2

abbrev pub PagesAreMarked : {F : Type 0} → May F → Type 0
PagesAreMarked {F} may =
    (s after : LiveState F) (es : List LiveEvent) (run : LiveRun may s es after) →
    EachMarks may s es after run

-- a return reports the addresses that the plain machine's step writes at the queue's next used position
abbrev pub ReturnsReport : {F : Type 0} → May F → Type 0
ReturnsReport {F} may =
    (s after : LiveState F) (c : InFlightChain) (x : Exchange) (notice : Bool) (last : ℕ) (used : List Store)
    (seen : List ℕ) →
    Happens may s (PushesChain c x notice last used seen) after →
    (w : LiveQueue)
    × (slice_get s.queues c.queue ≡ Some w)
    × (marks_of s (PushesChain c x notice last used seen)
    ≡ returned_addresses (returning w) c.head (room_of c) x.reply)

-- ---- stops, and moves

-- in a run that starts without chains in flight, a queue without any is at the position of its next return.
-- One number reports both positions (GET_VRING_BASE), and a reset to it (SET_VRING_BASE) changes nothing
abbrev pub PositionsAgree : {F : Type 0} → May F → Type 0
PositionsAgree {F} may =
    (s now : LiveState F) (es : List LiveEvent) (i : ℕ) (w : LiveQueue) →
    s.chains ≡ [] →
    AllByRecursion HasNoneInFlight s.queues →
    LiveRun may s es now →
    slice_get now.queues i ≡ Some w →
    in_flight_on i now.chains ≡ [] →
    HasNoneInFlight w × ((after : LiveState F) → Happens may now (ResetsQueue i w) after → after ≡ now)

-- a device moves between two chains, and is given there the parts that no record has. It goes on as one that
-- didn't move and whose guest's memory got these mappings. Over the same mappings it goes on as if nothing
-- had happened
abbrev pub MovedContinues : {F : Type 0} → May F → Type 0
MovedContinues {F} may =
    (s now moved : LiveState F) (es : List LiveEvent) (m : Memory) (queues : List LiveQueue) →
    s.chains ≡ [] →
    AllByRecursion HasNoneInFlight s.queues →
    LiveRun may s es now →
    Happens may now (MovesDevice m queues) moved →
    map unrecorded queues ≡ map unrecorded now.queues →
    Happens may now (Remaps m) moved
    × (m ≡ now.places → moved ≡ now)
    × ((later : List LiveEvent) (end : LiveState F) →
    LiveRun may moved later end →
    LiveRun may s (es ++ Remaps m ∷ later) end)
    × (m ≡ now.places →
    (later : List LiveEvent) (end : LiveState F) →
    LiveRun may moved later end →
    LiveRun may s (es ++ later) end)
