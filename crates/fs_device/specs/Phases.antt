-- A step in its phases: a chain is taken, its request is copied and answered, and it is returned.
use Rattle.std.specs.Prelude.{◌≡◌, ℕ, Bool, IsTrue, true, false, List, [], ◌∷◌, length, Some, Result, Ok, Err}
use Rattle.std.specs.Prelude.{slice_get, MatchResult}
use Rattle.vm_memory_core.specs.Host.{Host}
use Rattle.vm_memory.specs.Memory.{Memory}
use Rattle.fs_queue.specs.Queue.{Queue}
use Rattle.fs_queue.specs.Taking.{RequestAndRoom, Offers, offer, room_of}
use Rattle.fs_queue.specs.Returning.{wants_notice}
use Rattle.fs_queue.specs.declared.chain.Chain.{Chain}
use Rattle.fs_queue.specs.declared.fault.ChainFault.{ChainFault}
use Rattle.fs_queue.specs.Windows.{HoldsChain, IsEmpty, IsTaken, Taken, room_places}
use Rattle.server_segments.specs.ReaderAndWriterView.{ReaderView}
use Rattle.fuse_fs.specs.Lengths.{filled}
use Rattle.server_meanings.specs.WantOfMemory.{may_take_memory}
use Rattle.server_meanings.specs.Serving.{May}
use Rattle.plain_machine.specs.declared.error.DeviceError.{DeviceError}
use Rattle.plain_machine.specs.Step.{State, Exchange, Idle, Refused, Calls, Step, after_return}
use Rattle.plain_machine.specs.declared.fault.Fault.TheVariants as fault
use Rattle.fs_device.specs.DeviceView.{AnswersRequest, ServesChain, request_of}

-- a chain was taken from queue i: the queue offers it over this memory, with this limit, and `t` has
-- its windows
pub record HasTaken (m : Memory) (limit : ℕ) (queues : List Queue) (i : ℕ) (t : Taken) : Type 0 where
  pub queue : Queue
  pub fetched : RequestAndRoom
  pub there : slice_get queues i ≡ Some queue
  pub offered : offer m limit queue ≡ Offers t.head fetched
  pub taken : IsTaken m queue fetched t

-- `t` has the windows of a chain that was taken from queue i, which may offer another by now
pub record IsTakenFrom (m : Memory) (queues : List Queue) (i : ℕ) (t : Taken) : Type 0 where
  pub queue : Queue
  pub fetched : RequestAndRoom
  pub there : slice_get queues i ≡ Some queue
  pub taken : IsTaken m queue fetched t

-- taking a chain: if none is available or the step is refused, it is a whole step without a call; else
-- the chain of this queue was taken, and nothing changed
abbrev pub TakesOrEnds :
    {F : Type 0} → May F → State F → ℕ → Taken → Result Bool DeviceError → State F → Type 0
TakesOrEnds may before i t (Ok true) after =
    HasTaken before.memory before.limit before.queues i t × (after ≡ before)
TakesOrEnds may before i t (Ok false) after = Step may before i [] Idle after
TakesOrEnds may before i t (Err e) after = Step may before i [] (Refused e) after

-- taking a chain with these queues, for all options, file systems and page sizes
abbrev pub TakesFrom : {F : Type 0} → May F → Memory → (limit : ℕ) → List Queue → ℕ → Taken →
    Result Bool DeviceError → List Queue → Type 0
TakesFrom {F} may m limit before i t result after =
    (options page_size : ℕ) (files : F) →
    TakesOrEnds may (record {
      memory = m;
      queues = before;
      options = options;
      files = files;
      limit = limit;
      page_size = page_size;
    }) i t result
    (record {
      memory = m;
      queues = after;
      options = options;
      files = files;
      limit = limit;
      page_size = page_size;
    })

-- this holds of `t` if a chain was taken
abbrev pub IfTaken : (Taken → Type 0) → Taken → Result Bool DeviceError → Type 0
IfTaken P t (Ok true) = P t
IfTaken P t (Ok false) = Unit {0}
IfTaken P t (Err e) = Unit {0}

-- `t` is empty unless a chain was taken
abbrev pub IsEmptyUnlessDeviceTook : Result Bool DeviceError → Taken → Type 0
IsEmptyUnlessDeviceTook (Ok true) t = Unit {0}
IsEmptyUnlessDeviceTook (Ok false) t = IsEmpty t
IsEmptyUnlessDeviceTook (Err e) t = IsEmpty t

-- these are the request's bytes of a taken chain, in each memory of this host
abbrev pub HoldsRequest : Host → Taken → (bytes : List ℕ) → Type 0
HoldsRequest h t bytes =
    (m : Memory) (fetched : RequestAndRoom) →
    m.host ≡ h →
    HoldsChain m fetched t.chain →
    bytes ≡ request_of fetched

-- a chain isn't faulty
abbrev pub IsUnfaulty : Result Chain ChainFault → Type 0
IsUnfaulty (Ok c) = Unit {0}
IsUnfaulty (Err fault) = ⊥

-- a request in one segment
abbrev pub in_one_segment : List ℕ → ReaderView
in_one_segment bytes = record { left = bytes; segments = filled (length bytes ∷ []); read = 0 }

-- the server may fail to allocate for a taken chain: the chain isn't faulty, and its request may need
-- an allocation
abbrev pub MayLackToAnswer : (options : ℕ) → Taken → (bytes : List ℕ) → Type 0
MayLackToAnswer options t bytes =
    IsUnfaulty t.chain × IsTrue (may_take_memory options (in_one_segment bytes) (room_places t.chain))

-- a taken chain is served by this exchange, if these are its request's bytes; a faulty chain makes no
-- call
abbrev pub ServesTaken :
    {F : Type 0} → May F → (page_size : ℕ) → ℕ × F → Taken → (bytes : List ℕ) → Exchange → ℕ × F → Type 0
ServesTaken may page_size old t bytes x new =
    (m : Memory) (q : Queue) (fetched : RequestAndRoom) → IsTaken m q fetched t → bytes ≡ request_of fetched →
    (calls : Calls) × ServesChain may page_size old t.head fetched calls x new

-- these bytes are served as the request of a chain, with a reply buffer of `room` bytes; a faulty chain
-- makes no call
abbrev pub ServesBytes : {F : Type 0} → May F → (page_size : ℕ) → ℕ × F → Taken → (room : ℕ) →
    (bytes : List ℕ) → Exchange → ℕ × F → Type 0
ServesBytes may page_size old t room bytes x new =
    (x.head ≡ t.head) × (x.request ≡ bytes) × MatchResult t.chain
    (λ c. (calls : Calls) × AnswersRequest may page_size old bytes room calls x.reply x.fault new)
    (λ why. (x.reply ≡ []) × (x.fault ≡ Some (fault.Chain why)) × (new ≡ old))

-- a taken chain is returned to queue i with a reply in its reply buffer, and the driver is notified or
-- not (VIRTIO 1.2, 2.7.8 and 2.7.7)
pub record IsReturned {F : Type 0} (before : State F) (i : ℕ) (t : Taken) (has : IsTakenFrom before.memory
    before.queues i t) (reply : List ℕ) (notice : Bool) (after : State F) : Type 0 where
  pub state :
      after ≡ after_return before i has.queue t.head (room_of has.fetched) reply before.options before.files
  pub reported : notice ≡ wants_notice after.memory has.queue
