-- One step of the device on one queue.
use Rattle.std.specs.Prelude.{◌≡◌, ℕ, Bool, IsTrue, List, [], ◌∷◌, length, map, Option, Some, None, slice_get}
use Rattle.vm_memory_core.specs.Host.{changed_at}
use Rattle.vm_memory.specs.Memory.{Memory}
use Rattle.fs_queue.specs.declared.fault.ChainFault.{ChainFault}
use Rattle.fs_queue.specs.declared.fault.QueueError.TheVariants as stop
use Rattle.fs_queue.specs.Queue.{Queue}
use Rattle.fs_queue.specs.Taking.{IsRequest, CannotFetch, Offer, Refuses, Offers, offer, may_lack_memory}
use Rattle.fs_queue.specs.Taking.{after_refusal}
use Rattle.fs_queue.specs.Taking as taking
use Rattle.fs_queue.specs.Returning.{returned, wants_notice, advanced}
use Rattle.fuse_fs.specs.Calls.{FileCall, FileAnswer, FileRun, suits}
use Rattle.server_segments.specs.declared.error.Error.{Error}
use Rattle.server_meanings.specs.Grammar.{meaning}
use Rattle.server_meanings.specs.Serving.{May, ServedMessage, served, setting}
use Rattle.plain_machine.specs.declared.error.DeviceError.{DeviceError}
use Rattle.plain_machine.specs.declared.error.DeviceError.TheVariants as device
use Rattle.plain_machine.specs.declared.fault.Fault.{Fault}
use Rattle.plain_machine.specs.declared.fault.Fault.TheVariants as fault

-- the plain machine: its memory, its queues, the options that client and server agreed on, and the file
-- system; limit and page size never change
pub record State (F : Type 0) : Type 0 where
  pub memory : Memory
  pub queues : List Queue
  pub options : ℕ
  pub files : F
  pub limit : ℕ
  pub page_size : ℕ

-- a chain that was taken and returned: its head, request and reply, and the fault if there is no reply
pub record Exchange : Type 0 where
  pub head : ℕ
  pub request : List ℕ
  pub reply : List ℕ
  pub fault : Option Fault

-- how a step ends: no chain is available, it is refused, or a chain was exchanged, with whether to
-- notify the driver
pub data StepEnd : Type 0 where
  Idle : StepEnd
  Refused : DeviceError → StepEnd
  Exchanged : Exchange → (notice : Bool) → StepEnd

-- the calls to a file system, in order, each with its answer
abbrev pub Calls : Type 0
Calls = List (FileCall × FileAnswer)

-- the calls without their answers
abbrev pub calls_alone : Calls → List FileCall
calls_alone steps = map (λ step. step.0) steps

-- the answers without their calls
abbrev pub answers_alone : Calls → List FileAnswer
answers_alone steps = map (λ step. step.1) steps

-- each answer is one that its call can have
abbrev pub EachSuits : Calls → Type 0
EachSuits [] = Unit {0}
EachSuits (step ∷ steps) = IsTrue (suits step.0 step.1) × EachSuits steps

-- the state with another queue instead of queue i
abbrev pub with_queue : {F : Type 0} → State F → ℕ → Queue → State F
with_queue s i q = record s { queues = changed_at s.queues i (λ _. q) }

-- nothing changed and no call was made
pub record Unchanged {F : Type 0} (before : State F) (calls : Calls) (after : State F) : Type 0 where
  pub same : after ≡ before
  pub no_call : calls ≡ []

-- the state after a chain was returned, with these options and this file system
abbrev pub after_return :
    {F : Type 0} → State F → ℕ → Queue → (head : ℕ) → (room reply : List ℕ) → ℕ → F → State F
after_return s i q head room reply options files =
    record s {
      memory = returned s.memory q head room reply;
      queues = changed_at s.queues i (λ _. advanced q);
      options = options;
      files = files;
    }

-- a fault of the server, as the exchange has it
abbrev pub served_fault : Option Error → Option Fault
served_fault None = None
served_fault (Some e) = Some (fault.Served e)

-- the server serves a request: with these calls, through which the file system's state moves, and with
-- this result of their answers
pub record ServesRequest {F : Type 0} (may : May F) (page_size options : ℕ) (request : List ℕ) (room : ℕ)
    (before : F) (calls : Calls) (given : ServedMessage) (after : F) : Type 0 where
  pub gives :
      given ≡ served (setting page_size options room) (meaning options request room) (answers_alone calls)
  pub asks : given.calls ≡ calls_alone calls
  pub run : FileRun may before calls after

-- a chain is returned with this exchange
pub record Returns {F : Type 0} (before : State F) (i : ℕ) (q : Queue) (room : List ℕ) (expected : Exchange)
    (options : ℕ) (x : Exchange) (notice : Bool) (after : State F) : Type 0 where
  pub exchange : x ≡ expected
  pub state : after ≡ after_return before i q expected.head room expected.reply options after.files
  pub reported : notice ≡ wants_notice after.memory q

-- the exchange of a faulty chain: no request, no reply, and its fault
abbrev pub faulty : (head : ℕ) → ChainFault → Exchange
faulty head why = record { head = head; request = []; reply = []; fault = Some (fault.Chain why) }

-- the exchange of a request that was served: its reply, or none and the fault
abbrev pub served_exchange : (head : ℕ) → (request : List ℕ) → ServedMessage → Exchange
served_exchange head request given =
    record { head = head; request = request; reply = given.reply; fault = served_fault given.fault }

-- a faulty chain is returned without a reply, and no call is made
pub record ReturnsFaulty {F : Type 0} (before : State F) (i : ℕ) (q : Queue) (head : ℕ) (why : ChainFault)
    (calls : Calls) (x : Exchange) (notice : Bool) (after : State F) : Type 0 where
  pub no_call : calls ≡ []
  pub files : after.files ≡ before.files
  pub returns : Returns before i q [] (faulty head why) before.options x notice after

-- a request is answered by its meaning: its calls in order, then its whole reply or none, then the used
-- element and the used index
pub record Answers {F : Type 0} (may : May F) (before : State F) (i : ℕ) (q : Queue) (head : ℕ)
    (request room : List ℕ) (calls : Calls) (x : Exchange) (notice : Bool) (after : State F) : Type 0 where
  pub given : ServedMessage
  pub serves : ServesRequest may before.page_size before.options request (length room) before.files calls
      given after.files
  pub returns : Returns before i q room (served_exchange head request given) given.options x notice after

-- the chain of an offer is exchanged
abbrev pub Exchanges :
    {F : Type 0} → May F → State F → ℕ → Queue → Offer → Calls → Exchange → Bool → State F → Type 0
Exchanges may before i q (Offers head (CannotFetch why)) calls x notice after =
    ReturnsFaulty before i q head why calls x notice after
Exchanges may before i q (Offers head (IsRequest request room)) calls x notice after =
    Answers may before i q head request room calls x notice after
Exchanges may before i q taking.Idle calls x notice after = ⊥
Exchanges may before i q (Refuses e) calls x notice after = ⊥

-- the possible ends of a step on a queue with this offer. If a chain is offered, the step may also be
-- refused because an allocation fails; then nothing changes and no call is made
abbrev pub Acts : {F : Type 0} → May F → State F → ℕ → Queue → Offer → Calls → StepEnd → State F → Type 0
Acts may before i q offered calls Idle after = (offered ≡ taking.Idle) × Unchanged before calls after
Acts may before i q offered calls (Refused (device.Queue stop.OutOfMemory)) after =
    IsTrue (may_lack_memory offered) × Unchanged before calls after
Acts may before i q offered calls (Refused (device.Queue e)) after =
    (offered ≡ Refuses e) × (calls ≡ []) × (after ≡ with_queue before i (after_refusal q e))
Acts may before i q offered calls (Refused device.NoSuchQueue) after = ⊥
Acts may before i q offered calls (Exchanged x notice) after =
    Exchanges may before i q offered calls x notice after

-- a step on a queue that may be missing
abbrev pub StepOf : {F : Type 0} → May F → State F → ℕ → Option Queue → Calls → StepEnd → State F → Type 0
StepOf may before i None calls outcome after =
    (outcome ≡ Refused device.NoSuchQueue) × Unchanged before calls after
StepOf may before i (Some q) calls outcome after =
    Acts may before i q (offer before.memory before.limit q) calls outcome after

-- a step on queue i may make these calls, end with this outcome, and leave this state
abbrev pub Step : {F : Type 0} → May F → State F → ℕ → Calls → StepEnd → State F → Type 0
Step may before i calls outcome after = StepOf may before i (slice_get before.queues i) calls outcome after
