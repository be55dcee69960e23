-- A device and its results in the plain machine's terms.
use Rattle.std.specs.Prelude.{◌≡◌, ℕ, Bool, List, [], length, Option, Some, None, Result, Ok, Err}
use Rattle.vm_memory.specs.Memory.{Memory}
use Rattle.fs_queue.specs.Taking.{RequestAndRoom, IsRequest, CannotFetch}
use Rattle.virtiofsd_fuse.specs.declared.server.Server.{Server}
use Rattle.server_meanings.specs.Serving.{May, ServedMessage}
use Rattle.plain_machine.specs.declared.error.DeviceError.{DeviceError}
use Rattle.fs_device.specs.declared.exchange.Exchange as code
use Rattle.plain_machine.specs.declared.fault.Fault.{Fault}
use Rattle.plain_machine.specs.Step.{State, Exchange, StepEnd, Idle, Refused, Exchanged, Calls, ServesRequest}
use Rattle.plain_machine.specs.Step.{faulty, served_exchange, served_fault}
use Rattle.fs_device.specs.DevicePartsView.{DeviceParts}

-- an exchange, in the plain machine's terms
abbrev pub exchange_of : code.Exchange → Exchange
exchange_of e = record { head = e.head; request = e.request.items; reply = e.reply.items; fault = e.fault }

-- the end of a step, in the plain machine's terms
abbrev pub outcome_of : Result (Option (code.Exchange × Bool)) DeviceError → StepEnd
outcome_of (Ok None) = Idle
outcome_of (Ok (Some x)) = Exchanged (exchange_of x.0) x.1
outcome_of (Err e) = Refused e

-- a device over a memory, in the plain machine's terms
abbrev pub state_of : {F : Type 0} → Memory → DeviceParts F → State F
state_of m d =
    record {
      memory = m;
      queues = d.queues;
      options = d.options;
      files = d.files;
      limit = d.limit;
      page_size = d.page_size;
    }

-- the parts of a server that a step may change: the agreed options and the file system
abbrev pub server_state : {F : Type 0} → Server F → ℕ × F
server_state server = (server.options.0, server.fs)

-- the request's bytes; a faulty chain has none
abbrev pub request_of : RequestAndRoom → List ℕ
request_of (IsRequest request room) = request
request_of (CannotFetch why) = []

-- a chain is served by these calls and this exchange; a faulty chain makes no call
abbrev pub ServesChain : {F : Type 0} → May F → (page_size : ℕ) → ℕ × F → (head : ℕ) → RequestAndRoom →
    Calls → Exchange → ℕ × F → Type 0
ServesChain may page_size old head (CannotFetch why) calls x new =
    (x ≡ faulty head why) × (calls ≡ []) × (new ≡ old)
ServesChain may page_size old head (IsRequest request room) calls x new =
    (given : ServedMessage)
    × ServesRequest may page_size old.0 request (length room) old.1 calls given new.1
    × (x ≡ served_exchange head request given)
    × (new.0 ≡ given.options)

-- a request is answered with this reply or fault, after these calls, from these options and this file
-- system
abbrev pub AnswersRequest : {F : Type 0} → May F → (page_size : ℕ) → ℕ × F → (request : List ℕ) → (room : ℕ) →
    Calls → (reply : List ℕ) → Option Fault → ℕ × F → Type 0
AnswersRequest may page_size old request room calls reply fault new =
    (given : ServedMessage)
    × ServesRequest may page_size old.0 request room old.1 calls given new.1
    × (reply ≡ given.reply)
    × (fault ≡ served_fault given.fault)
    × (new.0 ≡ given.options)
