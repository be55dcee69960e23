-- The results of a step by lengths alone.
use Rattle.std.specs.Prelude.{◌≡◌, ℕ, Bool, length, Option, Some, None, Result, Ok, Err}
use Rattle.server_meanings.specs.Serving.{May}
use Rattle.plain_machine.specs.declared.error.DeviceError.{DeviceError}
use Rattle.fs_device.specs.declared.returned.Returned.{Returned}
use Rattle.plain_machine.specs.Step.{State, Exchange, StepEnd, Idle, Refused, Exchanged, Calls, Step}

-- an exchange by its head, the lengths of its request and reply in bytes, its fault, and whether the
-- driver is notified (VIRTIO 1.2, 2.7.7 and 2.7.8)
abbrev pub returned_exchange : Exchange → (notice : Bool) → Returned
returned_exchange x notice =
    record {
      head = x.head;
      request_len = length x.request;
      reply_len = length x.reply;
      fault = x.fault;
      notify = notice;
    }

-- the end of a step: no chain is available, a chain was exchanged, or it is refused
abbrev pub returned : StepEnd → Result (Option Returned) DeviceError
returned Idle = Ok None
returned (Exchanged x notice) = Ok (Some (returned_exchange x notice))
returned (Refused e) = Err e

-- a step on queue i may have this result, with some calls, and leave this state
abbrev pub StepReturned :
    {F : Type 0} → May F → State F → ℕ → Result (Option Returned) DeviceError → State F → Type 0
StepReturned may before i result after =
    (calls : Calls) × (outcome : StepEnd) × Step may before i calls outcome after
    × (result ≡ returned outcome)
