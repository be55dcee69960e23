-- The event of a machine, as the code makes it for the journal and for the receipt.
use Rattle.std.specs.Prelude.{◌≡◌, ◌≤◌, ◌+◌, ℕ, List, [], length, Option, Some, None, Result, Ok, Err}
use Rattle.std.specs.Prelude.{vec_capacity}
use Rattle.fs_queue.specs.declared.fault.QueueError.TheVariants as stop
use Rattle.fs_queue.specs.Windows.{Taken, room_places}
use Rattle.server_meanings.specs.Serving.{May}
use Rattle.plain_machine.specs.declared.error.DeviceError.{DeviceError}
use Rattle.plain_machine.specs.declared.error.DeviceError.TheVariants as device
use Rattle.plain_machine.specs.Step as step
use Rattle.plain_machine.specs.Step.{State, Step}
use Rattle.plain_machine.specs.Run.{Command, Kick}
use Rattle.fs_device.specs.CommandView.{command_of}
use Rattle.fs_shared.specs.declared.recorded.Recorded.{Recorded}
use Rattle.fs_shared.specs.declared.kicking.ReplyRoom.{ReplyRoom}
use Rattle.fs_shared.specs.Held.{HasWaiting, came_of}
use Rattle.fs_shared.specs.Replay.{Plays}
use Rattle.fs_shared.specs.ReturnRuns.{AreReturnRuns}

-- the machine carried out a command, and entry and receipt both hold its event
pub record KeepsEvent {F : Type 0} (may : May F) (before : State F) (command : Command) (recorded : Recorded)
    (after : State F) : Type 0 where
  pub plays : Plays may before command (came_of recorded.entry.outcome) recorded.entry.pages.items after
  pub entry : command_of recorded.entry.command ≡ command
  pub receipt : command_of recorded.receipt.command ≡ command
  pub outcome : came_of recorded.receipt.outcome ≡ came_of recorded.entry.outcome
  pub pages : recorded.receipt.pages.items ≡ recorded.entry.pages.items

-- the machine made a step of queue i with this end that changes nothing
abbrev pub StepChangesNothing : {F : Type 0} → May F → State F → ℕ → step.StepEnd → State F → Type 0
StepChangesNothing may before i outcome after = Step may before i [] outcome before × (after ≡ before)

-- a kick of a machine for one chain, by cases on the result as in `KicksBy`
abbrev pub KickKeeps :
    {F : Type 0} → May F → State F → ℕ → Result (Option Recorded) DeviceError → State F → Type 0
KickKeeps may before i (Ok (Some recorded)) after = KeepsEvent may before (Kick i 1) recorded after
KickKeeps may before i (Ok None) after = StepChangesNothing may before i step.Idle after
KickKeeps may before i (Err device.NoSuchQueue) after =
    StepChangesNothing may before i (step.Refused device.NoSuchQueue) after
KickKeeps may before i (Err (device.Queue stop.Stopped)) after =
    StepChangesNothing may before i (step.Refused (device.Queue stop.Stopped)) after
KickKeeps may before i (Err (device.Queue stop.OutOfMemory)) after = HasWaiting before i × (after ≡ before)
KickKeeps may before i (Err (device.Queue _)) after = ⊥

-- memory for a copy of the exchange of a taken chain with this request, and for two lists of the pages that
-- its return writes; the blocks have these lengths
pub record IsRoomFor (block_lengths : List ℕ) (t : Taken) (bytes : List ℕ) (room : ReplyRoom) : Type 0 where
  pub request : room.request.items ≡ bytes
  pub reply : room.reply.items ≡ []
  pub reply_fits : room_places t.chain ≤ vec_capacity room.reply
  pub runs : AreReturnRuns block_lengths t room.runs
  pub pages : room.pages.items ≡ []
  pub pages_fit : length room.runs.room.items + length room.runs.used.items ≤ vec_capacity room.pages
  pub copy : room.pages_copy.items ≡ []
  pub copy_fits : length room.runs.room.items + length room.runs.used.items ≤ vec_capacity room.pages_copy
