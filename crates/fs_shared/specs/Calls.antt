-- The calls on the state under the lock, by cases on the result.
use Rattle.std.specs.Prelude.{◌≡◌, ℕ, Bool, true, false, [], ◌∷◌, ◌++◌, length, Result, Ok, Err, Vec}
use Rattle.std.specs.Global.{Global}
use Rattle.fs_queue.specs.declared.fault.QueueError.TheVariants as stop
use Rattle.server_meanings.specs.Serving.{May}
use Rattle.plain_machine.specs.declared.error.DeviceError.{DeviceError}
use Rattle.plain_machine.specs.declared.error.DeviceError.TheVariants as device
use Rattle.plain_machine.specs.declared.refusal.Refusal.{Refusal}
use Rattle.plain_machine.specs.declared.refusal.Refusal.TheVariants as why
use Rattle.plain_machine.specs.Step as step
use Rattle.plain_machine.specs.Step.{Step}
use Rattle.plain_machine.specs.Run.{Command, GuestRead, Kick, Affects, Bytes, IsRefused, Performs}
use Rattle.fs_device.specs.CommandView.{command_of}
use Rattle.fs_shared.specs.declared.entry.Kicked as kicked
use Rattle.fs_shared.specs.declared.entry.Receipt.{Receipt}
use Rattle.fs_shared.specs.Replay.{Plays}
use Rattle.fs_shared.specs.Held.{HasWaiting, Held, WouldDo, came_of}

-- the call had its effect, added one entry for it to the journal, and returned the entry's receipt
pub record Journals {F : Type 0} (may : May F) (before : Held F) (command : Command) (r : Receipt)
    (after : Held F) : Type 0 where
  pub plays : Plays may before.machine command (came_of r.outcome) r.pages.items after.machine
  pub journal : after.journal ≡
      before.journal ++ record {
        command = command;
        outcome = came_of r.outcome;
        options = after.machine.options;
        pages = r.pages.items;
      } ∷ []
  pub start : after.start ≡ before.start
  pub number : r.number ≡ length before.journal
  pub receipt : command_of r.command ≡ command

-- the call is a step of queue i with this end that changes nothing
abbrev pub CallChangesNothing : {F : Type 0} → May F → Held F → ℕ → step.StepEnd → Held F → Type 0
CallChangesNothing may before i outcome after =
    Step may before.machine i [] outcome before.machine × (after ≡ before)

-- a kick serves one chain; it is idle or refused only if the step ends so; `OutOfMemory` changes nothing, and
-- is returned only if the queue offers a chain or a refusal
abbrev pub KicksBy : {F : Type 0} → May F → Held F → ℕ → Result (kicked.Kicked) DeviceError → Held F → Type 0
KicksBy may before i (Ok (kicked.TheVariants.Done r)) after = Journals may before (Kick i 1) r after
KicksBy may before i (Ok kicked.TheVariants.Idle) after = CallChangesNothing may before i step.Idle after
KicksBy may before i (Err device.NoSuchQueue) after =
    CallChangesNothing may before i (step.Refused device.NoSuchQueue) after
KicksBy may before i (Err (device.Queue stop.Stopped)) after =
    CallChangesNothing may before i (step.Refused (device.Queue stop.Stopped)) after
KicksBy may before i (Err (device.Queue stop.OutOfMemory)) after =
    HasWaiting before.machine i × (after ≡ before)
KicksBy may before i (Err (device.Queue _)) after = ⊥

-- a guest's write or a new layout is refused only if the machine refuses it so; `OutOfMemory` changes
-- nothing, and is returned only if the machine would make the change
abbrev pub JournalsOrRefuses :
    {F : Type 0} → May F → Held F → Command → Result Receipt Refusal → Held F → Type 0
JournalsOrRefuses may before command (Ok r) after = Journals may before command r after
JournalsOrRefuses may before command (Err why.OutOfMemory) after =
    WouldDo before.machine command × (after ≡ before)
JournalsOrRefuses may before command (Err e) after =
    Affects before.machine command (IsRefused e) before.machine × (after ≡ before)

-- a guest's read has the machine's answer, and changes nothing
abbrev pub ReadsBy : {F : Type 0} → May F → Held F → (addr len : ℕ) → Result (Vec ℕ Global) Refusal → Type 0
ReadsBy may held addr len (Ok bytes) =
    Performs may held.machine (GuestRead addr len) [] (Bytes bytes.items) held.machine
ReadsBy may held addr len (Err e) =
    Performs may held.machine (GuestRead addr len) [] (IsRefused e) held.machine

-- whether a kick was journaled
abbrev pub did_kick : Result (kicked.Kicked) DeviceError → Bool
did_kick (Ok (kicked.TheVariants.Done r)) = true
did_kick _ = false

-- whether a guest's write or a new layout was journaled
abbrev pub did : Result Receipt Refusal → Bool
did (Ok r) = true
did (Err e) = false
