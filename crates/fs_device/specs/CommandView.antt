-- Commands, answers and kicks in the plain machine's terms.
use Rattle.std.specs.Prelude.{◌≡◌, ◌<◌, ℕ, Bool, IsTrue, List, length, map, Option, None, Result, Ok, Err}
use Rattle.std.specs.Prelude.{slice_get}
use Rattle.fs_queue.specs.declared.fault.QueueError.TheVariants as stop
use Rattle.fs_device.specs.PageView.{page_view}
use Rattle.server_meanings.specs.Serving.{May}
use Rattle.plain_machine.specs.declared.error.DeviceError.{DeviceError}
use Rattle.plain_machine.specs.declared.error.DeviceError.TheVariants as device
use Rattle.fs_device.specs.declared.exchange.Exchange as code
use Rattle.fs_device.specs.declared.command.Command as fetched
use Rattle.fs_device.specs.declared.command.Answer as said
use Rattle.fs_device.specs.declared.queues.QueueRun.{QueueRun}
use Rattle.plain_machine.specs.Step.{State, Exchange}
use Rattle.plain_machine.specs.Run.{Command, GuestRead, GuestWrite, NewBlock, InsertRegion, RemoveRegion}
use Rattle.plain_machine.specs.Run.{SetLayout, Map, Unmap, UnmapAll, SetIommu, Kick, ResetQueue}
use Rattle.plain_machine.specs.Run.{Image, Harvest, KickAnswer, Answer, Done, Bytes, NewBlockIs, Served}
use Rattle.plain_machine.specs.Run.{Copied, Pages, IsRefused, Turns, shown, KickRun, kick_takes_memory}
use Rattle.fs_device.specs.DeviceView.{exchange_of}

-- an exchange with whether the driver is notified, in the plain machine's terms
abbrev pub exchanged_of : code.Exchange × Bool → Exchange × Bool
exchanged_of x = (exchange_of x.0, x.1)

-- the answer to a kick, in the plain machine's terms
abbrev pub kicked_of : QueueRun → KickAnswer
kicked_of run = record { exchanges = map exchanged_of run.done.items; refused = run.refused }

-- a command, in the plain machine's terms
abbrev pub command_of : fetched.Command → Command
command_of (fetched.TheVariants.GuestRead a n) = GuestRead a n
command_of (fetched.TheVariants.GuestWrite a bs) = GuestWrite a bs.items
command_of (fetched.TheVariants.NewBlock n) = NewBlock n
command_of (fetched.TheVariants.InsertRegion base block) = InsertRegion base block
command_of (fetched.TheVariants.RemoveRegion base size) = RemoveRegion base size
command_of (fetched.TheVariants.SetLayout layout) = SetLayout layout
command_of (fetched.TheVariants.Map iova target n perm) = Map iova target n perm
command_of (fetched.TheVariants.Unmap iova n) = Unmap iova n
command_of fetched.TheVariants.UnmapAll = UnmapAll
command_of (fetched.TheVariants.SetIommu on) = SetIommu on
command_of (fetched.TheVariants.Kick queue most) = Kick queue most
command_of (fetched.TheVariants.ResetQueue queue l) = ResetQueue queue l.size l.desc l.avail l.used
command_of fetched.TheVariants.Image = Image
command_of fetched.TheVariants.Harvest = Harvest

-- an answer, in the plain machine's terms
abbrev pub answer_of : said.Answer → Answer
answer_of said.TheVariants.Done = Done
answer_of (said.TheVariants.Bytes bs) = Bytes bs.items
answer_of (said.TheVariants.Block number) = NewBlockIs number
answer_of (said.TheVariants.Served run) = Served (kicked_of run)
answer_of (said.TheVariants.Copied host) = Copied host
answer_of (said.TheVariants.Pages pages) = Pages (map page_view pages.items)
answer_of (said.TheVariants.Refused why) = IsRefused why

-- a kick of an existing queue lists these exchanges, each with the calls that it made
abbrev pub KickLists : {F : Type 0} → May F → State F → (queue most : ℕ) → List (Exchange × Bool) →
    Option DeviceError → State F → Type 0
KickLists may s i most listed refused after =
    (turns : Turns) × KickRun may s i most turns refused after × (listed ≡ map shown turns)

-- the result of serving a queue's chains: `NoSuchQueue` if it is missing; `OutOfMemory` if the list of
-- exchanges can't be allocated, and then nothing is done; else a kick
abbrev pub ServesQueue :
    {F : Type 0} → May F → State F → (queue most : ℕ) → Result QueueRun DeviceError → State F → Type 0
ServesQueue may s i most (Ok run) after =
    (i < length s.queues) × KickLists may s i most (map exchanged_of run.done.items) run.refused after
ServesQueue may s i most (Err device.NoSuchQueue) after = (slice_get s.queues i ≡ None) × (after ≡ s)
ServesQueue may s i most (Err (device.Queue stop.OutOfMemory)) after =
    IsTrue (kick_takes_memory s i most) × (after ≡ s)
ServesQueue may s i most (Err e) after = ⊥
