-- each call keeps a journal that replays
use Rattle.std.proofs.Common.{◌≡◌, ℕ, sym, refl, subst, Result, Ok, Err}
use Rattle.fs_queue.specs.declared.fault.QueueError.TheVariants as stop
use Rattle.server_meanings.specs.Serving.{May}
use Rattle.plain_machine.specs.declared.error.DeviceError.{DeviceError}
use Rattle.plain_machine.specs.declared.error.DeviceError.TheVariants as device
use Rattle.plain_machine.specs.declared.refusal.Refusal.{Refusal}
use Rattle.plain_machine.specs.declared.refusal.Refusal.TheVariants as why
use Rattle.plain_machine.specs.Run.{Command, Kick}
use Rattle.fs_shared.specs.declared.entry.Kicked as kicked
use Rattle.fs_shared.specs.declared.entry.Receipt.{Receipt}
use Rattle.fs_shared.specs.Calls.{JournalsOrRefuses, Journals, KicksBy}
use Rattle.fs_shared.specs.Held.{Held, came_of}
use Rattle.fs_shared.specs.Laws.{HoldsReplay}
use Rattle.fs_shared.specs.Replay.{forget}
use Rattle.fs_shared.proofs.Appending.{replays_push}
use Rattle.fs_shared.proofs.Forgetting.{plays_forgets}

journaled : {F : Type 0} (may : May F) (before after : Held F) (command : Command) (r : Receipt) → HoldsReplay before →
    Journals may before command r after → HoldsReplay after
journaled may before after command r held j =
    rw (j.start, j.journal)
    (replays_push before.start (forget before.machine) (forget after.machine) before.journal
    (record { command = command; outcome = came_of r.outcome; options = after.machine.options; pages = r.pages.items }) held
    (plays_forgets may before.machine after.machine command (came_of r.outcome) r.pages.items j.plays) refl)

stayed : {F : Type 0} (before after : Held F) → HoldsReplay before → after ≡ before → HoldsReplay after
stayed {F} before after held same = subst (λ (h : Held F). HoldsReplay h) (sym same) held

pub kicks_replay : {F : Type 0} (may : May F) (before after : Held F) (i : ℕ) (result : Result (kicked.Kicked) DeviceError) →
    HoldsReplay before → KicksBy may before i result after → HoldsReplay after
kicks_replay may before after i (Ok (kicked.TheVariants.Done r)) held does = journaled may before after (Kick i 1) r held does
kicks_replay may before after i (Ok kicked.TheVariants.Idle) held does = stayed before after held does.1
kicks_replay may before after i (Err device.NoSuchQueue) held does = stayed before after held does.1
kicks_replay may before after i (Err (device.Queue stop.Stopped)) held does = stayed before after held does.1
kicks_replay may before after i (Err (device.Queue stop.OutOfMemory)) held does = stayed before after held does.1
kicks_replay may before after i (Err (device.Queue _)) held does = absurd does

pub acts_replay : {F : Type 0} (may : May F) (before after : Held F) (command : Command) (result : Result Receipt Refusal) →
    HoldsReplay before → JournalsOrRefuses may before command result after → HoldsReplay after
acts_replay may before after command (Ok r) held does = journaled may before after command r held does
acts_replay may before after command (Err why.OutOfMemory) held does = stayed before after held does.1
acts_replay may before after command (Err _) held does = stayed before after held does.1
