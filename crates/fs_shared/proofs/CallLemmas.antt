-- what lies under the lock after a call
use Rattle.std.proofs.Common.{◌≡◌, ℕ, List, ap, sym, subst, Ok, Err, Result}
use Rattle.fs_queue.specs.declared.fault.QueueError.TheVariants as stop
use Rattle.server_meanings.specs.Serving.{May}
use Rattle.plain_machine.specs.declared.error.DeviceError.{DeviceError}
use Rattle.plain_machine.specs.declared.error.DeviceError.TheVariants as device
use Rattle.plain_machine.specs.declared.refusal.Refusal.{Refusal}
use Rattle.plain_machine.specs.declared.refusal.Refusal.TheVariants as why
use Rattle.plain_machine.specs.Step.{State}
use Rattle.plain_machine.specs.Run.{Command, Kick}
use Rattle.fs_shared.specs.declared.entry.Kicked as kicked
use Rattle.fs_shared.specs.declared.entry.Receipt.{Receipt}
use Rattle.fs_shared.specs.declared.entry.Start.{Start}
use Rattle.fs_shared.specs.Calls.{JournalsOrRefuses, KicksBy}
use Rattle.fs_shared.specs.Held.{Held, FixedParts, came_of, fixed_of, start_of}
use Rattle.fs_shared.specs.Replay.{ReplayEntry, Replays, forget}
use Rattle.fs_shared.proofs.Appending.{plays_keeps}
use Rattle.fs_shared.proofs.Replaying.{acts_replay, kicks_replay}

same_fixed : {F : Type 0} (before after : Held F) → after ≡ before → fixed_of before.machine ≡ fixed_of after.machine
same_fixed {F} before after same = sym (ap (λ (h : Held F). fixed_of h.machine) same)

-- a kick keeps what no call changes
pub kicks_keep : {F : Type 0} (may : May F) (before after : Held F) (i : ℕ) (result : Result (kicked.Kicked) DeviceError) →
    KicksBy may before i result after → fixed_of before.machine ≡ fixed_of after.machine
kicks_keep may before after i (Ok (kicked.TheVariants.Done r)) does =
    plays_keeps may before.machine after.machine (Kick i 1) (came_of r.outcome) r.pages.items does.plays
kicks_keep may before after i (Ok kicked.TheVariants.Idle) does = same_fixed before after does.1
kicks_keep may before after i (Err device.NoSuchQueue) does = same_fixed before after does.1
kicks_keep may before after i (Err (device.Queue stop.Stopped)) does = same_fixed before after does.1
kicks_keep may before after i (Err (device.Queue stop.OutOfMemory)) does = same_fixed before after does.1
kicks_keep may before after i _ does = absurd does

-- so does a write or another layout
pub acts_keep : {F : Type 0} (may : May F) (before after : Held F) (command : Command) (result : Result Receipt Refusal) →
    JournalsOrRefuses may before command result after → fixed_of before.machine ≡ fixed_of after.machine
acts_keep may before after command (Ok r) does =
    plays_keeps may before.machine after.machine command (came_of r.outcome) r.pages.items does.plays
acts_keep may before after command (Err why.OutOfMemory) does = same_fixed before after does.1
acts_keep may before after command (Err _) does = same_fixed before after does.1

-- from the start the journal replays to the machine after a kick that is told so
pub kick_replays : {F : Type 0} (may : May F) (start : Start) (s after : State F) (before now : List ReplayEntry) (i : ℕ)
    (result : Result (kicked.Kicked) DeviceError) →
    Replays (start_of start (fixed_of s)) before (forget s) →
    ((t : State (Unit {0})) →
    KicksBy may (record { machine = s; start = t; journal = before }) i result (record { machine = after; start = t; journal = now })) →
    Replays (start_of start (fixed_of after)) now (forget after)
kick_replays {F} may start s after before now i result held does =
    let t = start_of start (fixed_of s) in
    let old : Held F = record { machine = s; start = t; journal = before } in
    let new : Held F = record { machine = after; start = t; journal = now } in
    subst (λ (f : FixedParts). Replays (start_of start f) now (forget after)) (kicks_keep may old new i result (does t))
    (kicks_replay may old new i result held (does t))

-- that start is the one of before
pub kick_starts : {F : Type 0} (may : May F) (start : Start) (s after : State F) (before now : List ReplayEntry) (i : ℕ)
    (result : Result (kicked.Kicked) DeviceError) →
    ((t : State (Unit {0})) →
    KicksBy may (record { machine = s; start = t; journal = before }) i result (record { machine = after; start = t; journal = now })) →
    KicksBy may (record { machine = s; start = start_of start (fixed_of s); journal = before }) i result
    (record { machine = after; start = start_of start (fixed_of after); journal = now })
kick_starts {F} may start s after before now i result does =
    let t = start_of start (fixed_of s) in
    let old : Held F = record { machine = s; start = t; journal = before } in
    let new : Held F = record { machine = after; start = t; journal = now } in
    subst (λ (f : FixedParts). KicksBy may old i result (record { machine = after; start = start_of start f; journal = now }))
    (kicks_keep may old new i result (does t)) (does t)

-- so it is after a write or another layout
pub act_replays : {F : Type 0} (may : May F) (start : Start) (s after : State F) (before now : List ReplayEntry) (command : Command)
    (result : Result Receipt Refusal) → Replays (start_of start (fixed_of s)) before (forget s) →
    ((t : State (Unit {0})) → JournalsOrRefuses may (record { machine = s; start = t; journal = before }) command result
    (record { machine = after; start = t; journal = now })) →
    Replays (start_of start (fixed_of after)) now (forget after)
act_replays {F} may start s after before now command result held does =
    let t = start_of start (fixed_of s) in
    let old : Held F = record { machine = s; start = t; journal = before } in
    let new : Held F = record { machine = after; start = t; journal = now } in
    subst (λ (f : FixedParts). Replays (start_of start f) now (forget after)) (acts_keep may old new command result (does t))
    (acts_replay may old new command result held (does t))

pub act_starts : {F : Type 0} (may : May F) (start : Start) (s after : State F) (before now : List ReplayEntry) (command : Command)
    (result : Result Receipt Refusal) →
    ((t : State (Unit {0})) → JournalsOrRefuses may (record { machine = s; start = t; journal = before }) command result
    (record { machine = after; start = t; journal = now })) →
    JournalsOrRefuses may (record { machine = s; start = start_of start (fixed_of s); journal = before }) command result
    (record { machine = after; start = start_of start (fixed_of after); journal = now })
act_starts {F} may start s after before now command result does =
    let t = start_of start (fixed_of s) in
    let old : Held F = record { machine = s; start = t; journal = before } in
    let new : Held F = record { machine = after; start = t; journal = now } in
    subst (λ (f : FixedParts). JournalsOrRefuses may old command result (record {
      machine = after;
      start = start_of start f;
      journal = now;
    }))
    (acts_keep may old new command result (does t)) (does t)
