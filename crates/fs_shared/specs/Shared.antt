-- The calls on a shared device, by some state under its lock: threads take turns, so contracts can't name it.
use Rattle.std.specs.Prelude.{ℕ, Result, Vec}
use Rattle.std.specs.Global.{Global}
use Rattle.server_meanings.specs.Serving.{May}
use Rattle.plain_machine.specs.declared.error.DeviceError.{DeviceError}
use Rattle.plain_machine.specs.declared.refusal.Refusal.{Refusal}
use Rattle.plain_machine.specs.Run.{Command}
use Rattle.fs_shared.specs.declared.entry.Kicked as kicked
use Rattle.fs_shared.specs.declared.entry.Receipt.{Receipt}
use Rattle.fs_shared.specs.Held.{Held}
use Rattle.fs_shared.specs.Laws.{HoldsReplay}
use Rattle.fs_shared.specs.Calls.{JournalsOrRefuses, KicksBy, ReadsBy}

-- a kick has this result from some state to another, whose journal replays
abbrev pub KicksSome : {F : Type 0} → May F → ℕ → Result (kicked.Kicked) DeviceError → Type 0
KicksSome {F} may i result =
    (before : Held F) × (after : Held F) × KicksBy may before i result after × HoldsReplay after

-- a guest's write or a new layout has this result from some state to another, whose journal replays
abbrev pub ActsSome : {F : Type 0} → May F → Command → Result Receipt Refusal → Type 0
ActsSome {F} may command result =
    (before : Held F) × (after : Held F)
    × JournalsOrRefuses may before command result after
    × HoldsReplay after

-- a guest's read has this result in some state whose journal replays
abbrev pub ReadsGuest : {F : Type 0} → May F → (addr len : ℕ) → Result (Vec ℕ Global) Refusal → Type 0
ReadsGuest {F} may addr len result = (held : Held F) × ReadsBy may held addr len result × HoldsReplay held

-- the property holds of the receipt, if the kick was journaled
abbrev pub IfDone : (Receipt → Type 0) → kicked.Kicked → Type 0
IfDone P (kicked.TheVariants.Done r) = P r
IfDone P kicked.TheVariants.Idle = Unit {0}
