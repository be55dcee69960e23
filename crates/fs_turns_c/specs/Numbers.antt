-- The machine of a queue's threads by the numbers that C keeps and gets.
use Rattle.std.specs.Prelude.{ℕ, ◌+◌, ◌==◌, Bool, false, not, ◌||◌, nat_lt, if◌then◌else◌}
use Rattle.fs_turns_c.specs.declared.turns.FsTurns.{FsTurns}
use Rattle.fs_turns.specs.declared.machine.Turns.{Turns}
use Rattle.fs_turns.specs.declared.machine.TurnOrders.{TurnOrders}
use Rattle.fs_turns.specs.declared.machine.Seen.{Seen}
use Rattle.fs_turns.specs.declared.machine.Notifications.{Notifications}
use Rattle.fs_turns.specs.declared.machine.Notifications.TheVariants.{Unknown, Disabled, Enabled}
use Rattle.fs_turns.specs.declared.machine.TurnEvent.{TurnEvent}
use Rattle.fs_turns.specs.declared.machine.TurnPhase.{TurnPhase}
use Rattle.fs_turns.specs.declared.machine.TurnPhase.TheVariants.{Free, Resumes, Pops, ArmsToSleep}
use Rattle.fs_turns.specs.declared.machine.TurnPhase.TheVariants.{ArmsToAnswer, Looks, Mutes}
use Rattle.fs_turns.specs.declared.machine.TurnAction.{TurnAction}
use Rattle.fs_turns.specs.declared.machine.TurnAction.TheVariants as act
use Rattle.fs_turns.specs.Next.{Next, next, reset_turns, wrong}

abbrev pub notifications_of : (kind at : ℕ) → Notifications
notifications_of kind at = if kind == 0 then Unknown else (if kind == 1 then Disabled else Enabled at)

abbrev pub phase_of : ℕ → TurnPhase
phase_of n =
    if n == 0
    then Free
    else (if n == 1
    then Resumes
    else (if n == 2
    then Pops
    else (if n == 3
    then ArmsToSleep
    else (if n == 4 then ArmsToAnswer else (if n == 5 then Looks else Mutes)))))

abbrev pub turns_of : FsTurns → Turns
turns_of f =
    record {
      by_event = not (f.event_index == 0);
      notifications = notifications_of f.notifications f.enabled_at;
      sleeping = f.sleeping;
      called = not (f.called == 0);
      owed = not (f.owed == 0);
      phase = phase_of f.phase;
    }

abbrev pub action_number : TurnAction → ℕ
action_number act.Wrong = 0
action_number act.Resume = 1
action_number act.Pop = 2
action_number act.Arm = 3
action_number act.Look = 4
action_number act.Mute = 5
action_number act.Answer = 6
action_number act.Sleep = 7
action_number act.StepAside = 8
action_number act.Stop = 9

-- PK_DO_.., PK_WAKE_ONE and PK_INTERRUPT
abbrev pub orders_number : TurnOrders → ℕ
orders_number o = action_number o.action + (if o.wakes then 256 else 0) + (if o.interrupts then 512 else 0)

-- 7 and more are no phase: then no event can happen
abbrev pub next_of : FsTurns → TurnEvent → Seen → Next
next_of f e s = if nat_lt f.phase 7 then next (turns_of f) e s else wrong (turns_of f)

-- what a thread sees
abbrev pub seen_of : (next_avail : ℕ) → (is_full another_comes : Bool) → Seen
seen_of next_avail is_full another_comes =
    record { next_avail = next_avail; is_full = is_full; another_comes = another_comes }

-- the same by C's numbers
abbrev pub seen_by : (next_avail is_full another_comes : ℕ) → Seen
seen_by next_avail is_full another_comes =
    seen_of next_avail (not (is_full == 0)) (not (another_comes == 0))

-- for an event whose step looks at nothing else
abbrev pub nothing_seen : Seen
nothing_seen = seen_of 0 false false

-- the turns, and the orders' number, after an event
abbrev pub turned : FsTurns → TurnEvent → Seen → Turns
turned f e s = (next_of f e s).turns

abbrev pub ordered : FsTurns → TurnEvent → Seen → ℕ
ordered f e s = orders_number (next_of f e s).orders

-- before an event, or in a pop
abbrev pub may_reset_by : ℕ → Bool
may_reset_by phase = phase == 0 || phase == 2

-- after a reset
abbrev pub reset_by : FsTurns → (event_index : Bool) → Turns
reset_by f event_index = if may_reset_by f.phase then reset_turns (turns_of f) event_index else turns_of f
