-- What the machine does: its next state and the thread's orders, by its phase and the event.
use Rattle.std.specs.Prelude.{ℕ, ◌+◌, ◌-◌, ◌^◌, ◌==◌, Bool, true, false, not, ◌&&◌, ◌||◌, nat_lt}
use Rattle.std.specs.Prelude.{if◌then◌else◌}
use Rattle.fs_turns.specs.declared.machine.Turns.{Turns}
use Rattle.fs_turns.specs.declared.machine.TurnOrders.{TurnOrders}
use Rattle.fs_turns.specs.declared.machine.Seen.{Seen}
use Rattle.fs_turns.specs.declared.machine.Notifications.{Notifications}
use Rattle.fs_turns.specs.declared.machine.Notifications.TheVariants.{Unknown, Disabled, Enabled}
use Rattle.fs_turns.specs.declared.machine.TurnPhase.{TurnPhase}
use Rattle.fs_turns.specs.declared.machine.TurnPhase.TheVariants.{Free, Resumes, Pops, ArmsToSleep}
use Rattle.fs_turns.specs.declared.machine.TurnPhase.TheVariants.{ArmsToAnswer, Looks, Mutes}
use Rattle.fs_turns.specs.declared.machine.TurnEvent.{TurnEvent}
use Rattle.fs_turns.specs.declared.machine.TurnEvent.TheVariants.{Woken, Back, Resumed, NoneResumed, Popped}
use Rattle.fs_turns.specs.declared.machine.TurnEvent.TheVariants.{Idle, Full, Paused, Later, Refused}
use Rattle.fs_turns.specs.declared.machine.TurnEvent.TheVariants.{Armed, NotArmed, More, NoMore, Muted}
use Rattle.fs_turns.specs.declared.machine.TurnAction.{TurnAction}
use Rattle.fs_turns.specs.declared.machine.TurnAction.TheVariants as act

pub record Next : Type 0 where
  pub turns : Turns
  pub orders : TurnOrders

abbrev pub is_free : TurnPhase → Bool
is_free Free = true
is_free _ = false

abbrev pub begun_turns : (by_event : Bool) → Turns
begun_turns by_event =
    record {
      by_event = by_event;
      notifications = Unknown;
      sleeping = 0;
      called = false;
      owed = false;
      phase = Free;
    }

-- before a thread's event, or in its own pop
abbrev pub may_reset : TurnPhase → Bool
may_reset Free = true
may_reset Pops = true
may_reset _ = false

-- the queue was reset, while threads may sleep: memory says nothing of their notifications
abbrev pub reset_turns : Turns → (by_event : Bool) → Turns
reset_turns t by_event = record t { by_event = by_event; notifications = Unknown }

abbrev pub after_reset : Turns → (by_event : Bool) → Turns
after_reset t by_event = if may_reset t.phase then reset_turns t by_event else t

abbrev pub only : TurnAction → TurnOrders
only action = record { action = action; wakes = false; interrupts = false }

abbrev pub at_phase : Turns → TurnPhase → Turns
at_phase t phase = record t { phase = phase }

-- the thread keeps the lock
abbrev pub stays : Turns → TurnPhase → TurnAction → Next
stays t phase action = record { turns = at_phase t phase; orders = only action }

-- it releases the lock
abbrev pub leaves : Turns → TurnAction → (wakes : Bool) → Next
leaves t action wakes =
    record {
      turns = record t { phase = Free; owed = false };
      orders = record { action = action; wakes = wakes; interrupts = t.owed };
    }

abbrev pub wrong : Turns → Next
wrong t = record { turns = t; orders = only act.Wrong }

-- whether memory asks for a notification of the chain at the next position
abbrev pub is_enabled_at : (by_event : Bool) → Notifications → (position : ℕ) → Bool
is_enabled_at by_event Unknown position = false
is_enabled_at by_event Disabled position = false
is_enabled_at by_event (Enabled at) position = if by_event then at == position else true

abbrev pub is_disabled : Notifications → Bool
is_disabled Disabled = true
is_disabled _ = false

-- this thread wakes one that sleeps
abbrev pub wakes_one : Turns → Next
wakes_one t = leaves (record t { called = true }) act.Answer true

abbrev pub arms : Turns → TurnPhase → Next
arms t phase = stays (record t { notifications = Unknown }) phase act.Arm

-- no thread needs a notification while this one answers: none sleeps, or no chain may be popped
abbrev pub is_idle : Turns → Seen → Bool
is_idle t p = t.sleeping == 0 || p.is_full

-- or another thread is going to look
abbrev pub is_quiet : Turns → Seen → Bool
is_quiet t p = is_idle t p || (t.called || p.another_comes)

abbrev pub mutes : Turns → Seen → Bool
mutes t p = is_idle t p && (not t.by_event && not (is_disabled t.notifications))

-- the thread has a chain: before it answers, it sees to it that the next chain is found
abbrev pub hands_on : Turns → Seen → Next
hands_on t p =
    if is_quiet t p
    then (if mutes t p
    then stays (record t { notifications = Disabled }) Mutes act.Mute
    else leaves t act.Answer false)
    else (if is_enabled_at t.by_event t.notifications p.next_avail
    then stays t Looks act.Look
    else arms t ArmsToAnswer)

abbrev pub rests : Turns → Next
rests t =
    if t.sleeping == 2 ^ 64 - 1
    then leaves t act.StepAside false
    else leaves (record t { sleeping = t.sleeping + 1 }) act.Sleep false

-- it ends, and another thread continues
abbrev pub ends : Turns → Next
ends t =
    if t.sleeping == 0
    then leaves t act.Stop false
    else leaves (record t { called = true }) act.Stop true

-- it has taken the lock. `no_answer`: no chain waits whose answer came later
abbrev pub begins : Turns → (no_answer : Bool) → Next
begins t no_answer = if no_answer then stays t Pops act.Pop else stays t Resumes act.Resume

abbrev pub enters : Turns → TurnEvent → Next
enters t (Woken no_answer) =
    if t.sleeping == 0
    then wrong t
    else begins (record t { sleeping = t.sleeping - 1; called = false }) no_answer
enters t (Back notify no_answer) = begins (record t { owed = t.owed || notify }) no_answer
enters t _ = wrong t

abbrev pub resumes : Turns → TurnEvent → Seen → Next
resumes t (Resumed another) p =
    if another && (nat_lt 0 t.sleeping && not t.called) then wakes_one t else hands_on t p
resumes t NoneResumed p = stays t Pops act.Pop
resumes t Refused p = ends t
resumes t _ p = wrong t

abbrev pub finds_none : Turns → (polls : Bool) → Seen → Next
finds_none t polls p =
    if polls
    then leaves t act.StepAside false
    else (if is_enabled_at t.by_event t.notifications p.next_avail then rests t else arms t ArmsToSleep)

abbrev pub pops : Turns → TurnEvent → Seen → Next
pops t Popped p = hands_on t p
pops t (Idle polls) p = finds_none t polls p
pops t Full p = rests t
pops t Paused p = rests t
pops t Later p = leaves t act.StepAside false
pops t Refused p = ends t
pops t _ p = wrong t

abbrev pub arms_to_sleep : Turns → TurnEvent → Seen → Next
arms_to_sleep t Armed p = stays (record t { notifications = Enabled p.next_avail }) Pops act.Pop
arms_to_sleep t NotArmed p = leaves t act.StepAside false
arms_to_sleep t _ p = wrong t

abbrev pub arms_to_answer : Turns → TurnEvent → Seen → Next
arms_to_answer t Armed p = stays (record t { notifications = Enabled p.next_avail }) Looks act.Look
arms_to_answer t NotArmed p = wakes_one t
arms_to_answer t _ p = wrong t

abbrev pub looks : Turns → TurnEvent → Next
looks t More = wakes_one t
looks t NoMore = leaves t act.Answer false
looks t _ = wrong t

abbrev pub muted : Turns → TurnEvent → Next
muted t Muted = leaves t act.Answer false
muted t _ = wrong t

abbrev pub next_at : TurnPhase → Turns → TurnEvent → Seen → Next
next_at Free t e p = enters t e
next_at Resumes t e p = resumes t e p
next_at Pops t e p = pops t e p
next_at ArmsToSleep t e p = arms_to_sleep t e p
next_at ArmsToAnswer t e p = arms_to_answer t e p
next_at Looks t e p = looks t e
next_at Mutes t e p = muted t e

abbrev pub next : Turns → TurnEvent → Seen → Next
next t e p = next_at t.phase t e p
