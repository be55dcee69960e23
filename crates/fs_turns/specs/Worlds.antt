-- The threads of a queue that do what the machine returns, and a driver that keeps VIRTIO 1.2.
--
-- A move is at most one load or store that both sides see. A thread's move includes the call of `next` that
-- reports it, and the release of the lock if `next` orders that: until then the thread holds the lock, and
-- makes no other load or store that the driver sees.
use Rattle.std.specs.Prelude.{◌≡◌, ℕ, ◌+◌, ◌-◌, ◌^◌, ◌<◌, ◌≤◌, ◌==◌, Bool, true, false, not, ◌&&◌, ◌||◌, ◌⊎◌}
use Rattle.std.specs.Prelude.{nat_lt, nat_le, List, [], ◌∷◌, IsTrue, if◌then◌else◌}
use Rattle.notify.specs.Kicks.{ahead, back, moved, must}
use Rattle.notify.specs.Threads.{Ways, right_ways}
use Rattle.fs_turns.specs.declared.machine.Turns.{Turns}
use Rattle.fs_turns.specs.declared.machine.Seen.{Seen}
use Rattle.fs_turns.specs.declared.machine.TurnPhase.{TurnPhase}
use Rattle.fs_turns.specs.declared.machine.TurnPhase.TheVariants.{Free, Resumes, Pops, ArmsToSleep}
use Rattle.fs_turns.specs.declared.machine.TurnPhase.TheVariants.{ArmsToAnswer, Looks, Mutes}
use Rattle.fs_turns.specs.declared.machine.TurnEvent.{TurnEvent}
use Rattle.fs_turns.specs.declared.machine.TurnEvent.TheVariants.{Woken, Back, Resumed, NoneResumed, Popped}
use Rattle.fs_turns.specs.declared.machine.TurnEvent.TheVariants.{Idle, Full, Paused, Later, Refused}
use Rattle.fs_turns.specs.declared.machine.TurnEvent.TheVariants.{Armed, NotArmed, More, NoMore, Muted}
use Rattle.fs_turns.specs.declared.machine.TurnAction.{TurnAction}
use Rattle.fs_turns.specs.declared.machine.TurnAction.TheVariants as act
use Rattle.fs_turns.specs.Next.{Next, next_at, begun_turns, is_free}

pub record World : Type 0 where
  -- memory, the event that the threads sleep for, and the driver, as in the model
  pub index : ℕ
  pub event : ℕ
  pub muted : Bool
  pub pending : Bool
  pub published : ℕ
  pub unchecked : ℕ
  pub owes : Bool
  -- under the lock: the queue, and the machine. `stored`: the lock's holder made the store that enables
  -- notifications, and hasn't reported it. `wish` is the event that it stored, `hidden` says that this hasn't
  -- reached memory
  pub position : ℕ
  pub known : ℕ
  pub wish : ℕ
  pub hidden : Bool
  pub out : ℕ
  pub stored : Bool
  pub turns : Turns
  -- the numbers of threads that sleep; that woke, and wait for the lock; that report `Back` next, and wait
  -- for the lock; that answer a chain, do anything else, or have ended; that have yet to wake a thread
  pub sleepers : ℕ
  pub woken : ℕ
  pub coming : ℕ
  pub busy : ℕ
  pub signalers : ℕ
  -- the number of chains whose answers came later, and which wait for a thread that takes them up
  pub answered : ℕ
  -- no chain is to be popped for now
  pub paused : Bool
  -- a push wants an interrupt, and none was made since; the number of threads that have yet to make one
  pub undelivered : Bool
  pub interrupters : ℕ

pub data Move : Type 0 where
  -- the driver: as in the model
  Gives : (more : ℕ) → Move
  Arrives : (more : ℕ) → Move
  DriverChecks : Move
  DriverNotifies : Move
  -- the store of the wish reaches memory
  WishArrives : Move
  -- a thread that sleeps wakes, and takes the event or not
  Wakens : (takes : Bool) → Move
  -- a thread that is busy is done, and wants the lock
  Comes : Move
  -- a thread that has to signals the threads' event; or any other does
  Signals : Move
  SignalsToo : Move
  -- the queue is paused; it goes on, and what lets it do so signals the threads' event
  Pauses : Move
  GoesOn : Move
  -- an answer comes later, from a thread that then signals the threads' event
  AnswerComes : Move
  -- a thread takes the lock, and reports Woken; or takes it, pushes this many chains, and reports Back
  EntersWoken : (no_answer : Bool) → Move
  EntersBack : (pushed : ℕ) → (notify no_answer : Bool) → Move
  -- or takes it, drops its chain, the last one that was popped, and reports Back
  EntersDropping : (no_answer : Bool) → Move
  -- a thread interrupts the driver, as `next` ordered
  Interrupts : Move
  -- the lock's holder makes the store that enables notifications
  StoresWish : Move
  -- the lock's holder performs its action, and reports the event. `fresh`: it has loaded the index, or made
  -- the store that disables notifications. `comes`: it saw that another thread waits for the lock
  Reports : (event : TurnEvent) → (fresh : Bool) → (comes : Bool) → Move

abbrev pub is_arming : TurnPhase → Bool
is_arming ArmsToSleep = true
is_arming ArmsToAnswer = true
is_arming _ = false

-- whether the event may be reported: what it says is true
abbrev pub is_resumed : World → TurnEvent → Bool
is_resumed w (Resumed another) = nat_lt 0 w.answered && (another || nat_le w.answered 1)
is_resumed w NoneResumed = w.answered == 0
is_resumed w Refused = true
is_resumed w _ = false

abbrev pub is_popped : Ways → World → TurnEvent → (fresh : Bool) → Bool
is_popped r w Popped fresh =
    nat_lt w.out r.max_in_flight && nat_lt 0 (ahead (if fresh then w.index else w.known) w.position)
is_popped r w (Idle polls) fresh = w.index == w.position || nat_le r.max_in_flight w.out
is_popped r w Full fresh = nat_le r.max_in_flight w.out
is_popped r w Paused fresh = w.paused
is_popped r w Later fresh = true
is_popped r w Refused fresh = true
is_popped r w _ fresh = false

-- the barrier: the store has reached memory
abbrev pub is_armed : World → TurnEvent → Bool
is_armed w Armed = w.stored && not w.hidden
is_armed w NotArmed = not w.stored
is_armed w _ = false

abbrev pub is_looked : World → TurnEvent → Bool
is_looked w More = true
is_looked w NoMore = w.index == w.position
is_looked w _ = false

abbrev pub is_muted : TurnEvent → Bool
is_muted Muted = true
is_muted _ = false

abbrev pub may_report : Ways → TurnPhase → World → TurnEvent → (fresh : Bool) → Bool
may_report r Free w e fresh = false
may_report r Resumes w e fresh = is_resumed w e
may_report r Pops w e fresh = is_popped r w e fresh
may_report r ArmsToSleep w e fresh = is_armed w e
may_report r ArmsToAnswer w e fresh = is_armed w e
may_report r Looks w e fresh = is_looked w e
may_report r Mutes w e fresh = is_muted e

-- what the thread did before it reports an event
abbrev pub done : World → TurnEvent → (fresh : Bool) → World
done w (Resumed another) fresh = record w { answered = w.answered - 1 }
done w Popped fresh =
    record w { known = if fresh then w.index else w.known; position = moved w.position 1; out = w.out + 1 }
done w (Idle polls) fresh = record w { known = w.index }
done w Later fresh = record w { known = if fresh then w.index else w.known }
done w Armed fresh = record w { stored = false }
done w NoMore fresh = record w { known = w.index }
done w Muted fresh = record w { muted = fresh || w.muted }
done w _ fresh = w

abbrev pub after_action : World → (wakes : Bool) → TurnAction → World
after_action w wakes act.Answer =
    record w { busy = w.busy + 1; signalers = if wakes then w.signalers + 1 else w.signalers }
after_action w wakes act.Sleep = record w { sleepers = w.sleepers + 1 }
after_action w wakes act.StepAside = record w { coming = w.coming + 1 }
after_action w wakes act.Stop =
    record w { busy = w.busy + 1; signalers = if wakes then w.signalers + 1 else w.signalers }
after_action w wakes _ = w

-- what the orders change
abbrev pub settles : World → Next → World
settles w n =
    after_action
    (record w {
      turns = n.turns;
      interrupters = if n.orders.interrupts then w.interrupters + 1 else w.interrupters;
    })
    n.orders.wakes n.orders.action

abbrev pub seen_of : Ways → World → (comes : Bool) → Seen
seen_of r w comes =
    record { next_avail = w.position; is_full = nat_le r.max_in_flight w.out; another_comes = comes }

abbrev pub reports_at : Ways → TurnPhase → World → TurnEvent → (comes : Bool) → World
reports_at r phase w e comes = settles w (next_at phase w.turns e (seen_of r w comes))

abbrev pub may_move : Ways → World → Move → Bool
may_move r w (Gives more) =
    nat_le (ahead w.published w.position + w.out + more) r.size && nat_lt (w.unchecked + more) (2 ^ 16)
may_move r w (Arrives more) = nat_le more (ahead w.published w.index)
may_move r w DriverChecks = w.index == w.published
may_move r w DriverNotifies = true
may_move r w WishArrives = w.hidden
may_move r w (Wakens takes) = nat_lt 0 w.sleepers
may_move r w Comes = nat_lt 0 w.busy
may_move r w Signals = nat_lt 0 w.signalers
may_move r w SignalsToo = true
may_move r w Pauses = true
may_move r w GoesOn = true
may_move r w AnswerComes = true
may_move r w (EntersWoken no_answer) =
    is_free w.turns.phase && (nat_lt 0 w.woken && (not no_answer || w.answered == 0))
may_move r w (EntersBack pushed notify no_answer) =
    is_free w.turns.phase
    && (nat_lt 0 w.coming && (nat_le pushed w.out && (not no_answer || w.answered == 0)))
may_move r w (EntersDropping no_answer) =
    is_free w.turns.phase && (nat_lt 0 w.coming && (nat_lt 0 w.out && (not no_answer || w.answered == 0)))
may_move r w Interrupts = nat_lt 0 w.interrupters
may_move r w StoresWish = is_arming w.turns.phase && not w.stored
may_move r w (Reports e fresh comes) =
    may_report r w.turns.phase w e fresh && (not comes || nat_lt 0 w.coming)

abbrev pub after_move : Ways → World → Move → World
after_move r w (Gives more) =
    record w { published = moved w.published more; unchecked = w.unchecked + more }
after_move r w (Arrives more) = record w { index = moved w.index more }
after_move r w DriverChecks =
    record w { owes = w.owes || must r.by_event w.event w.muted w.published w.unchecked; unchecked = 0 }
after_move r w DriverNotifies = record w { owes = false; pending = true }
after_move r w WishArrives = record w { event = w.wish; muted = false; hidden = false }
after_move r w (Wakens takes) =
    record w { pending = w.pending && not takes; sleepers = w.sleepers - 1; woken = w.woken + 1 }
after_move r w Comes = record w { busy = w.busy - 1; coming = w.coming + 1 }
after_move r w Signals = record w { signalers = w.signalers - 1; pending = true }
after_move r w SignalsToo = record w { pending = true }
after_move r w Pauses = record w { paused = true }
after_move r w GoesOn = record w { paused = false; pending = true }
after_move r w AnswerComes = record w { answered = w.answered + 1; signalers = w.signalers + 1 }
after_move r w (EntersWoken no_answer) =
    reports_at r w.turns.phase (record w { woken = w.woken - 1 }) (Woken no_answer) false
after_move r w (EntersBack pushed notify no_answer) =
    reports_at r w.turns.phase
    (record w { coming = w.coming - 1; out = w.out - pushed; undelivered = w.undelivered || notify })
    (Back notify no_answer) false
after_move r w (EntersDropping no_answer) =
    reports_at r w.turns.phase
    (record w { coming = w.coming - 1; position = back w.position 1; out = w.out - 1 })
    (Back false no_answer) false
after_move r w Interrupts = record w { interrupters = w.interrupters - 1; undelivered = false }
after_move r w StoresWish = record w { stored = true; wish = w.position; hidden = true }
after_move r w (Reports e fresh comes) = reports_at r w.turns.phase (done w e fresh) e comes

abbrev pub Moves : Ways → World → List Move → World → Type 0
Moves r w [] end = end ≡ w
Moves r w (e ∷ es) end = IsTrue (may_move r w e) × Moves r (after_move r w e) es end

-- a queue whose index begins anywhere, with this many chains available: all threads are on their way to the
-- lock
abbrev pub begun : (place waiting event : ℕ) → (muted by_event : Bool) → (threads : ℕ) → World
begun place waiting event muted by_event threads =
    record {
      index = moved place waiting;
      event = event;
      muted = muted;
      pending = false;
      published = moved place waiting;
      unchecked = 0;
      owes = false;
      position = place;
      known = place;
      wish = 0;
      hidden = false;
      out = 0;
      stored = false;
      turns = begun_turns by_event;
      sleepers = 0;
      woken = 0;
      coming = threads;
      busy = 0;
      signalers = 0;
      answered = 0;
      paused = false;
      undelivered = false;
      interrupters = 0;
    }

-- a thread sleeps, and no thread is going to look for chains: none holds the lock, waits for it, or has yet
-- to wake a thread, and no event is pending
pub record IsForgotten (w : World) : Type 0 where
  pub nobody : w.turns.phase ≡ Free
  pub sleeps : 0 < w.sleepers
  pub none_woken : w.woken ≡ 0
  pub none_coming : w.coming ≡ 0
  pub none_signals : w.signalers ≡ 0
  pub not_pending : w.pending ≡ false

-- a chain is available and may be popped, and the queue isn't paused. The driver has checked since it
-- published, and doesn't notify
pub record HasChain (r : Ways) (w : World) : Type 0 where
  pub available : w.index ≡ w.position → ⊥
  pub may_be_out : w.out < r.max_in_flight
  pub not_paused : w.paused ≡ false
  pub not_owed : w.owes ≡ false
  pub checked : w.unchecked ≡ 0

-- theorem: then no chain is available, and none waits whose answer came later
abbrev pub NoTurnIsLost : Type 0
NoTurnIsLost =
    (size max_in_flight place waiting event threads : ℕ)
    (by_event muted : Bool) (es : List Move) (end : World)
    → size < 2 ^ 16
    → place < 2 ^ 16
    → waiting ≤ size
    → Moves (right_ways size max_in_flight by_event) (begun place waiting event muted by_event threads) es end
    → IsForgotten end
    → HasChain (right_ways size max_in_flight by_event) end ⊎ (0 < end.answered)
    → ⊥

-- theorem: while a push wants an interrupt, a thread has yet to make one, or holds the lock
abbrev pub NoInterruptIsLost : Type 0
NoInterruptIsLost =
    (size max_in_flight place waiting event threads : ℕ)
    (by_event muted : Bool) (es : List Move) (end : World)
    → Moves (right_ways size max_in_flight by_event) (begun place waiting event muted by_event threads) es end
    → end.turns.phase ≡ Free
    → end.interrupters ≡ 0
    → end.undelivered ≡ false
