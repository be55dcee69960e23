-- A live run and the threads of one of its queues, in one order: what a thread's call returned is what the
-- thread reports to the queue's machine of turns. Other queues may be served in any way.
use Rattle.std.specs.Prelude.{◌≡◌, ℕ, ◌<◌, ◌≤◌, ◌^◌, ◌==◌, Bool, true, false, not, ◌&&◌, ◌⊎◌, IsTrue}
use Rattle.std.specs.Prelude.{List, [], ◌∷◌, Some, slice_get, if◌then◌else◌}
use Rattle.vm_memory.specs.Memory.{Memory}
use Rattle.fs_queue.specs.Returning.{Store}
use Rattle.fs_regions.specs.declared.step.CourseStep as comes
use Rattle.fs_regions.specs.declared.step.CourseStep.TheVariants as step
use Rattle.fs_regions.specs.Walks.{Loaded}
use Rattle.server_meanings.specs.Serving.{May}
use Rattle.live_machine.specs.Live.{EndsPop, GivesUpChain, Happens, HasNoneInFlight, HasValidMaximum}
use Rattle.live_machine.specs.Live.{LiveEvent, LiveState, MovesDevice, PushesChain, RefusesPop, ResetsQueue}
use Rattle.live_machine.specs.Live.{StoresNotification}
use Rattle.live_machine.specs.Several.{LiveQueue, in_flight, may_take, sleep_store}
use Rattle.notify.specs.Threads.{Ways, right_ways}
use Rattle.fs_notify.specs.Takers.{IsIndex}
use Rattle.fs_turns.specs.declared.machine.TurnEvent.TheVariants.{Idle, Muted, Paused, Popped, Refused}
use Rattle.fs_turns.specs.declared.machine.TurnPhase.TheVariants.{Free}
use Rattle.fs_turns.specs.Lives.{Life, begun_again}
use Rattle.fs_turns.specs.Next.{may_reset}
use Rattle.fs_turns.specs.Worlds.{EntersBack, EntersDropping, IsForgotten, Move, Reports, StoresWish, World}
use Rattle.fs_turns.specs.Worlds.{after_move, begun, may_move}

-- the rules of a queue's threads, by its size, its features and its limit
abbrev pub ways_in_run : LiveQueue → Ways
ways_in_run q = right_ways q.queue.size q.max_in_flight q.event_index

-- the threads' world has the queue's next position, and as many chains in flight (VIRTIO 1.2, 2.7.6, 2.7.8)
abbrev pub IsWorldIn : LiveQueue → World → Type 0
IsWorldIn q w = (w.position ≡ q.queue.position) × (w.out ≡ in_flight q)

-- ---- what a thread reports

-- a pop that is refused: the thread ends, or waits until the queue is reset
abbrev pub ReportsRefusal : Move → Type 0
ReportsRefusal move =
    (fresh : Bool) × (other : Bool)
    × ((move ≡ Reports Refused fresh other) ⊎ (move ≡ Reports Paused fresh other))

-- a pop that ended. The index that it was given is the one in memory, or for a chain the one that any thread
-- loaded last (2.7.13)
abbrev pub ReportsPop : World → Loaded → comes.CourseStep → Move → Type 0
ReportsPop w loaded (step.Chain head fault) move =
    (fresh : Bool) × (other : Bool)
    × IsIndex loaded (if fresh then w.index else w.known)
    × (move ≡ Reports Popped fresh other)
ReportsPop w loaded step.Idle move =
    (polls : Bool) × (fresh : Bool) × (other : Bool)
    × IsIndex loaded w.index
    × (move ≡ Reports (Idle polls) fresh other)
ReportsPop w loaded (step.Refused e) move = ReportsRefusal move
ReportsPop w loaded _ move = ⊥

-- a store that enables or disables notifications (2.7.10)
abbrev pub ReportsStore : LiveQueue → Store → Move → Type 0
ReportsStore q store move =
    ((sleep_store q true ≡ Some store) × (move ≡ StoresWish))
    ⊎ ((sleep_store q false ≡ Some store) × (other : Bool) × (move ≡ Reports Muted true other))

-- the event is a call of a thread of queue i, and this move its report. A push's is Back, with whether the
-- driver is to be notified (2.7.7)
abbrev pub IsMoveOf : (i : ℕ) → LiveQueue → World → LiveEvent → Move → Type 0
IsMoveOf i q w (EndsPop j loaded ds came) move = (j ≡ i) × ReportsPop w loaded came move
IsMoveOf i q w (RefusesPop j e) move = (j ≡ i) × ReportsRefusal move
IsMoveOf i q w (PushesChain c x notice last used seen) move =
    (c.queue ≡ i) × (no_answer : Bool) × (move ≡ EntersBack 1 notice no_answer)
IsMoveOf i q w (GivesUpChain c) move =
    (c.queue ≡ i) × (no_answer : Bool) × (move ≡ EntersDropping no_answer)
IsMoveOf i q w (StoresNotification j store) move = (j ≡ i) × ReportsStore q store move
IsMoveOf i q w _ move = ⊥

-- an event of another queue, or one that changes no queue
abbrev pub IsElsewhere : (i : ℕ) → LiveEvent → Type 0
IsElsewhere i (EndsPop j loaded ds came) = j ≡ i → ⊥
IsElsewhere i (RefusesPop j e) = j ≡ i → ⊥
IsElsewhere i (PushesChain c x notice last used seen) = c.queue ≡ i → ⊥
IsElsewhere i (GivesUpChain c) = c.queue ≡ i → ⊥
IsElsewhere i (StoresNotification j store) = j ≡ i → ⊥
IsElsewhere i (ResetsQueue j q) = j ≡ i → ⊥
IsElsewhere i (MovesDevice m queues) = ⊥
IsElsewhere i _ = Unit {0}

-- a move that is no call's report: the driver's, a signal, an answer that comes later, a load
abbrev pub is_without_call : Move → Bool
is_without_call (EntersBack pushed notify no_answer) = pushed == 0 && not notify
is_without_call (EntersDropping no_answer) = false
is_without_call StoresWish = false
is_without_call (Reports Popped fresh other) = false
is_without_call (Reports (Idle polls) fresh other) = false
is_without_call (Reports Muted fresh other) = not fresh
is_without_call _ = true

-- ---- the run

pub data LoopEvent : Type 0 where
  -- a thread of the queue made a call, and reports it
  Calls : LiveEvent → Move → LoopEvent
  -- an event that doesn't change the queue
  Elsewhere : LiveEvent → LoopEvent
  -- a move that is no call's report
  Meanwhile : Move → LoopEvent
  -- the queue is reset by a thread that holds its lock
  Resets : LiveQueue → Life → LoopEvent
  -- the device moves, and so many threads serve the queue there
  MovesAway : Memory → List LiveQueue → Life → (threads : ℕ) → LoopEvent

-- a queue as it begins, and the threads' life with it: no chain is in flight
pub record IsBegunAs (q : LiveQueue) (l : Life) : Type 0 where
  pub size : l.size ≡ q.queue.size
  pub max_in_flight : l.max_in_flight ≡ q.max_in_flight
  pub by_event : l.by_event ≡ q.event_index
  pub place : l.place ≡ q.queue.position
  pub few : l.waiting ≤ l.size
  pub small : l.size < 2 ^ 16
  pub none_in_flight : HasNoneInFlight q
  pub valid : HasValidMaximum q

-- threads that no queue has yet
abbrev pub unserved : (threads : ℕ) → World
unserved threads = begun 0 0 0 false false threads

-- how each event leads from a state and a world to others
abbrev pub LeadsTo : {F : Type 0} → May F → ℕ → LiveState F → World → LoopEvent → LiveState F → World → Type 0
LeadsTo may i s w (Calls e move) s' w' =
    Happens may s e s'
    × (q : LiveQueue) × (slice_get s.queues i ≡ Some q)
    × IsMoveOf i q w e move
    × IsTrue (may_move (ways_in_run q) w move)
    × (w' ≡ after_move (ways_in_run q) w move)
LeadsTo may i s w (Elsewhere e) s' w' = Happens may s e s' × IsElsewhere i e × (w' ≡ w)
LeadsTo may i s w (Meanwhile move) s' w' =
    (s' ≡ s)
    × (q : LiveQueue) × (slice_get s.queues i ≡ Some q)
    × IsTrue (is_without_call move)
    × IsTrue (may_move (ways_in_run q) w move)
    × (w' ≡ after_move (ways_in_run q) w move)
LeadsTo may i s w (Resets q l) s' w' =
    Happens may s (ResetsQueue i q) s'
    × IsBegunAs q l
    × IsTrue (may_reset w.turns.phase)
    × (w' ≡ begun_again l w)
LeadsTo may i s w (MovesAway m queues l threads) s' w' =
    Happens may s (MovesDevice m queues) s'
    × (q : LiveQueue) × (slice_get queues i ≡ Some q)
    × IsBegunAs q l
    × (w' ≡ begun_again l (unserved threads))

abbrev pub LoopRun : {F : Type 0} → May F → ℕ → LiveState F → World → List LoopEvent → LiveState F → World →
    Type 0
LoopRun may i s w [] s' w' = (s' ≡ s) × (w' ≡ w)
LoopRun {F} may i s w (e ∷ es) s' w' =
    (mid : LiveState F) × (between : World)
    × LeadsTo may i s w e mid between
    × LoopRun may i mid between es s' w'

-- the queue is set up, and so many threads come to it
pub record Starts {F : Type 0} (i : ℕ) (s : LiveState F) (w : World) : Type 0 where
  pub q : LiveQueue
  pub there : slice_get s.queues i ≡ Some q
  pub life : Life
  pub begins : IsBegunAs q life
  pub threads : ℕ
  pub world : w ≡ begun_again life (unserved threads)

-- ---- the theorem

-- a chain of the queue is available, and may be popped
pub record HasChainIn (q : LiveQueue) (w : World) : Type 0 where
  pub available : w.index ≡ q.queue.position → ⊥
  pub may_pop : IsTrue (may_take q)
  pub not_paused : w.paused ≡ false
  pub not_owed : w.owes ≡ false
  pub checked : w.unchecked ≡ 0

-- theorem: the world stays the queue's
abbrev pub WorldStays : {F : Type 0} → May F → Type 0
WorldStays {F} may =
    (i : ℕ) (s end : LiveState F) (w last : World) (es : List LoopEvent) (q : LiveQueue)
    → Starts i s w
    → LoopRun may i s w es end last
    → slice_get end.queues i ≡ Some q
    → IsWorldIn q last

-- theorem: while a thread sleeps and nobody is on the way, no chain is available, nor does one wait whose
-- answer came later
abbrev pub NoTurnIsLostInRuns : {F : Type 0} → May F → Type 0
NoTurnIsLostInRuns {F} may =
    (i : ℕ) (s end : LiveState F) (w last : World) (es : List LoopEvent) (q : LiveQueue)
    → Starts i s w
    → LoopRun may i s w es end last
    → slice_get end.queues i ≡ Some q
    → IsForgotten last
    → HasChainIn q last ⊎ (0 < last.answered)
    → ⊥

-- theorem: once no thread holds the lock or has yet to interrupt the driver, no push wants an interrupt
abbrev pub NoInterruptIsLostInRuns : {F : Type 0} → May F → Type 0
NoInterruptIsLostInRuns {F} may =
    (i : ℕ) (s end : LiveState F) (w last : World) (es : List LoopEvent)
    → Starts i s w
    → LoopRun may i s w es end last
    → last.turns.phase ≡ Free
    → last.interrupters ≡ 0
    → last.undelivered ≡ false
