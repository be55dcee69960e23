-- Worked runs of a queue's threads (crate fs_turns).
use Rattle.std.specs.Prelude.{true, false, List, [], ◌∷◌, ◌++◌, map}
use Rattle.notify.specs.Kicks.{Rules, right, start}
use Rattle.notify.specs.Kicks as used
use Rattle.notify.specs.Threads.{Ways, right_ways}
use Rattle.fs_turns.specs.declared.machine.TurnEvent.TheVariants.{Armed, Idle, Muted, Popped, Resumed}
use Rattle.fs_turns.specs.Lives.{Life, begun_again, ways_in}
use Rattle.fs_turns.specs.Used.{BothMove, BothRings, EndsPush, InterruptsDriver, MovesOn, StepsOn, after_both}
use Rattle.fs_turns.specs.Worlds.{World, Move, after_move, begun}
use Rattle.fs_turns.specs.Worlds.{AnswerComes, Arrives, Comes, DriverChecks, DriverNotifies, EntersBack}
use Rattle.fs_turns.specs.Worlds.{EntersWoken, Gives, Interrupts, Reports, Signals, StoresWish, Wakens}
use Rattle.fs_turns.specs.Worlds.{WishArrives}

-- the world after these moves
abbrev pub moved_by : Ways → World → List Move → World
moved_by r w [] = w
moved_by r w (e ∷ es) = moved_by r (after_move r w e) es

-- a thread takes the lock, and pops
abbrev pub comes_back : Move
comes_back = EntersBack 0 false true

-- it finds no chain, enables notifications, finds none again, and sleeps
abbrev pub sleeps : List Move
sleeps =
    Reports (Idle false) true false ∷ StoresWish ∷ WishArrives ∷ Reports Armed false false
    ∷ Reports (Idle false) true false ∷ []

-- the driver makes a chain available, and notifies. A thread wakes, pops it, and has it answered
abbrev pub serves_one : List Move
serves_one =
    Gives 1 ∷ Arrives 1 ∷ DriverChecks ∷ DriverNotifies ∷ Wakens true ∷ EntersWoken true
    ∷ Reports Popped true false ∷ Comes ∷ []

-- four descriptors, and two chains in flight at most, with the event index. The driver waits for no event 7
abbrev pub four_of_two : Ways
four_of_two = right_ways 4 2 true

abbrev pub at_first : World
at_first = begun 65535 0 7 true true 1

-- a thread sleeps, serves the chain at position 65535, and sleeps
abbrev pub serves : List Move
serves = (comes_back ∷ sleeps ++ serves_one) ++ EntersBack 1 true true ∷ sleeps ++ Interrupts ∷ []

abbrev pub served : World
served = moved_by four_of_two at_first serves

-- the chain's answer comes later, while the thread sleeps. The thread takes the chain up
abbrev pub resumes : List Move
resumes =
    (comes_back ∷ sleeps ++ serves_one) ++ (comes_back ∷ sleeps)
    ++ AnswerComes ∷ Signals ∷ Wakens true ∷ EntersWoken false ∷ Reports (Resumed false) false false ∷ Comes
    ∷ EntersBack 1 true true ∷ Reports (Idle false) true false ∷ Interrupts ∷ []

abbrev pub resumed : World
resumed = moved_by four_of_two at_first resumes

-- ---- a reset in a pop

-- a thread sleeps, takes the event of this reset, and sleeps again; another one is to pop
abbrev pub before_reset : Life
before_reset = record {
  size = 4;
  max_in_flight = 2;
  by_event = true;
  place = 65535;
  waiting = 0;
  event = 7;
  muted = true;
  moves =
      (comes_back ∷ sleeps) ++ Wakens true ∷ EntersWoken true ∷ Reports (Idle false) true false
      ∷ comes_back ∷ [];
}

-- the queue is reset, and goes by flags. The thread pops its chain, pushes it, and sleeps
abbrev pub after_reset : Life
after_reset = record {
  size = 8;
  max_in_flight = 1;
  by_event = false;
  place = 3;
  waiting = 1;
  event = 0;
  muted = false;
  moves =
      Reports Popped true false ∷ Reports Muted true false ∷ Comes ∷ EntersBack 1 true true
      ∷ sleeps ++ Interrupts ∷ [];
}

abbrev pub no_queue : World
no_queue = begun 0 0 0 false false 2

abbrev pub to_pop : World
to_pop = moved_by (ways_in before_reset) (begun_again before_reset no_queue) before_reset.moves

abbrev pub both_sleep : World
both_sleep = moved_by (ways_in after_reset) (begun_again after_reset to_pop) after_reset.moves

-- ---- both rings

abbrev pub moved_both : Ways → Rules → BothRings → List BothMove → BothRings
moved_both r q b [] = b
moved_both r q b (e ∷ es) = moved_both r q (after_both r q b e) es

-- the driver waits for used chains
abbrev pub waits_for_used : List BothMove
waits_for_used = StepsOn (used.StoresWish 0) ∷ StepsOn used.WishArrives ∷ StepsOn used.FallsAsleep ∷ []

-- a thread serves a chain, and interrupts the driver, which takes the chain, and waits again
abbrev pub interrupts_driver : List BothMove
interrupts_driver =
    waits_for_used ++ map MovesOn (comes_back ∷ sleeps ++ serves_one)
    ++ StepsOn (used.Publishes 1) ∷ StepsOn (used.IndexArrives 1) ∷ EndsPush 1 true ∷ map MovesOn sleeps
    ++ InterruptsDriver ∷ StepsOn used.Wakes ∷ StepsOn used.Learns ∷ StepsOn (used.TakesChains 1)
    ∷ waits_for_used

abbrev pub both_at_first : BothRings
both_at_first = record { world = at_first; used = start 0 0 9 true }

abbrev pub both_served : BothRings
both_served = moved_both four_of_two (right 4 true) both_at_first interrupts_driver
