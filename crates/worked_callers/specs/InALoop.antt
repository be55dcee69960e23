-- A thread serves the two chains of InARow.antt, one after the other, and interrupts the driver after each.
-- Then it sleeps, and once more after a signal.
use Rattle.std.specs.Prelude.{◌≡◌, ◌<◌, ◌⊎◌, false, true, List, [], ◌∷◌, ◌++◌, None, Some}
use Rattle.fs_queue.specs.Returning.{Store}
use Rattle.fs_regions.specs.declared.step.CourseStep.TheVariants as step
use Rattle.fs_regions.specs.Walks.{Loaded}
use Rattle.fuse_fs.specs.Calls.{Destroy, Done}
use Rattle.server_meanings.specs.Examples.{le16}
use Rattle.server_meanings.specs.Serving.{May}
use Rattle.live_machine.specs.Live.{DecodesRequest, EndsPop, PushesChain, ReceivesAnswer, StoresNotification}
use Rattle.live_machine.specs.Overlap.{at_positions, destroy, first, first_loads, first_table, second}
use Rattle.live_machine.specs.Overlap.{second_loads, second_table, state, unknown}
use Rattle.fs_turns.specs.declared.machine.TurnEvent.TheVariants.{Armed, Idle, Muted, Popped}
use Rattle.fs_turns.specs.Lives.{Life, begun_again}
use Rattle.fs_turns.specs.Worlds.{Comes, EntersBack, EntersWoken, Interrupts, IsForgotten, Reports}
use Rattle.fs_turns.specs.Worlds.{StoresWish, Wakens, WishArrives, World, after_move}
use Rattle.fs_turn_calls.specs.Loop.{Calls, Elsewhere, HasChainIn, IsWorldIn, LoopEvent, LoopRun, Meanwhile}
use Rattle.fs_turn_calls.specs.Loop.{unserved, ways_in_run}
use Rattle.worked_callers.specs.InARow.{first_asked, first_exchange, first_used, second_answered}
use Rattle.worked_callers.specs.InARow.{second_asked, second_exchange, second_used}

-- the queue of four descriptors, with two chains available
abbrev pub life : Life
life =
    record {
      size = 4;
      max_in_flight = 4;
      by_event = false;
      place = 0;
      waiting = 2;
      event = 0;
      muted = true;
      moves = [];
    }

-- one thread comes to it
abbrev pub at_first : World
at_first = begun_again life (unserved 1)

-- the stores to the used ring's flags that enable and disable notifications (VIRTIO 1.2, 2.7.10)
abbrev pub enables : Store
enables = record { address = 0x200; bytes = le16 0 }

abbrev pub disables : Store
disables = record { address = 0x200; bytes = le16 1 }

-- a pop that loads the index 2, at which no chain is available after both
abbrev pub index_alone : Loaded
index_alone = record { index = Some (le16 2); entry = None; entries = [] }

abbrev pub finds_none : LoopEvent
finds_none = Calls (EndsPop 0 index_alone [] step.Idle) (Reports (Idle false) true false)

-- the thread pops the first chain, disables notifications, and pushes the chain. The driver's flags want the
-- interrupt
abbrev pub serves_first : List LoopEvent
serves_first =
    Meanwhile (EntersBack 0 false true)
    ∷ Calls (EndsPop 0 first_loads first_table (step.Chain 0 None)) (Reports Popped true false)
    ∷ Calls (StoresNotification 0 disables) (Reports Muted true false)
    ∷ Elsewhere (DecodesRequest first unknown [])
    ∷ Meanwhile Comes
    ∷ Calls (PushesChain first_asked first_exchange true 0 first_used (le16 0)) (EntersBack 1 true true) ∷ []

-- the thread pops the second chain, and interrupts the driver because of the first. Then it pushes the second
abbrev pub serves_second : List LoopEvent
serves_second =
    Calls (EndsPop 0 second_loads second_table (step.Chain 2 None)) (Reports Popped true false)
    ∷ Meanwhile Interrupts
    ∷ Elsewhere (DecodesRequest second destroy (Destroy ∷ []))
    ∷ Elsewhere (ReceivesAnswer second_asked Destroy Done)
    ∷ Meanwhile Comes
    ∷ Calls (PushesChain second_answered second_exchange true 0 second_used (le16 0)) (EntersBack 1 true true)
    ∷ []

-- the thread enables notifications, finds no chain, sleeps, and interrupts the driver because of the second
-- chain. The event that was signalled as the queue began wakes it, and it sleeps again
abbrev pub sleeps_twice : List LoopEvent
sleeps_twice =
    finds_none
    ∷ Calls (StoresNotification 0 enables) StoresWish
    ∷ Meanwhile WishArrives
    ∷ Meanwhile (Reports Armed false false)
    ∷ finds_none
    ∷ Meanwhile Interrupts
    ∷ Meanwhile (Wakens true)
    ∷ Meanwhile (EntersWoken true)
    ∷ finds_none ∷ []

abbrev pub loop_events : List LoopEvent
loop_events = serves_first ++ serves_second ++ sleeps_twice

-- the world after the moves of these events, none of which resets the queue
abbrev pub world_after : World → List LoopEvent → World
world_after w [] = w
world_after w (Calls e move ∷ es) = world_after (after_move (ways_in_run (at_positions 0 0)) w move) es
world_after w (Meanwhile move ∷ es) = world_after (after_move (ways_in_run (at_positions 0 0)) w move) es
world_after w (_ ∷ es) = world_after w es

abbrev pub before_second : World
before_second = world_after at_first serves_first

abbrev pub before_sleep : World
before_sleep = world_after before_second serves_second

abbrev pub at_last : World
at_last = world_after before_sleep sleeps_twice

-- the run, and what the theorem says of its end
pub record SleepsServed {F : Type 0} (may : May F) (before after : F) : Type 0 where
  pub run : LoopRun may 0 (state before (at_positions 0 0) 1 []) at_first loop_events
      (state after (at_positions 2 2) 0 []) at_last
  pub forgotten : IsForgotten at_last
  pub stays : IsWorldIn (at_positions 2 2) at_last
  pub none_lost : HasChainIn (at_positions 2 2) at_last ⊎ (0 < at_last.answered) → ⊥
  pub interrupted : at_last.undelivered ≡ false
