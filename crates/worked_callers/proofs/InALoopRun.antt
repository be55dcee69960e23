-- A thread's loop over two chains is a run of the queue's threads.
use Rattle.std.proofs.Common.{arith, ◌≡◌, true, false, List, [], ◌∷◌, ◌++◌, refl, inl, inr, sym}
use Rattle.std.proofs.lemmas.List.Elements.{All-nil}
use Rattle.vm_memory.specs.Layout.{place}
use Rattle.vm_memory.specs.Memory.{addresses}
use Rattle.fs_regions.specs.declared.step.CourseStep.TheVariants as step
use Rattle.fs_regions.specs.Walks.{IsLost}
use Rattle.fuse_fs.specs.Calls.{Destroy, Done}
use Rattle.server_meanings.specs.Examples.{le16}
use Rattle.server_meanings.specs.Serving.{May}
use Rattle.plain_machine.specs.Examples.{blank}
use Rattle.live_machine.proofs.Queues.{some_none}
use Rattle.live_machine.specs.Live.{EndsPopSo, InFlightChain, PushesChain, StoresNotificationSo}
use Rattle.live_machine.specs.Overlap.{at_positions, first, second, state}
use Rattle.fs_turns.specs.declared.machine.TurnEvent.TheVariants.{Armed, Idle, Muted, Popped}
use Rattle.fs_turns.specs.Worlds.{Comes, EntersBack, EntersWoken, Interrupts, IsForgotten, Reports, StoresWish, Wakens, WishArrives, World}
use Rattle.fs_turns.specs.Worlds.{after_move, may_move}
use Rattle.fs_turn_calls.specs.Loop.{Calls, LeadsTo, LoopRun, Starts, ways_in_run}
use Rattle.worked_callers.specs.InALoop.{at_first, at_last, disables, enables, finds_none, index_alone, life, loop_events, serves_second}
use Rattle.worked_callers.specs.InALoop.{sleeps_twice}
use Rattle.worked_callers.specs.InARow.{first_asked, first_exchange, first_used, second_answered, second_asked}
use Rattle.worked_callers.specs.InARow.{second_exchange, second_used}
use Rattle.worked_callers.proofs.InARowRun.{first_asks, first_returns, first_walks, second_answers, second_asks, second_returns}
use Rattle.worked_callers.proofs.InARowRun.{second_walks}

-- ---- the pop that finds no chain, and the stores for notifications

not_true : false ≡ true → ⊥
not_true is = cc

finds_no_chain : {F : Type 0} (f : F) →
    EndsPopSo (state f (at_positions 2 2) 0 []) 0 index_alone [] step.Idle (state f (at_positions 2 2) 0 [])
unfolding place addresses
finds_no_chain f = record {
  w = at_positions 2 2;
  there = refl;
  room = refl;
  proceeds = refl;
  mapped = record { index = λ some. refl; entry = λ some. refl; entries = tt };
  ends = (((λ none. absurd (some_none (le16 2) none), λ none asks. absurd (not_true asks)), [], All-nil (IsLost blank), refl), refl);
}

disables_at_first : {F : Type 0} (f : F) (chains : List InFlightChain) →
    StoresNotificationSo (state f (at_positions 1 0) 1 chains) 0 disables (state f (at_positions 1 0) 1 chains)
unfolding place addresses
disables_at_first f chains =
    record { w = at_positions 1 0; there = refl; wanted = false; stores = refl; place = refl; state = refl }

enables_at_last : {F : Type 0} (f : F) →
    StoresNotificationSo (state f (at_positions 2 2) 0 []) 0 enables (state f (at_positions 2 2) 0 [])
unfolding place addresses
enables_at_last f = record { w = at_positions 2 2; there = refl; wanted = true; stores = refl; place = refl; state = refl }

pub starts : {F : Type 0} (f : F) → Starts 0 (state f (at_positions 0 0) 1 []) at_first
starts f = record {
  q = at_positions 0 0;
  there = refl;
  life = life;
  begins = record {
    size = refl;
    max_in_flight = refl;
    by_event = refl;
    place = refl;
    few = omega arith;
    small = omega arith;
    none_in_flight = (refl, omega arith);
    valid = (omega arith, omega arith);
  };
  threads = 1;
  world = refl;
}

-- the worlds after each move
abbrev world_1 : World
world_1 = after_move (ways_in_run (at_positions 0 0)) at_first (EntersBack 0 false true)

abbrev world_2 : World
world_2 = after_move (ways_in_run (at_positions 0 0)) world_1 (Reports Popped true false)

abbrev world_3 : World
world_3 = after_move (ways_in_run (at_positions 0 0)) world_2 (Reports Muted true false)

abbrev world_4 : World
world_4 = after_move (ways_in_run (at_positions 0 0)) world_3 Comes

abbrev world_5 : World
world_5 = after_move (ways_in_run (at_positions 0 0)) world_4 (EntersBack 1 true true)

abbrev world_6 : World
world_6 = after_move (ways_in_run (at_positions 0 0)) world_5 (Reports Popped true false)

abbrev world_7 : World
world_7 = after_move (ways_in_run (at_positions 0 0)) world_6 Interrupts

abbrev world_8 : World
world_8 = after_move (ways_in_run (at_positions 0 0)) world_7 Comes

abbrev world_9 : World
world_9 = after_move (ways_in_run (at_positions 0 0)) world_8 (EntersBack 1 true true)

abbrev world_10 : World
world_10 = after_move (ways_in_run (at_positions 0 0)) world_9 (Reports (Idle false) true false)

abbrev world_11 : World
world_11 = after_move (ways_in_run (at_positions 0 0)) world_10 StoresWish

abbrev world_12 : World
world_12 = after_move (ways_in_run (at_positions 0 0)) world_11 WishArrives

abbrev world_13 : World
world_13 = after_move (ways_in_run (at_positions 0 0)) world_12 (Reports Armed false false)

abbrev world_14 : World
world_14 = after_move (ways_in_run (at_positions 0 0)) world_13 (Reports (Idle false) true false)

abbrev world_15 : World
world_15 = after_move (ways_in_run (at_positions 0 0)) world_14 Interrupts

abbrev world_16 : World
world_16 = after_move (ways_in_run (at_positions 0 0)) world_15 (Wakens true)

abbrev world_17 : World
world_17 = after_move (ways_in_run (at_positions 0 0)) world_16 (EntersWoken true)

abbrev world_18 : World
world_18 = after_move (ways_in_run (at_positions 0 0)) world_17 (Reports (Idle false) true false)

-- ---- the run

pops_none : {F : Type 0} (may : May F) (f : F) (w : World) → w.index ≡ 2
    → may_move (ways_in_run (at_positions 2 2)) w (Reports (Idle false) true false) ≡ true
    → LeadsTo may 0 (state f (at_positions 2 2) 0 []) w finds_none (state f (at_positions 2 2) 0 [])
    (after_move (ways_in_run (at_positions 2 2)) w (Reports (Idle false) true false))
pops_none may f w two allowed =
    (finds_no_chain f, at_positions 2 2, refl, (refl, (false, true, false, (le16 2, refl, sym two), refl)), allowed, refl)

pushes_first : {F : Type 0} (may : May F) (f : F) → LeadsTo may 0 (state f (at_positions 1 0) 1 (first_asked ∷ [])) world_4
    (Calls (PushesChain first_asked first_exchange true 0 first_used (le16 0)) (EntersBack 1 true true)) (state f (at_positions 1 1) 1 [])
    world_5
pushes_first may f = (first_returns f, at_positions 1 0, refl, (refl, true, refl), refl, refl)

pushes_second : {F : Type 0} (may : May F) (f : F) → LeadsTo may 0 (state f (at_positions 2 1) 0 (second_answered ∷ [])) world_8
    (Calls (PushesChain second_answered second_exchange true 0 second_used (le16 0)) (EntersBack 1 true true))
    (state f (at_positions 2 2) 0 []) world_9
pushes_second may f = (second_returns f, at_positions 2 1, refl, (refl, true, refl), refl, refl)

-- the last part of the run, the second one, and the whole
asleep : {F : Type 0} (may : May F) (after : F) →
    LoopRun may 0 (state after (at_positions 2 2) 0 []) world_9 sleeps_twice (state after (at_positions 2 2) 0 []) at_last
asleep may after = (
  state after (at_positions 2 2) 0 [],
  world_10,
  pops_none may after world_9 refl refl,
  (
    state after (at_positions 2 2) 0 [],
    world_11,
    (enables_at_last after, at_positions 2 2, refl, (refl, inl (refl, refl)), refl, refl),
    (
      state after (at_positions 2 2) 0 [],
      world_12,
      (refl, at_positions 2 2, refl, refl, refl, refl),
      (
        state after (at_positions 2 2) 0 [],
        world_13,
        (refl, at_positions 2 2, refl, refl, refl, refl),
        (
          state after (at_positions 2 2) 0 [],
          world_14,
          pops_none may after world_13 refl refl,
          (
            state after (at_positions 2 2) 0 [],
            world_15,
            (refl, at_positions 2 2, refl, refl, refl, refl),
            (
              state after (at_positions 2 2) 0 [],
              world_16,
              (refl, at_positions 2 2, refl, refl, refl, refl),
              (
                state after (at_positions 2 2) 0 [],
                world_17,
                (refl, at_positions 2 2, refl, refl, refl, refl),
                (state after (at_positions 2 2) 0 [], world_18, pops_none may after world_17 refl refl, (refl, refl)),
              ),
            ),
          ),
        ),
      ),
    ),
  ),
)

after_first : {F : Type 0} (may : May F) (before after : F) → may before Destroy Done after →
    LoopRun may 0 (state before (at_positions 1 1) 1 []) world_5 (serves_second ++ sleeps_twice)
    (state after (at_positions 2 2) 0 []) at_last
after_first may before after so = (
  state before (at_positions 2 1) 1 (second ∷ []),
  world_6,
  (second_walks before, at_positions 1 1, refl, (refl, (true, false, (le16 2, refl, refl), refl)), refl, refl),
  (
    state before (at_positions 2 1) 1 (second ∷ []),
    world_7,
    (refl, at_positions 2 1, refl, refl, refl, refl),
    (
      state before (at_positions 2 1) 1 (second_asked ∷ []),
      world_7,
      (second_asks before, tt, refl),
      (
        state after (at_positions 2 1) 0 (second_answered ∷ []),
        world_7,
        (second_answers may before after so, tt, refl),
        (
          state after (at_positions 2 1) 0 (second_answered ∷ []),
          world_8,
          (refl, at_positions 2 1, refl, refl, refl, refl),
          (state after (at_positions 2 2) 0 [], world_9, pushes_second may after, asleep may after),
        ),
      ),
    ),
  ),
)

pub in_a_loop : {F : Type 0} (may : May F) (before after : F) → may before Destroy Done after →
    LoopRun may 0 (state before (at_positions 0 0) 1 []) at_first loop_events (state after (at_positions 2 2) 0 []) at_last
in_a_loop may before after so = (
  state before (at_positions 0 0) 1 [],
  world_1,
  (refl, at_positions 0 0, refl, refl, refl, refl),
  (
    state before (at_positions 1 0) 1 (first ∷ []),
    world_2,
    (first_walks before, at_positions 0 0, refl, (refl, (true, false, (le16 2, refl, refl), refl)), refl, refl),
    (
      state before (at_positions 1 0) 1 (first ∷ []),
      world_3,
      (disables_at_first before (first ∷ []), at_positions 1 0, refl, (refl, inr (refl, false, refl)), refl, refl),
      (
        state before (at_positions 1 0) 1 (first_asked ∷ []),
        world_3,
        (first_asks before, tt, refl),
        (
          state before (at_positions 1 0) 1 (first_asked ∷ []),
          world_4,
          (refl, at_positions 1 0, refl, refl, refl, refl),
          (state before (at_positions 1 1) 1 [], world_5, pushes_first may before, after_first may before after so),
        ),
      ),
    ),
  ),
)

pub is_forgotten : IsForgotten at_last
is_forgotten = record {
  nobody = refl;
  sleeps = omega arith;
  none_woken = refl;
  none_coming = refl;
  none_signals = refl;
  not_pending = refl;
}
