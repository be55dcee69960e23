-- The loop over resets: a queue begins again while its threads sleep, answer chains, or wait for the lock.
use Rattle.std.specs.Prelude.{◌≡◌, ℕ, ◌^◌, ◌<◌, ◌≤◌, Bool, false, ◌||◌, ◌⊎◌, IsTrue, List, [], ◌∷◌}
use Rattle.notify.specs.Kicks.{moved}
use Rattle.notify.specs.Threads.{Ways, right_ways}
use Rattle.fs_turns.specs.declared.machine.TurnPhase.TheVariants.{Free}
use Rattle.fs_turns.specs.Next.{reset_turns, is_free, may_reset}
use Rattle.fs_turns.specs.Worlds.{World, Move, Moves, HasChain, IsForgotten, begun}

-- from a reset to the next one: the queue as it begins, perhaps with other features, size and indices; and
-- the moves
pub record Life : Type 0 where
  pub size : ℕ
  pub max_in_flight : ℕ
  pub by_event : Bool
  pub place : ℕ
  pub waiting : ℕ
  pub event : ℕ
  pub muted : Bool
  pub moves : List Move

abbrev pub ways_in : Life → Ways
ways_in l = right_ways l.size l.max_in_flight l.by_event

-- a thread that holds the lock resets the queue: before its event, and then it signals the threads' event; or
-- in its own pop. Chains and answers from before aren't the queue's any more
abbrev pub begun_again : Life → World → World
begun_again l w =
    record w {
      index = moved l.place l.waiting;
      event = l.event;
      muted = l.muted;
      pending = w.pending || is_free w.turns.phase;
      published = moved l.place l.waiting;
      unchecked = 0;
      owes = false;
      position = l.place;
      known = l.place;
      wish = 0;
      hidden = false;
      out = 0;
      stored = false;
      turns = reset_turns w.turns l.by_event;
      answered = 0;
    }

-- a life begins only while no thread has an action to perform under the lock, but for a pop
abbrev pub Lives : World → List Life → World → Type 0
Lives w [] end = end ≡ w
Lives w (l ∷ ls) end =
    IsTrue (may_reset w.turns.phase)
    × (between : World)
    × Moves (ways_in l) (begun_again l w) l.moves between
    × Lives between ls end

-- theorem: no turn is lost, however often the queue was reset before
abbrev pub NoTurnIsLostOverResets : Type 0
NoTurnIsLostOverResets =
    (threads : ℕ) (before : List Life) (last : Life) (w end : World)
    → last.size < 2 ^ 16
    → last.place < 2 ^ 16
    → last.waiting ≤ last.size
    → Lives (begun 0 0 0 false false threads) before w
    → Lives w (last ∷ []) end
    → IsForgotten end
    → HasChain (ways_in last) end ⊎ (0 < end.answered)
    → ⊥

-- theorem: nor is an interrupt
abbrev pub NoInterruptIsLostOverResets : Type 0
NoInterruptIsLostOverResets =
    (threads : ℕ) (lives : List Life) (end : World)
    → Lives (begun 0 0 0 false false threads) lives end
    → end.turns.phase ≡ Free
    → end.interrupters ≡ 0
    → end.undelivered ≡ false
