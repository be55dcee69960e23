-- The used ring beside the threads: there the device gives chains, and the driver takes them (crate notify,
-- Kicks).
-- Each push ends with the check whether to notify, and a thread interrupts the driver for that.
use Rattle.std.specs.Prelude.{◌≡◌, ℕ, ◌^◌, ◌<◌, ◌==◌, Bool, true, false, not, ◌&&◌, List, [], ◌∷◌, IsTrue}
use Rattle.notify.specs.Kicks.{ahead, must, Rules, right, start, NotifyState, NotifyStep, ChecksWish}
use Rattle.notify.specs.Kicks.{Notifies}
use Rattle.notify.specs.Kicks.{Asleep, may, after}
use Rattle.notify.specs.Threads.{Ways, right_ways}
use Rattle.fs_turns.specs.declared.machine.TurnPhase.TheVariants.{Free}
use Rattle.fs_turns.specs.Worlds.{World, Move, EntersBack, Interrupts, may_move, after_move, begun}

pub record BothRings : Type 0 where
  pub world : World
  pub used : NotifyState

pub data BothMove : Type 0 where
  -- a move of the world that neither pushes nor interrupts
  MovesOn : (e : Move) → BothMove
  -- the driver's step at the used ring; or the used index is stored, or reaches memory
  StepsOn : (e : NotifyStep) → BothMove
  -- a thread that pushed has checked whether to notify, and reports that with Back
  EndsPush : (pushed : ℕ) → (no_answer : Bool) → BothMove
  -- a thread interrupts the driver
  InterruptsDriver : BothMove

abbrev pub is_apart : Move → Bool
is_apart (EntersBack pushed notify no_answer) = pushed == 0 && not notify
is_apart Interrupts = false
is_apart _ = true

abbrev pub is_aside : NotifyStep → Bool
is_aside ChecksWish = false
is_aside Notifies = false
is_aside _ = true

-- the check: whether the driver is to be notified of the chains pushed since the last one
abbrev pub wants : Rules → NotifyState → Bool
wants q u = must q.by_event u.event u.muted u.published u.unchecked

abbrev pub may_both : Ways → Rules → BothRings → BothMove → Bool
may_both r q b (MovesOn e) = is_apart e && may_move r b.world e
may_both r q b (StepsOn e) = is_aside e && may q b.used e
may_both r q b (EndsPush pushed no_answer) =
    may_move r b.world (EntersBack pushed (wants q b.used) no_answer) && may q b.used ChecksWish
may_both r q b InterruptsDriver = may_move r b.world Interrupts

abbrev pub after_both : Ways → Rules → BothRings → BothMove → BothRings
after_both r q b (MovesOn e) = record b { world = after_move r b.world e }
after_both r q b (StepsOn e) = record b { used = after q b.used e }
after_both r q b (EndsPush pushed no_answer) =
    record {
      world = after_move r b.world (EntersBack pushed (wants q b.used) no_answer);
      used = after q b.used ChecksWish;
    }
after_both r q b InterruptsDriver =
    record { world = after_move r b.world Interrupts; used = after q b.used Notifies }

abbrev pub BothOver : Ways → Rules → BothRings → List BothMove → BothRings → Type 0
BothOver r q b [] end = end ≡ b
BothOver r q b (e ∷ es) end = IsTrue (may_both r q b e) × BothOver r q (after_both r q b e) es end

-- the driver sleeps, and more chains are used than it may sleep through; no interrupt is on its way, and no
-- push is before its check
pub record IsUnnotified (u : NotifyState) : Type 0 where
  pub asleep : u.phase ≡ Asleep
  pub used : u.skip < ahead u.index u.position
  pub not_pending : u.pending ≡ false
  pub checked : u.unchecked ≡ 0

-- theorem: then a thread holds the queue's lock, or has yet to interrupt the driver
abbrev pub NoUsedIsUnnotified : Type 0
NoUsedIsUnnotified =
    (size max_in_flight place waiting event threads used_place used_event : ℕ)
    (by_event muted used_muted : Bool) (es : List BothMove) (end : BothRings)
    → size < 2 ^ 16
    → used_place < 2 ^ 16
    → BothOver (right_ways size max_in_flight by_event) (right size by_event)
    (record {
      world = begun place waiting event muted by_event threads;
      used = start used_place 0 used_event used_muted;
    })
    es end
    → end.world.turns.phase ≡ Free
    → end.world.interrupters ≡ 0
    → IsUnnotified end.used
    → ⊥
