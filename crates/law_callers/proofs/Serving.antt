-- The worked runs of a queue's threads compute.
use Rattle.std.proofs.Common.{arith, ◌≡◌, ◌^◌, ◌<◌, ◌≤◌, Bool, true, false, ◌&&◌, List, [], ◌∷◌, refl}
use Rattle.std.proofs.lemmas.Bool.{and_parts, ltb-true}
use Rattle.std.specs.Prelude.{nat_lt}
use Rattle.fs_turns.specs.declared.machine.TurnPhase.TheVariants.{Free}
use Rattle.notify.specs.Kicks.{Rules}
use Rattle.notify.specs.Threads.{Ways}
use Rattle.fs_turns.specs.Used.{BothMove, BothOver, BothRings, after_both, may_both}
use Rattle.fs_turns.specs.Worlds.{World, IsForgotten, Move, Moves, after_move, may_move}
use Rattle.law_callers.specs.Turns.{moved_both, moved_by}

abbrev pub are_allowed : Ways → World → List Move → Bool
are_allowed r w [] = true
are_allowed r w (e ∷ es) = may_move r w e && are_allowed r (after_move r w e) es

pub moves_of : (r : Ways) (w : World) (es : List Move) → are_allowed r w es ≡ true → Moves r w es (moved_by r w es)
moves_of r w [] h = refl
moves_of r w (e ∷ es) h =
    let p = and_parts (may_move r w e) (are_allowed r (after_move r w e) es) h in
    (p.0, moves_of r (after_move r w e) es p.1)

abbrev pub are_both_allowed : Ways → Rules → BothRings → List BothMove → Bool
are_both_allowed r q b [] = true
are_both_allowed r q b (e ∷ es) = may_both r q b e && are_both_allowed r q (after_both r q b e) es

pub both_of : (r : Ways) (q : Rules) (b : BothRings) (es : List BothMove) → are_both_allowed r q b es ≡ true
    → BothOver r q b es (moved_both r q b es)
both_of r q b [] h = refl
both_of r q b (e ∷ es) h =
    let p = and_parts (may_both r q b e) (are_both_allowed r q (after_both r q b e) es) h in
    (p.0, both_of r q (after_both r q b e) es p.1)

pub is_forgotten : (w : World) → w.turns.phase ≡ Free → nat_lt 0 w.sleepers ≡ true → w.woken ≡ 0 → w.coming ≡ 0 → w.signalers ≡ 0
    → w.pending ≡ false
    → IsForgotten w
is_forgotten w free some woken coming signals pending = record {
  nobody = free;
  sleeps = ltb-true 0 w.sleepers some;
  none_woken = woken;
  none_coming = coming;
  none_signals = signals;
  not_pending = pending;
}

pub zero_is_small : 0 < 2 ^ 16
zero_is_small = omega arith

pub three_is_small : 3 < 2 ^ 16
three_is_small = omega arith

pub four_is_small : 4 < 2 ^ 16
four_is_small = omega arith

pub eight_is_small : 8 < 2 ^ 16
eight_is_small = omega arith

pub last_is_small : 65535 < 2 ^ 16
last_is_small = omega arith

pub none_of_four : 0 ≤ 4
none_of_four = omega arith

pub one_of_eight : 1 ≤ 8
one_of_eight = omega arith
