use Rattle.std.proofs.Common.{[], ◌∷◌, refl}
use Rattle.fs_turns.specs.Lives.{begun_again, ways_in}
use Rattle.law_callers.specs.Turns.{after_reset, before_reset, both_sleep, no_queue, to_pop}
use Rattle.law_callers.proofs.Serving.{eight_is_small, is_forgotten, moves_of, one_of_eight, three_is_small}
use Rattle.law_callers.proofs.turns.reset_in_a_pop.Goals as goal

pub returns : goal.returns
returns c =
    let first = moves_of (ways_in before_reset) (begun_again before_reset no_queue) before_reset.moves refl in
    let second = moves_of (ways_in after_reset) (begun_again after_reset to_pop) after_reset.moves refl in
    let forgotten = is_forgotten both_sleep refl refl refl refl refl refl in
    let law = c.law_no_turn_is_lost.ensures in
    record {
      run = (refl, to_pop, first, (refl, both_sleep, second, refl));
      forgotten = forgotten;
      none_lost = law.none_lost_over_resets 2 (before_reset ∷ []) after_reset to_pop both_sleep eight_is_small three_is_small one_of_eight
          (refl, to_pop, first, refl) (refl, both_sleep, second, refl) forgotten;
      interrupted = law.none_forgotten_over_resets 2 (before_reset ∷ after_reset ∷ []) both_sleep
          (refl, to_pop, first, (refl, both_sleep, second, refl)) refl refl;
    }
