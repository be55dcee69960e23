use Rattle.std.proofs.Common.{refl, true}
use Rattle.law_callers.specs.Turns.{at_first, four_of_two, serves, served}
use Rattle.law_callers.proofs.Serving.{four_is_small, is_forgotten, last_is_small, moves_of, none_of_four}
use Rattle.law_callers.proofs.turns.sleep_and_serve.Goals as goal

pub returns : goal.returns
returns c =
    let run = moves_of four_of_two at_first serves refl in
    let forgotten = is_forgotten served refl refl refl refl refl refl in
    let law = c.law_no_turn_is_lost.ensures in
    record {
      run = run;
      forgotten = forgotten;
      none_lost = law.none_lost 4 2 65535 0 7 1 true true serves served four_is_small last_is_small none_of_four run forgotten;
      interrupted = law.none_forgotten 4 2 65535 0 7 1 true true serves served run refl refl;
    }
