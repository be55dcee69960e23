use Rattle.std.proofs.Common.{refl, true}
use Rattle.notify.specs.Kicks.{right}
use Rattle.law_callers.specs.Turns.{both_at_first, both_served, four_of_two, interrupts_driver}
use Rattle.law_callers.proofs.Serving.{both_of, four_is_small, zero_is_small}
use Rattle.law_callers.proofs.turns.interrupt_the_driver.Goals as goal

pub returns : goal.returns
returns c =
    let run = both_of four_of_two (right 4 true) both_at_first interrupts_driver refl in
    record {
      run = run;
      notified = c.law_no_turn_is_lost.ensures.none_unnotified 4 2 65535 0 7 1 0 9 true true true interrupts_driver both_served
          four_is_small zero_is_small run refl refl;
    }
