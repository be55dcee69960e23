use Rattle.std.proofs.Common.{[], ◌∷◌, refl}
use Rattle.live_machine.specs.Overlap.{at_positions, state}
use Rattle.worked_callers.specs.InARow.{after_both, one, two, with_both}
use Rattle.worked_callers.proofs.InARowRun.{in_a_row}
use Rattle.worked_callers.proofs.live_queues.law_served_turns.Goals as goal

pub returns : goal.returns
returns g c before after so =
    c.law_serial.ensures.kick (state before (at_positions 0 0) 1 []) (state after (at_positions 2 2) 0 []) (one ∷ two ∷ []) with_both
    after_both 0 (at_positions 0 0) refl refl (refl, refl)
    (in_a_row g.F.FileSystemBase.may before after so)
