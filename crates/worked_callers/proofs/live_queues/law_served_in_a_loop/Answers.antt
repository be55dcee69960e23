use Rattle.std.proofs.Common.{[], refl}
use Rattle.live_machine.specs.Overlap.{at_positions, state}
use Rattle.worked_callers.specs.InALoop.{at_first, at_last, loop_events}
use Rattle.worked_callers.proofs.InALoopRun.{in_a_loop, is_forgotten, starts}
use Rattle.worked_callers.proofs.live_queues.law_served_in_a_loop.Goals as goal

pub returns : goal.returns
returns g c before after so =
    let begun = starts before in
    let run = in_a_loop g.F.FileSystemBase.may before after so in
    let s = state before (at_positions 0 0) 1 [] in
    let end = state after (at_positions 2 2) 0 [] in
    let law = c.law_runs_lose_no_turn.ensures in
    record {
      run = run;
      forgotten = is_forgotten;
      stays = law.stays 0 s end at_first at_last loop_events (at_positions 2 2) begun run refl;
      none_lost = law.none_lost 0 s end at_first at_last loop_events (at_positions 2 2) begun run refl is_forgotten;
      interrupted = law.none_forgotten 0 s end at_first at_last loop_events begun run refl refl;
    }
