use Rattle.std.proofs.Common.{[], ◌∷◌, List, None, refl, sym, true}
use Rattle.fs_regions.specs.declared.step.CourseStep.TheVariants as step
use Rattle.fuse_fs.specs.Calls.{Destroy, Done}
use Rattle.server_meanings.specs.Examples.{le16}
use Rattle.live_machine.specs.Live.{DecodesRequest, EndsPop, LiveEvent, PushesChain, ReceivesAnswer}
use Rattle.live_machine.specs.Overlap as overlap
use Rattle.live_machine.specs.Overlap.{at_positions, state}
use Rattle.fs_driven.proofs.both_served.serve_both.Goals as goal

-- two chains are popped, and returned in the other order
abbrev both : List LiveEvent
both =
    EndsPop 0 overlap.first_loads overlap.first_table (step.Chain 0 None)
    ∷ DecodesRequest overlap.first overlap.destroy (Destroy ∷ [])
    ∷ EndsPop 0 overlap.second_loads overlap.second_table (step.Chain 2 None)
    ∷ DecodesRequest overlap.second overlap.unknown []
    ∷ PushesChain overlap.second_asked overlap.second_exchange true 0 overlap.second_used (le16 0)
    ∷ ReceivesAnswer overlap.first_asked Destroy Done
    ∷ PushesChain overlap.first_answered overlap.first_exchange true 0 overlap.first_used (le16 0) ∷ []

pub returns : goal.returns
returns g c before after so =
    let run = c.law_examples.ensures.overlap before after so in
    let all = c.law_served.ensures.each (state before (at_positions 0 0) 1 []) (state after (at_positions 2 2) 0 []) both 0
    (at_positions 0 0) refl refl (tt, (tt, (tt, (tt, (tt, (tt, (tt, tt))))))) run in
    (both, run, refl, sym all)
