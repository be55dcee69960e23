use Rattle.std.proofs.Common.{[], ◌∷◌, refl, true}
use Rattle.fs_queue.specs.Returning.{advanced}
use Rattle.plain_machine.specs.Examples.{queue, unknown_exchange, with_one_request}
use Rattle.plain_machine.specs.Step.{Exchanged}
use Rattle.law_callers.specs.Worked.{machine, replied, unknown_effects, unknown_loads, unknown_offer}
use Rattle.law_callers.proofs.Steps.{unknown_by_loads, unknown_offered, unknown_step}
use Rattle.law_callers.proofs.machine.step_by_loads.Goals as goal

pub returns-clause-has : goal.returns-clause-has
returns-clause-has g c files =
    c.law_steps_by_loads.ensures.has (machine with_one_request files) 0 [] (Exchanged unknown_exchange true) (replied files)
    (unknown_step g.F.FileSystemBase.may files)

pub returns-clause-again : goal.returns-clause-again
returns-clause-again g c files =
    let h = c.law_steps_by_loads.ensures.has (machine with_one_request files) 0 [] (Exchanged unknown_exchange true) (replied files)
    (unknown_step g.F.FileSystemBase.may files) in (
      h,
      c.law_steps_by_loads.ensures.is_step (machine with_one_request files) 0 h.loads [] (Exchanged unknown_exchange true) h.effects
          (record (replied files) { memory = with_one_request }) h.are h.step,
    )

pub returns-clause-there : goal.returns-clause-there
returns-clause-there g c files =
    c.law_steps_by_loads.ensures.there (machine with_one_request files) 0 unknown_loads [] (Exchanged unknown_exchange true) unknown_effects
    (record (machine with_one_request files) { queues = advanced queue ∷ [] }) queue unknown_offer refl
    (unknown_offered files) (unknown_by_loads g.F.FileSystemBase.may files)
