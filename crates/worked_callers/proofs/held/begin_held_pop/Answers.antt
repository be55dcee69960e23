use Rattle.std.proofs.Common.{◌∙◌, ap}
use Rattle.fs_regions.specs.Walks.{nothing}
use Rattle.fs_chain.specs.Holds.{Pop, pop_of}
use Rattle.fs_chain.specs.declared.loads.LoadOutcome.TheVariants as outcomes
use Rattle.fs_chain.specs.declared.popping.PopOutcome as walked
use Rattle.worked_callers.proofs.HeldPop.{held_first}
use Rattle.worked_callers.proofs.held.begin_held_pop.Goals as goal

pub returns-in-On-Load : goal.returns-in-On-Load
returns-in-On-Load c =
    let end = c.in-On-Load in
    let old = c.args.handle.now in
    let new = c.pop.new.self in
    let q = c.args.queue.now in
    let p : Pop = pop_of q nothing in
    record {
      held = λ s i there places limit small.
          let held = held_first old new q c.pop.new.queue _ end.len s i c.requires.free
          (end.is ∙ ap (λ (k : walked.PopOutcome). outcomes.On k) end.field-0-is) c.in_ok-len.ensures.step there places limit small in
          (held, c.law_held.ensures.few s.limit p new held, λ j less. c.law_held.ensures.mapped s.limit p new j held less);
    }
