use Rattle.std.proofs.Common.{Some, None, sym, ◌∙◌}
use Rattle.fs_chain.proofs.Steps.{begins_where}
use Rattle.fs_chain.proofs.chain_handle.ChainHandle.begin_course.Goals as goal

pub returns-in-Some-clause-begins : goal.returns-in-Some-clause-begins
returns-in-Some-clause-begins c =
    begins_where _ _ _ _ _ (Some c.in-Some.error) c.requires.proceeds (sym c.in-Some.is ∙ c.event_fault.ensures)
    c.begin_without_events.ensures.lacks

pub returns-in-None-clause-begins : goal.returns-in-None-clause-begins
returns-in-None-clause-begins c =
    begins_where _ _ _ _ _ None c.requires.proceeds (sym c.in-None.is ∙ c.event_fault.ensures) c.begin_there.ensures.begins
