use Rattle.fs_regions.specs.Walks.{queue_of}
use Rattle.fs_regions.proofs.Steps.{ends}
use Rattle.fs_regions.proofs.course.Course.at_progress.Goals as goal

pub returns-in-Wants-clause-comes : goal.returns-in-Wants-clause-comes
returns-in-Wants-clause-comes c =
    λ loaded waits size brings. c.at_entry.ensures.comes loaded waits (rw c.in-Wants.is at size) (rw c.in-Wants.is at brings)

pub returns-in-Ends-clause-comes : goal.returns-in-Ends-clause-comes
returns-in-Ends-clause-comes c = λ loaded waits size brings.
    c.ended.ensures.comes loaded waits (ends (queue_of c.args.self.now) loaded c.args.head c.args.descriptors.now c.in-Ends.walked
    (rw c.in-Ends.is at brings))
