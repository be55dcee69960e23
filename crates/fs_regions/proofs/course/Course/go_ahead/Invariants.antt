use Rattle.std.proofs.Common.{drop}
use Rattle.smallvec.specs.SmallVec.{SmallVec}
use Rattle.fs_queue.specs.Chain.{Descriptor}
use Rattle.fs_regions.specs.Ahead.{ProceedsAhead, loads_ahead}
use Rattle.fs_regions.specs.Walks.{queue_of}
use Rattle.fs_regions.specs.declared.step.CourseStep as comes
use Rattle.fs_regions.proofs.course.Course.go_ahead.Given as goal

-- going on from here with what is left of the loads is going on from the start with all of them
abbrev pub invariant-loop-one : goal.invariant-loop-one
invariant-loop-one l =
    (new : SmallVec Descriptor) (to : comes.CourseStep)
    → ProceedsAhead l.regions l.self.limit (queue_of l.self) (loads_ahead (drop l.one-index l.ahead) l.rest) l.descriptors l.step new to
    → ProceedsAhead l.regions l.self.limit (queue_of l.self) (loads_ahead l.ahead l.fn.bytes) l.fn.descriptors l.fn.step new to
