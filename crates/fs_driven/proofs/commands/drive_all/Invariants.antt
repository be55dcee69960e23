use Rattle.std.proofs.Common.{◌-◌, length}
use Rattle.fs_driven.proofs.Lists.{DrivenSoFar}
use Rattle.fs_driven.proofs.Rest.{LeavesRest}
use Rattle.fs_driven.proofs.commands.drive_all.Given as goal

abbrev pub invariant-loop-n : goal.invariant-loop-n
invariant-loop-n l = record {
  so_far : DrivenSoFar l.on l.page_size l.initial.handles l.handles l.initial.queues l.queues l.places l.initial.commands l.commands
      l.returned l.n;
  rest : LeavesRest l.places l.initial.commands l.commands l.initial.returned l.returned l.n;
}

abbrev pub decreases-loop-n : goal.decreases-loop-n
decreases-loop-n l = length l.places - l.n
