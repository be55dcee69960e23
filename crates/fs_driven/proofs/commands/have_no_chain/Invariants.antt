use Rattle.std.proofs.Common.{◌-◌, length}
use Rattle.fs_driven.proofs.Resets.{NoneSoFar}
use Rattle.fs_driven.proofs.commands.have_no_chain.Given as goal

abbrev pub invariant-loop-k : goal.invariant-loop-k
invariant-loop-k l = NoneSoFar l.on l.number l.handles l.k

abbrev pub decreases-loop-k : goal.decreases-loop-k
decreases-loop-k l = length l.handles - l.k
