use Rattle.std.proofs.Common.{length}
use Rattle.fs_driven.proofs.new_memory.+set_each.Given as goal

abbrev pub decreases-set_each : goal.decreases-set_each
decreases-set_each l = length l.handles.now
