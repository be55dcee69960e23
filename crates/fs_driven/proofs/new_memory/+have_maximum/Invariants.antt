use Rattle.std.proofs.Common.{length}
use Rattle.fs_driven.proofs.new_memory.+have_maximum.Given as goal

abbrev pub decreases-have_maximum : goal.decreases-have_maximum
decreases-have_maximum l = length l.queues.now
