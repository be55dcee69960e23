use Rattle.std.proofs.Common.{length}
use Rattle.fs_driven.proofs.new_memory.+restore.Given as goal

abbrev pub decreases-restore : goal.decreases-restore
decreases-restore l = length l.queues.now
