use Rattle.std.proofs.Common.{length}
use Rattle.fs_driven.proofs.new_memory.+are_idle.Given as goal

abbrev pub decreases-are_idle : goal.decreases-are_idle
decreases-are_idle l = length l.queues.now
