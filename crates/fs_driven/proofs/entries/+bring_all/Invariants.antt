use Rattle.std.proofs.Common.{length}
use Rattle.fs_driven.proofs.entries.+bring_all.Given as goal

abbrev pub decreases-bring_all : goal.decreases-bring_all
decreases-bring_all l = length l.entries.now
