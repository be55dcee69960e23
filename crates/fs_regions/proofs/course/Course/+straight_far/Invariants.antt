use Rattle.std.proofs.Common.{length}
use Rattle.fs_regions.proofs.course.Course.+straight_far.Given as goal

abbrev pub decreases-straight_far : goal.decreases-straight_far
decreases-straight_far l = length l.ahead.now
