use Rattle.std.proofs.Common.{All, take}
use Rattle.fs_regions.specs.Using.{IsUntouched}
use Rattle.fs_regions.proofs.using.uses.Given as goal

-- those that were looked at are apart
abbrev pub invariant-loop-descriptor : goal.invariant-loop-descriptor
invariant-loop-descriptor l = All (IsUntouched l.iova l.len) (take l.descriptor-index l.descriptors)
