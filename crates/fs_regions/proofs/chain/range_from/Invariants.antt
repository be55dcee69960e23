use Rattle.std.proofs.Common.{[], drop}
use Rattle.fs_regions.specs.Places.{untranslated}
use Rattle.fs_regions.proofs.Directions.{Skips}
use Rattle.fs_regions.proofs.chain.range_from.Given as goal

abbrev pub invariant-loop-descriptor : goal.invariant-loop-descriptor
invariant-loop-descriptor l = Skips (untranslated []) l.write_only l.descriptors l.from l.skip (drop l.descriptor-index l.descriptors)
