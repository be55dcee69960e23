use Rattle.std.proofs.Common.{drop}
use Rattle.std.specs.List.{AllByRecursion}
use Rattle.fs_device.proofs.TrackLemmas.{IsSized}
use Rattle.fs_device.proofs.laws.law_host_marks.Given as goal

abbrev pub invariant-loop-block : goal.invariant-loop-block
invariant-loop-block l = AllByRecursion IsSized (drop l.block l.host.blocks) → AllByRecursion IsSized l.host.blocks
