use Rattle.std.proofs.Common.{◌≡◌, ◌≤◌, ◌+◌, ◌-◌, ◌^◌, ◌++◌, drop, length, List, min}
use Rattle.fs_chain_c.specs.Ranges.{AreReplyRanges, range_bytes}
use Rattle.fs_chain_c.specs.declared.ranges.FsRange.{FsRange}
use Rattle.fs_chain_c.proofs.ranges.fill_ranges.Given as goal

-- the stretches so far stand in front of what stood there, and the next one begins where they end
abbrev pub invariant-loop-k : goal.invariant-loop-k
invariant-loop-k l = record {
  found : List FsRange;
  count : length found ≡ l.k;
  fits : l.k ≤ length l.ranges;
  put : l.ranges ≡ found ++ drop l.k l.initial.ranges;
  are : AreReplyRanges l.handle l.from (min l.most (2 ^ 64 - 1 - l.from)) found;
  left : l.left + range_bytes found ≡ min l.most (2 ^ 64 - 1 - l.from);
  at : l.at ≡ l.from + range_bytes found;
}
