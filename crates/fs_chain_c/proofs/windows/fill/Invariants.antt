use Rattle.std.proofs.Common.{◌≡◌, ◌≤◌, ◌+◌, ◌-◌, ◌^◌, ◌++◌, drop, length, List, min}
use Rattle.fs_chain.specs.Passing.{HasPassed}
use Rattle.fs_chain_c.specs.Windows.{AreStretches, covered}
use Rattle.fs_chain_c.specs.declared.windows.FsWindow.{FsWindow}
use Rattle.fs_chain_c.proofs.windows.fill.Given as goal

-- the stretches so far stand in front of what stood there, and the next one begins where they end
abbrev pub invariant-loop-k : goal.invariant-loop-k
invariant-loop-k l = record {
  found : List FsWindow;
  count : length found ≡ l.k;
  fits : l.k ≤ length l.windows;
  put : l.windows ≡ found ++ drop l.k l.initial.windows;
  are : AreStretches l.handle l.write_only l.from (min l.most (2 ^ 64 - 1 - l.from)) found;
  left : l.left + covered found ≡ min l.most (2 ^ 64 - 1 - l.from);
  at : l.at ≡ l.from + covered found;
  passed : HasPassed l.write_only l.handle.descriptors.items l.passed;
}
