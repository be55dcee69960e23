use Rattle.std.proofs.Common.{◌≤◌}
use Rattle.fs_chain.specs.Passing.{HasPassed}
use Rattle.fs_chain.proofs.window_cursor.WindowCursor.pass.Given as goal

abbrev pub invariant-loop : goal.invariant-loop
invariant-loop l = record { passed : HasPassed l.write_only l.descriptors l.passed; below : l.passed.bytes ≤ l.from }
