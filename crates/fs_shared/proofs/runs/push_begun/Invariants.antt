use Rattle.std.proofs.Common.{◌≡◌, ◌≤◌, ◌+◌, ◌++◌, take, vec_len, vec_capacity}
use Rattle.fs_shared.specs.Runs.{begun}
use Rattle.fs_shared.proofs.runs.push_begun.Given as goal

abbrev pub invariant-loop-run : goal.invariant-loop-run
invariant-loop-run l = record {
  items : l.pages.items ≡ l.initial.pages.items ++ begun l.count (take l.run-index l.runs);
  len : vec_len l.pages ≤ vec_len l.initial.pages + l.run-index;
  capacity : vec_capacity l.pages ≡ vec_capacity l.initial.pages;
}
