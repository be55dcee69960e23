-- The pairs that were read, in front of those that are left, are all of them.
use Rattle.std.proofs.Common.{◌≡◌, ◌≤◌, ◌-◌, ◌++◌, Ok, length, vec_capacity}
use Rattle.fuse_fs.specs.Answers.{pair_numbers}
use Rattle.server_requests.specs.Reading.{and_then, many}
use Rattle.server_requests.specs.Fronts.{forget_pair}
use Rattle.server_requests.proofs.forgets.read_pairs.Given as goal

abbrev pub invariant-loop : goal.invariant-loop
invariant-loop g l = record {
  count : length l.pairs.items ≡ l.counter;
  most : l.counter ≤ l.count;
  room : l.count ≤ vec_capacity l.pairs;
  pairs : many l.count forget_pair l.initial.r.left
      ≡ and_then (many (l.count - l.counter) forget_pair l.r.left) (λ x. Ok (pair_numbers g.I.FileNumber.number l.pairs.items ++ x.0, x.1));
}
