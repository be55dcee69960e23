use Rattle.std.proofs.Common.{length, ℕ, ◌<◌, ◌^◌, slice_index, ◌≡◌, ◌+◌, ◌*◌, ◌++◌, take}
use Rattle.std.specs.Int.{w32}
use Rattle.vm_values.specs.Fields.{array, field_bytes}
use Rattle.vm_values.proofs.place.get_array.Given as goal

abbrev pub invariant-loop-k : goal.invariant-loop-k
invariant-loop-k g l = record {
  place : l.at ≡ l.fn.at + 4 * l.k;
  bytes : take l.at l.bytes ≡ take l.fn.at l.bytes ++ field_bytes (array w32 g.row.N (take l.k l.values));
  length : length l.values ≡ g.row.N;
  fits : (j : ℕ) → j < l.k → slice_index l.values j < 2 ^ 32;
}
