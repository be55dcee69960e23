use Rattle.std.proofs.Common.{ℕ, ◌<◌, ◌^◌, slice_index, ◌≡◌, ◌+◌, ◌*◌, ◌++◌, take, drop}
use Rattle.std.specs.Int.{w32}
use Rattle.vm_values.specs.Fields.{array, field_bytes}
use Rattle.vm_values.proofs.place.put_array.Given as goal

abbrev pub invariant-loop-k : goal.invariant-loop-k
invariant-loop-k g l = record {
  place : l.at ≡ l.fn.at + 4 * l.k;
  bytes : take l.at l.out ≡ take l.fn.at l.fn.out ++ field_bytes (array w32 g.row.N (take l.k l.values));
  behind : drop l.at l.out ≡ drop l.at l.fn.out;
  fits : (j : ℕ) → j < l.k → slice_index l.values j < 2 ^ 32;
}
