use Rattle.std.proofs.Common.{◌≡◌, ◌+◌, ◌*◌, ◌++◌, length, take, drop}
use Rattle.vm_memory_core.specs.Parts.{spelled_all}
use Rattle.vm_memory_core.proofs.copy.put_values.Given as goal

abbrev pub invariant-loop-k : goal.invariant-loop-k
invariant-loop-k g l = record {
  place : l.place ≡ l.at + l.k * g.T.ByteValued.SIZE;
  count : length (spelled_all g.T.ByteValued.fields (take l.k l.values)) ≡ l.k * g.T.ByteValued.SIZE;
  stored : l.buffer ≡ (take l.at l.fn.buffer ++ spelled_all g.T.ByteValued.fields (take l.k l.values)) ++ drop l.place l.fn.buffer;
}
