use Rattle.std.proofs.Common.{◌≡◌, ◌*◌, take}
use Rattle.vm_memory_core.specs.Parts.{EachFits, spelled_all}
use Rattle.vm_memory_core.proofs.copy.get_values.Given as goal

abbrev pub invariant-loop-k : goal.invariant-loop-k
invariant-loop-k g l = record {
  place : l.at ≡ l.k * g.T.ByteValued.SIZE;
  read : spelled_all g.T.ByteValued.fields (take l.k l.out) ≡ take l.at l.bytes;
  fits : EachFits g.T.ByteValued.fields (take l.k l.out);
}
