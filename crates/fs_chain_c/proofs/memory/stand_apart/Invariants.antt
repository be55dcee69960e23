use Rattle.std.proofs.Common.{◌≡◌, map}
use Rattle.vm_memory.specs.Collecting.{fault_of}
use Rattle.vm_memory.proofs.LayoutLemmas.{fault_from}
use Rattle.fs_chain_c.specs.Memory.{region_of}
use Rattle.fs_chain_c.proofs.memory.stand_apart.Given as goal

-- what is wrong is so from here on
abbrev pub invariant-loop-at : goal.invariant-loop-at
invariant-loop-at l = fault_of (map region_of l.regions) ≡ fault_from (map region_of l.regions) l.at
