use Rattle.std.proofs.Common.{rules}
use Rattle.fs_chain_c.proofs.MemoryLemmas.{a_memory, all_sorted, no_memory}
use Rattle.fs_chain_c.proofs.memory.memory_of.Goals as goal

pub memory_of_sorted-requires : goal.memory_of_sorted-requires
memory_of_sorted-requires c =
    record {
      are =
          all_sorted c.args.regions.now c.in-Some-sorted.sorted.items c.as_slice.result.now (search rules) (search rules)
          (search rules);
    }

pub returns-in-Some-sorted-clause-ok : goal.returns-in-Some-sorted-clause-ok
returns-in-Some-sorted-clause-ok c =
    a_memory c.args.regions.now c.as_slice.result.now (search rules) (search rules) (search rules) (search rules)
    c.memory_of_sorted.result c.memory_of_sorted.ensures.ok c.memory_of_sorted.ensures.apart

pub returns-in-Some-sorted-clause-err : goal.returns-in-Some-sorted-clause-err
returns-in-Some-sorted-clause-err c =
    no_memory c.args.regions.now c.as_slice.result.now (search rules) (search rules) (search rules) (search rules)
    c.memory_of_sorted.result c.memory_of_sorted.ensures.err
