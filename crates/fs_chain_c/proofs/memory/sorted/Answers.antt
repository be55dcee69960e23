use Rattle.std.proofs.Common.{rules, subst, sym}
use Rattle.std.specs.List.Sorted.{IsNonDecreasingBy}
use Rattle.std.proofs.lemmas.List.Sorted.{IsNonDecreasingBy-from_sort, answers_always}
use Rattle.fs_chain_c.specs.declared.memory.FsRegion.{FsRegion}
use Rattle.fs_chain_c.proofs.MemoryLemmas.{whole_slice}
use Rattle.fs_chain_c.proofs.memory.sorted.Goals as goal

pub returns-clause-ascending : goal.returns-clause-ascending
returns-clause-ascending c =
    let up = IsNonDecreasingBy-from_sort (λ (r : FsRegion). r.guest) _
    (c.sort_unstable_by_key.ensures.sorted (λ (r : FsRegion). r.guest) (answers_always _ _ _ (λ f a r g h. search rules))) in
    let all = whole_slice c.try_extend_from_slice.new.self.items c.sort_unstable_by_key.new.self (search rules) in
    subst (IsNonDecreasingBy (λ (r : FsRegion). r.guest)) (sym all) up
