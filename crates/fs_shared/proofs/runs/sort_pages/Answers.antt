use Rattle.std.proofs.Common.{List, ℕ, sym, subst}
use Rattle.std.proofs.Math.Dec.{eqb}
use Rattle.std.proofs.lemmas.List.Filters.{dedup_is}
use Rattle.std.proofs.lemmas.List.Kept.{Contains-dedup_nat, Contains-from_dedup}
use Rattle.std.proofs.lemmas.List.Sorted.{Contains-permutation, IsPermutation-sym}
use Rattle.std.proofs.lemmas.Map.Keys.{IsStrictlyIncreasing-dedup}
use Rattle.std.specs.List.{Contains}
use Rattle.std.specs.List.Sorted.{IsStrictlyIncreasing}
use Rattle.fs_shared.proofs.runs.sort_pages.Goals as goal

pub returns-clause-ascending : goal.returns-clause-ascending
returns-clause-ascending c =
    let left = dedup_is eqb c.sort_unstable.new.self.items c.dedup.new.self.items c.dedup.ensures.filtered in
    subst IsStrictlyIncreasing (sym left) (IsStrictlyIncreasing-dedup c.sort_unstable.new.self.items c.sort_unstable.ensures.sorted)

pub returns-clause-all : goal.returns-clause-all
returns-clause-all c page =
    let before = c.args.pages.now.items in
    let sorted = c.sort_unstable.new.self.items in
    let left = dedup_is eqb sorted c.dedup.new.self.items c.dedup.ensures.filtered in (
      (λ has. Contains-permutation sorted before page (IsPermutation-sym before sorted c.sort_unstable.ensures.permutation)
          (Contains-from_dedup eqb sorted page (subst (λ (xs : List ℕ). Contains xs page) left has))),
      (λ has. subst (λ (xs : List ℕ). Contains xs page) (sym left)
          (Contains-dedup_nat sorted page (Contains-permutation before sorted page c.sort_unstable.ensures.permutation has))),
    )
