use Rattle.std.proofs.Common.{rules, refl, inl, inr}
use Rattle.fs_chain_c.proofs.pushing.push_from_checked.Goals as goal

pub returns-in-Some : goal.returns-in-Some
returns-in-Some c = inl (
  search rules,
  (c.in-Ok.stores, search rules, search rules, search rules, inl (refl, search rules)),
  search rules,
  search rules,
)

pub returns-in-None : goal.returns-in-None
returns-in-None c = inl (
  search rules,
  (c.in-Ok.stores, search rules, search rules, search rules, inr (refl, search rules, c.in-None.ensures.none refl)),
  search rules,
  search rules,
)
