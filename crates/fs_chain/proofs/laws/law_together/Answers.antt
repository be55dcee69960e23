use Rattle.fs_chain.proofs.Together.{finds_own, joins_others, keeps_others, leaves_others}
use Rattle.fs_chain.proofs.laws.law_together.Goals as goal

pub returns-clause-finds : goal.returns-clause-finds
returns-clause-finds c = finds_own

pub returns-clause-keeps : goal.returns-clause-keeps
returns-clause-keeps c = keeps_others

pub returns-clause-leaves : goal.returns-clause-leaves
returns-clause-leaves c = leaves_others

pub returns-clause-joins : goal.returns-clause-joins
returns-clause-joins c = joins_others
