use Rattle.live_machine.proofs.Rounds.{begins_with_all_marked, ends_with_whole_copy, rounds_lose_nothing}
use Rattle.live_machine.proofs.law_rounds.Goals as goal

pub returns-clause-begins : goal.returns-clause-begins
returns-clause-begins g c = begins_with_all_marked

pub returns-clause-rounds : goal.returns-clause-rounds
returns-clause-rounds g c = rounds_lose_nothing g.F.FileSystemBase.may

pub returns-clause-ends : goal.returns-clause-ends
returns-clause-ends g c = ends_with_whole_copy
