use Rattle.fs_queue.proofs.PathLemmas.{walks_are_paths, paths_are_fronts, nothing_follows}
use Rattle.fs_queue.proofs.FoundLemmas.{walks_find}
use Rattle.fs_queue.proofs.laws.law_paths.Goals as goal

pub returns-clause-path : goal.returns-clause-path
returns-clause-path c = walks_are_paths

pub returns-clause-longest : goal.returns-clause-longest
returns-clause-longest c = paths_are_fronts

pub returns-clause-ends : goal.returns-clause-ends
returns-clause-ends c = nothing_follows

pub returns-clause-finds : goal.returns-clause-finds
returns-clause-finds c = walks_find
