use Rattle.std.proofs.Common.{[], ◌∷◌}
use Rattle.fs_queue.specs.Chain.{IsChain, first_visit}
use Rattle.plain_machine.specs.Examples.{queue, with_one_request}
use Rattle.law_callers.specs.Worked.{second_step, two_descriptors}
use Rattle.law_callers.proofs.Steps.{chain_is_two, first_is_path, walk_ends}
use Rattle.law_callers.proofs.walks.follow_a_path.Goals as goal

pub returns-clause-path : goal.returns-clause-path
returns-clause-path c = c.law_paths.ensures.path with_one_request queue 0

pub returns-clause-front : goal.returns-clause-front
returns-clause-front c = c.law_paths.ensures.longest with_one_request queue 0 (first_visit queue 0 ∷ []) first_is_path

pub returns-clause-ends : goal.returns-clause-ends
returns-clause-ends c next follows =
    c.law_paths.ensures.ends with_one_request queue 0 (first_visit queue 0 ∷ []) second_step next walk_ends follows

pub returns-clause-finds : goal.returns-clause-finds
returns-clause-finds c = (c.law_paths.ensures.finds with_one_request queue 0 (IsChain two_descriptors)).0 chain_is_two
