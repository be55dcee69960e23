use Rattle.fs_device.proofs.MoveLemmas.{can_move_again, image_catches_up, moved_is_last, pages_have_places, stale_is_marked}
use Rattle.fs_device.proofs.laws.law_move.Goals as goal

pub returns-clause-stale : goal.returns-clause-stale
returns-clause-stale g c s after copy events p r stale = stale_is_marked g.F.FileSystemBase.may s after copy events p r stale

pub returns-clause-catches_up : goal.returns-clause-catches_up
returns-clause-catches_up g c s after copy events last r = image_catches_up g.F.FileSystemBase.may s after copy events last r

pub returns-clause-last : goal.returns-clause-last
returns-clause-last g c s after copy events last bytes options queues r here there =
    moved_is_last g.F.FileSystemBase.may s after copy events last bytes options queues r here there

pub returns-clause-places : goal.returns-clause-places
returns-clause-places g c s after copy events r = pages_have_places g.F.FileSystemBase.may s after copy events r

pub returns-clause-again : goal.returns-clause-again
returns-clause-again g c s after copy events r = can_move_again g.F.FileSystemBase.may s after copy events r
