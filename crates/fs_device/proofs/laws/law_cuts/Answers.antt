use Rattle.fs_device.proofs.CutLemmas.{cuts, offers}
use Rattle.fs_device.proofs.laws.law_cuts.Goals as goal

pub returns-clause-cuts : goal.returns-clause-cuts
returns-clause-cuts g c = cuts g.F.FileSystemBase.may

pub returns-clause-offers : goal.returns-clause-offers
returns-clause-offers g c = offers g.F.FileSystemBase.may
