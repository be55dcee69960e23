use Rattle.std.proofs.Common.{◌∙◌, ap}
use Rattle.vm_memory_core.specs.Host.{shape}
use Rattle.fs_device.proofs.HarvestLemmas.{shape-cleared}
use Rattle.fs_device.proofs.harvested.harvest.Goals as goal

pub returns-clause-shape : goal.returns-clause-shape
returns-clause-shape c = ap shape c.clear.ensures ∙ shape-cleared c.args.host.now
