use Rattle.fs_notify.proofs.Returns.{checks, machine, order, publishes}
use Rattle.fs_notify.proofs.law_givers.Goals as goal

pub returns : goal.returns
returns c = record { publishes = publishes; checks = checks; order = order; machine = machine }
