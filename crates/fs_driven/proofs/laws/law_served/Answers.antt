use Rattle.fs_driven.proofs.DriverServed.{driver_serves}
use Rattle.fs_driven.proofs.Served.{each_is_served, idle_finds_none}
use Rattle.fs_driven.proofs.laws.law_served.Goals as goal

pub returns-clause-each : goal.returns-clause-each
returns-clause-each g c = each_is_served _

pub returns-clause-idle : goal.returns-clause-idle
returns-clause-idle g c = idle_finds_none g.F.FileSystemBase.may

pub returns-clause-driver : goal.returns-clause-driver
returns-clause-driver g c = driver_serves
