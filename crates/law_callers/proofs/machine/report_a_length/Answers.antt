use Rattle.std.proofs.Common.{[], true}
use Rattle.plain_machine.specs.Examples.{unknown_exchange, with_one_request}
use Rattle.law_callers.specs.Worked.{machine, replied}
use Rattle.law_callers.proofs.Steps.{unknown_step}
use Rattle.law_callers.proofs.machine.report_a_length.Goals as goal

pub returns : goal.returns
returns g c files =
    c.law_used_length.ensures (machine with_one_request files) (replied files) 0 [] unknown_exchange true
    (unknown_step g.F.FileSystemBase.may files)
